use Rattle.std.proofs.Common.{length, ap, arith}
use Rattle.rr_events.specs.Cutting.{AreEmpty}
use Rattle.rr_events.proofs.EmptyLemmas.{empty-few, empty-shorter}
use Rattle.rr_events.proofs.cut.after_empty_lines.Goals as goal

pub loop-after-init : goal.loop-after-init
loop-after-init c = AreEmpty.none

pub overflow_add-rest : goal.overflow_add-rest
overflow_add-rest c = record {
  fits =
      omega (
        arith,
        empty-few c.args.number c.args.text.now c.loop-after.rest.text.now c.loop-after.rest.number c.loop-after.invariant,
        ap length c.in-Some.ensures.is,
        c.requires,
      );
}

pub loop-after-preserved : goal.loop-after-preserved
loop-after-preserved c =
    AreEmpty.more c.loop-after.rest.text.now c.in-Some.after.now c.loop-after.rest.number c.loop-after.invariant c.in-Some.ensures

pub returns-clause-shorter : goal.returns-clause-shorter
returns-clause-shorter c = empty-shorter c.args.number c.args.text.now c.loop-after.rest.text.now c.loop-after.rest.number c.loop-after.invariant

pub returns-clause-few : goal.returns-clause-few
returns-clause-few c = empty-few c.args.number c.args.text.now c.loop-after.rest.text.now c.loop-after.rest.number c.loop-after.invariant
