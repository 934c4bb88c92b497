use Rattle.std.proofs.Common.{arith, ◌∙◌}
use Rattle.rr_events.proofs.LineLemmas.{cut-of, no-cut}
use Rattle.rr_icalfile.proofs.KeyLemmas.{uid-ends, uid-next, uid-none}
use Rattle.rr_icalfile.proofs.key.uid_of.Goals as goal

pub loop-names-preserved : goal.loop-names-preserved
loop-names-preserved c =
    let cut = cut-of c.loop-names.rest.number c.loop-names.rest.text.now _ c.in-Some.cut c.in-Some.is c.in_ok-cut.ensures in
    let left = c.after_empty_lines-rest in
    record {
      same =
          uid-next c.loop-names.names c.loop-names.rest.number c.loop-names.rest.text.now c.in-Some.cut.line c.in-Some.cut.after.now
          c.in-Some.cut.next c.uid_by.new.names left.result.text.now left.result.number _ cut left.ensures.empty (rw c.in_default-2.is at c.in_ok-uid.ensures)
          c.loop-names.invariant.same;
      few = omega (arith, left.ensures.few, cut.one.few, c.loop-names.invariant.few);
    }

pub returns-in-Some-2 : goal.returns-in-Some-2
returns-in-Some-2 c =
    let cut = cut-of c.loop-names.rest.number c.loop-names.rest.text.now _ c.in-Some.cut c.in-Some.is c.in_ok-cut.ensures in
    uid-ends c.loop-names.names c.loop-names.rest.number c.loop-names.rest.text.now c.in-Some.cut.line c.in-Some.cut.after.now c.in-Some.cut.next
    c.in-Some-2.uid _ cut (rw c.in-Some-2.is at c.in_ok-uid.ensures) c.loop-names.invariant.same

pub returns : goal.returns
returns c =
    c.new.ensures
    ∙ uid-none c.loop-names.names c.loop-names.rest.number c.loop-names.rest.text.now _
    (no-cut c.loop-names.rest.number c.loop-names.rest.text.now _ c.in_default.is c.in_ok-cut.ensures) c.loop-names.invariant.same
