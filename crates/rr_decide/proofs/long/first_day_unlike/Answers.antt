use Rattle.std.proofs.Common.{w64, to_z, of_z, refl, arith}
use Rattle.std.proofs.lemmas.Int.{ints, to_z-of_z}
use Rattle.rr_decide.specs.Question.{shown_by}
use Rattle.rr_model.specs.declared.question.Question.TheVariants.{Equal}
use Rattle.rr_decide.proofs.WindowLemmas.{first_joined, none_joined, none_to_end}
use Rattle.rr_decide.proofs.long.first_day_unlike.Goals as goal

pub returns-in-Differs-clause-some : goal.returns-in-Differs-clause-some
returns-in-Differs-clause-some g c =
    first_joined (shown_by Equal) (g.A.DaySeq.sketch c.args.a.now) (g.B.DaySeq.sketch c.args.b.now) c.args.from
    (to_z w64 (of_z w64 c.args.from)) _ c.in-Differs.shown.day c.loop-k.k c.in-Differs.shown.second c.in-Differs.shown.side
    (to_z-of_z w64 c.args.from c.ranges.from) (omega (arith, ints)) c.loop-k.invariant.1 c.in-Differs.ensures.run.0

pub returns-in-Differs-clause-high : goal.returns-in-Differs-clause-high
returns-in-Differs-clause-high g c = c.in-Differs.ensures.run.1

pub returns-in-Differs-clause-few : goal.returns-in-Differs-clause-few
returns-in-Differs-clause-few g c = omega (arith, c.loop-k.invariant.3, c.in-Differs.ensures.few, c.loop-k-test.true)

pub loop-k-preserved : goal.loop-k-preserved
loop-k-preserved g c = (
  omega (arith, c.in-Agrees.ensures.run.1, c.loop-k-test.true),
  none_joined (shown_by Equal) (g.A.DaySeq.sketch c.args.a.now) (g.B.DaySeq.sketch c.args.b.now) (to_z w64 (of_z w64 c.args.from)) _ c.loop-k.k
      c.in-Agrees.count _ (omega (arith, ints)) refl c.loop-k.invariant.1 c.in-Agrees.ensures.run.2,
  c.in-Agrees.ensures.run.3,
  omega (arith, c.loop-k.invariant.3, c.in-Agrees.ensures.few),
)

pub loop-k-smaller : goal.loop-k-smaller
loop-k-smaller g c = omega (arith, c.in-Agrees.ensures.run.0, c.in-Agrees.ensures.run.1, c.loop-k-test.true)

pub returns-clause-none : goal.returns-clause-none
returns-clause-none g c =
    none_to_end (shown_by Equal) (g.A.DaySeq.sketch c.args.a.now) (g.B.DaySeq.sketch c.args.b.now) c.args.from
    (to_z w64 (of_z w64 c.args.from)) c.loop-k.k c.args.days (to_z-of_z w64 c.args.from c.ranges.from) (omega arith) c.loop-k.invariant.1
