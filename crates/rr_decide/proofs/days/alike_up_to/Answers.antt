use Rattle.std.proofs.Common.{arith}
use Rattle.rr_decide.specs.Question.{shown_by}
use Rattle.rr_model.specs.declared.question.Question.TheVariants.{Equal}
use Rattle.rr_decide.proofs.QuietLemmas.{alike_fewer, alike_more}
use Rattle.rr_decide.proofs.days.alike_up_to.Goals as goal

pub loop-k-preserved : goal.loop-k-preserved
loop-k-preserved g c =
    alike_more (g.A.DaySeq.sets c.args.a.now) (g.B.DaySeq.sets c.args.b.now) c.loop-k.k _ _ c.loop-k.invariant c.times-of_a.ensures c.times-of_b.ensures
    (c.are_equal.ensures.0 c.if-not-are_equal.false)

pub returns : goal.returns
returns g c =
    alike_fewer (shown_by Equal) (g.A.DaySeq.sets c.args.a.now) (g.B.DaySeq.sets c.args.b.now) c.loop-k.k _ (omega arith) c.loop-k.invariant
