use Rattle.std.specs.Prelude.{Some}
use Rattle.rr_decide.specs.Question.{shown_by}
use Rattle.rr_decide.specs.Quiet.{ShowNothingBelow}
use Rattle.rr_model.specs.declared.question.Question.TheVariants.{Equal}
use Rattle.rr_decide.proofs.days.alike_up_to.Given as goal

-- the sets of the numbers before this one show nothing
abbrev pub invariant-loop-k : goal.invariant-loop-k
invariant-loop-k g l = ShowNothingBelow (shown_by Equal) (g.A.DaySeq.sets l.a) (g.B.DaySeq.sets l.b) (Some l.k)
