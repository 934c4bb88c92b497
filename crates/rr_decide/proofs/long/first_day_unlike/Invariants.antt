use Rattle.std.specs.Prelude.{◌+◌, ◌-◌, ◌*◌, ◌≤◌, pos, ◌+ℤ◌}
use Rattle.rr_decide.specs.Alike.{AreAlike}
use Rattle.rr_decide.specs.Question.{ShowsNoneWithin, shown_by}
use Rattle.rr_model.specs.declared.question.Question.TheVariants.{Equal}
use Rattle.rr_decide.proofs.long.first_day_unlike.Given as goal

-- the days before this one are alike, the sets of the numbers too, and a day took two steps at most
abbrev pub invariant-loop-k : goal.invariant-loop-k
invariant-loop-k g l =
    (l.k ≤ l.days)
    × ShowsNoneWithin (shown_by Equal) (g.A.DaySeq.sketch l.a) (g.B.DaySeq.sketch l.b) l.from (l.from +ℤ pos l.k)
    × AreAlike (g.A.DaySeq.sets l.a) (g.B.DaySeq.sets l.b) l.alike
    × (l.steps ≤ l.initial.steps + 2 * l.k)

abbrev pub decreases-loop-k : goal.decreases-loop-k
decreases-loop-k g l = l.days - l.k
