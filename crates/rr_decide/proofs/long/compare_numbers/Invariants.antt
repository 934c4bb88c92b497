use Rattle.std.specs.Prelude.{◌+◌, ◌-◌, ◌≤◌, pos, ◌+ℤ◌}
use Rattle.rr_decide.specs.Alike.{AreAlike}
use Rattle.rr_decide.specs.Question.{ShowsNoneWithin, shown_by}
use Rattle.rr_model.specs.declared.question.Question.TheVariants.{Equal}
use Rattle.rr_decide.proofs.long.compare_numbers.Given as goal

-- the days before this one are alike, and the sets of the numbers too
abbrev pub invariant-loop-from : goal.invariant-loop-from
invariant-loop-from g l =
    (l.from ≤ l.end)
    × ShowsNoneWithin (shown_by Equal) (g.A.DaySeq.sketch l.a) (g.B.DaySeq.sketch l.b) l.day (l.day +ℤ pos (l.from + 1))
    × AreAlike (g.A.DaySeq.sets l.a) (g.B.DaySeq.sets l.b) l.alike

abbrev pub decreases-loop-from : goal.decreases-loop-from
decreases-loop-from g l = l.end - l.from
