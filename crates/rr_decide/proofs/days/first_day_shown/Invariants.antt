use Rattle.std.specs.Prelude.{◌-◌, ◌≤◌, pos, ◌+ℤ◌}
use Rattle.rr_decide.specs.Question.{ShowsNoneWithin, shown_by}
use Rattle.rr_decide.specs.Quiet.{IsQuiet}
use Rattle.rr_decide.proofs.days.first_day_shown.Given as goal

-- the days before this one show nothing, nor does what is remembered
abbrev pub invariant-loop-k : goal.invariant-loop-k
invariant-loop-k g l =
    (l.k ≤ l.days)
    × ShowsNoneWithin (shown_by l.question) (g.A.DaySeq.sketch l.a) (g.B.DaySeq.sketch l.b) l.from (l.from +ℤ pos l.k)
    × IsQuiet (shown_by l.question) (g.A.DaySeq.sets l.a) (g.B.DaySeq.sets l.b) l.quiet

abbrev pub decreases-loop-k : goal.decreases-loop-k
decreases-loop-k g l = l.days - l.k
