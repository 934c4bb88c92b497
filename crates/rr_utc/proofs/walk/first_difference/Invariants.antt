use Rattle.std.proofs.Common.{nat_abs, ◌-ℤ◌}
use Rattle.std.specs.Prelude.{pos, ◌*ℤ◌, ◌≤ℤ◌}
use Rattle.rr_model.specs.Sets.Sketch.{StandsIn}
use Rattle.rr_true.specs.Occurrences.{TrueOf}
use Rattle.rr_true.specs.Changes.{offset_of}
use Rattle.rr_utc.specs.Between.{AgreeBetween}
use Rattle.rr_utc.specs.Seen.{AreEqualDays, IsCalm}
use Rattle.rr_utc.proofs.walk.first_difference.Given as goal

-- the two agree on the days before this one, the stretch is calm, and what is remembered is about equal days
abbrev pub invariant-loop-day : goal.invariant-loop-day
invariant-loop-day g l =
    (l.from ≤ℤ l.day)
    × AgreeBetween (TrueOf (offset_of l.zone_a) (StandsIn (g.A.DaySeq.sketch l.a))) (TrueOf (offset_of l.zone_b) (StandsIn (g.B.DaySeq.sketch l.b)))
    (l.from *ℤ pos 86_400) (l.day *ℤ pos 86_400)
    × IsCalm (offset_of l.zone_a) (offset_of l.zone_b) l.calm
    × AreEqualDays (g.A.DaySeq.sets l.a) (g.A.DaySeq.sketch l.a) (offset_of l.zone_a) (g.B.DaySeq.sets l.b) (g.B.DaySeq.sketch l.b) (offset_of l.zone_b) l.seen

abbrev pub decreases-loop-day : goal.decreases-loop-day
decreases-loop-day g l = nat_abs (l.end -ℤ l.day)
