use Rattle.std.specs.Prelude.{◌≤ℤ◌}
use Rattle.std.specs.Int.{int_gap}
use Rattle.rr_true.specs.Changes.{offset_of}
use Rattle.rr_utc.specs.Zones.{AreOneBetween}
use Rattle.rr_utc.proofs.begin.first_parted.Given as goal

-- up to this moment the offsets are equal
abbrev pub invariant-loop-at : goal.invariant-loop-at
invariant-loop-at l = (l.from ≤ℤ l.at) × AreOneBetween (offset_of l.a) (offset_of l.b) l.from l.at

abbrev pub decreases-loop-at : goal.decreases-loop-at
decreases-loop-at l = int_gap l.at l.end
