use Rattle.std.proofs.Common.{ℤ, pos, ◌+ℤ◌, ◌-ℤ◌, ◌≤ℤ◌, ◌<ℤ◌}
use Rattle.std.specs.Int.{int_gap}
use Rattle.rr_true.specs.Changes.{offset_of}
use Rattle.rr_true.specs.Moments.{local_at}
use Rattle.rr_true.proofs.search.first_reached.Given as goal

-- local time is earlier at each moment before the next stretch
abbrev pub invariant-loop-span : goal.invariant-loop-span
invariant-loop-span l =
    ((l.fn.local -ℤ pos 86_400) ≤ℤ l.from) × (l.from ≤ℤ (l.fn.local +ℤ pos 86_400)) × ((v : ℤ) → v <ℤ l.from → local_at (offset_of l.offsets) v <ℤ l.fn.local)

abbrev pub decreases-loop-span : goal.decreases-loop-span
decreases-loop-span l = int_gap l.from (l.fn.local +ℤ pos 86_401)
