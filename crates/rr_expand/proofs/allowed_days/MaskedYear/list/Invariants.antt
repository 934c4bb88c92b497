use Rattle.std.proofs.Common.{ℤ, pos, ◌-◌, ◌≤◌, ◌+ℤ◌, ◌≤ℤ◌}
use Rattle.rr_expand.specs.Years.{Filling}
use Rattle.rr_expand.specs.KeptMasks.{ListAllowed, TellsYear}
use Rattle.rr_expand.proofs.allowed_days.MaskedYear.list.Given as goal

abbrev pub invariant-loop-bit : goal.invariant-loop-bit
invariant-loop-bit l = (l.bit ≤ l.last) × (l.fn.from ≤ℤ (l.self.first +ℤ pos l.bit))
    × ((f : Filling) (first : ℤ) → first ≤ℤ l.fn.from → TellsYear f l.self → ListAllowed f first l.fn.from l.fn.days.items
    → ListAllowed f first (l.self.first +ℤ pos l.bit) l.days.items)

abbrev pub decreases-loop-bit : goal.decreases-loop-bit
decreases-loop-bit l = l.last - l.bit
