use Rattle.std.proofs.Common.{◌≡◌, ℕ, ℤ, pos, ◌+◌, ◌-◌, ◌≤◌, ◌+ℤ◌, ◌≤ℤ◌, vec_capacity, vec_len}
use Rattle.rr_expand.specs.Years.{AreBitsBetween, Filling}
use Rattle.rr_expand.specs.KeptMasks.{ListAllowed, TellsYear}
use Rattle.rr_expand.proofs.allowed_days.MaskedYear.list_word.Given as goal

abbrev pub invariant-loop-rest : goal.invariant-loop-rest
invariant-loop-rest l = (bit : ℕ) × ((l.day ≡ l.self.first +ℤ pos bit) × (l.fn.from ≤ bit) × (bit ≤ l.end)
    × AreBitsBetween l.self.mask.bits bit l.end l.rest × (vec_len l.days + (l.end - bit) ≤ vec_capacity l.days)
    × ((f : Filling) (first : ℤ) → first ≤ℤ (l.self.first +ℤ pos l.fn.from) → TellsYear f l.self
    → ListAllowed f first (l.self.first +ℤ pos l.fn.from) l.fn.days.items → ListAllowed f first (l.self.first +ℤ pos bit) l.days.items))

abbrev pub decreases-loop-rest : goal.decreases-loop-rest
decreases-loop-rest l = l.rest
