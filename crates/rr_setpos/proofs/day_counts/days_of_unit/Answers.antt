use Rattle.std.proofs.Common.{◌≡◌, ℕ, ℤ, pos, ◌+ℤ◌, ◌-ℤ◌, nat_abs, FitsSigned, to_z-of_z, w64, arith}
use Rattle.std.proofs.lemmas.Int.{ints}
use Rattle.rr_setpos.proofs.day_counts.days_of_unit.Goals as goal

-- The distance of two numbers, one of which lies so far above the other.
far : (first next : ℤ) (length : ℕ) → next ≡ first +ℤ pos length → nat_abs (next -ℤ first) ≡ length
far first next length is = omega (arith, ints)

pub days_among-requires-clause-first : goal.days_among-requires-clause-first
days_among-requires-clause-first c =
    let fits : FitsSigned w64 c.first_of_unit-first.result = record { sfits = c.first_of_unit-first.type_inv } in
    rw (to_z-of_z fits) c.first_of_unit-first.ensures.near

pub days_among-requires-clause-last : goal.days_among-requires-clause-last
days_among-requires-clause-last c =
    let fits : FitsSigned w64 c.first_of_unit-first.result = record { sfits = c.first_of_unit-first.type_inv } in
    rw (to_z-of_z fits, c.first_of_unit-first.ensures.value) c.length_of_unit.ensures.near

pub returns-clause-value : goal.returns-clause-value
returns-clause-value c =
    let fits : FitsSigned w64 c.first_of_unit-first.result = record { sfits = c.first_of_unit-first.type_inv } in
    rw (far _ _ _ c.length_of_unit.ensures.next) (rw (to_z-of_z fits, c.first_of_unit-first.ensures.value) at c.days_among.ensures.value)
