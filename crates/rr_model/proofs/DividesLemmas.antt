-- What divides a whole number.
use Rattle.std.proofs.Common.{◌≡◌, ℕ, ◌≤◌, true, ℤ, pos, ◌+ℤ◌, ◌*ℤ◌, refl, arith}
use Rattle.std.proofs.lemmas.Bool.{eq-eqb}
use Rattle.rr_model.specs.Whole.{divides, floor_mod}
use Rattle.rr_model.proofs.FloorLemmas.{floor_mod-add}
use Rattle.rr_model.proofs.WholeLemmas.{floor_mod_below}

-- 1 divides each number
pub one_divides : (z : ℤ) → divides 1 z ≡ true
one_divides z = eq-eqb (floor_mod z 1) 0 (omega (arith, floor_mod_below z 1 (omega arith)))

-- whole multiples more leave what is divisible
pub divides-add : (n : ℕ) (x k : ℤ) → 1 ≤ n → divides n (x +ℤ (k *ℤ pos n)) ≡ divides n x
divides-add n x k h = rw (floor_mod-add x k n h) refl
