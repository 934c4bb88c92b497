-- Division that rounds down: beside `div_euclid` and `rem_euclid`, and with whole multiples of the divisor added.
use Rattle.std.proofs.Common.{◌≡◌, ℕ, ◌+◌, ◌*◌, ◌<◌, ◌≤◌, ◌⊎◌, inl, inr, ℤ, pos, negsuc, refl, ◌+ℤ◌, ◌-ℤ◌, ◌*ℤ◌, sym, ap, ◌∙◌, w64, of_z, arith}
use Rattle.std.specs.Int.{int_div_euclid, int_rem_euclid}
use Rattle.std.proofs.lemmas.Int.{ints}
use Rattle.std.proofs.lemmas.Bool.{cases_lt}
use borrow.Author.Differences.{sum_is_lem}
use Rattle.rr_model.specs.Whole.{floor_div, floor_mod}
use Rattle.rr_model.proofs.WholeLemmas.{floor_only, floor_whole, floor_mod_below}

-- ---- what `div_euclid` and `rem_euclid` give by a positive divisor

pub floor_div-int : (z : ℤ) (n : ℕ) → floor_div z n ≡ int_div_euclid z (pos n)
floor_div-int (pos a) n = refl
floor_div-int (negsuc a) n = refl

pub floor_mod-int : (z : ℤ) (n : ℕ) → pos (floor_mod z n) ≡ int_rem_euclid z (pos n)
floor_mod-int (pos a) n = refl
floor_mod-int (negsuc a) n = refl

-- the quotient as the code has it
pub quotient_is : (z r d : ℤ) (n : ℕ) → r ≡ int_div_euclid z (pos n) → z ≡ d → r ≡ floor_div d n
quotient_is z r d n e same = e ∙ ap (λ y. int_div_euclid y (pos n)) same ∙ sym (floor_div-int d n)

-- the remainder as the code has it
pub rest_is : (z r : ℤ) (n : ℕ) → 1 ≤ n → n < 4_294_967_296 → r ≡ int_rem_euclid z (pos n) → of_z w64 r ≡ floor_mod z n
rest_is z r n h few e = omega (arith, ints, e ∙ sym (floor_mod-int z n), floor_mod_below z n h)

-- ---- more whole turns

-- a product of a sum: both parts multiplied
pub *ℤ-add : (a b : ℤ) (n : ℕ) → (a +ℤ b) *ℤ pos n ≡ (a *ℤ pos n) +ℤ (b *ℤ pos n)
*ℤ-add a b n = let e = ap (λ x. x * n) (sum_is_lem a b) in omega (arith, ints, e)

floor-add : (z k : ℤ) (n : ℕ) → 0 < n → (floor_div (z +ℤ (k *ℤ pos n)) n ≡ floor_div z n +ℤ k) × (floor_mod (z +ℤ (k *ℤ pos n)) n ≡ floor_mod z n)
floor-add z k n h =
    floor_only (z +ℤ (k *ℤ pos n)) (floor_div z n +ℤ k) n (floor_mod z n) (floor_mod_below z n h)
    (omega (arith, ints, floor_whole z n h, *ℤ-add (floor_div z n) k n))

-- k more whole turns add k to the quotient
pub floor_div-add : (z k : ℤ) (n : ℕ) → 0 < n → floor_div (z +ℤ (k *ℤ pos n)) n ≡ floor_div z n +ℤ k
floor_div-add z k n h = (floor-add z k n h).0

-- and leave the remainder
pub floor_mod-add : (z k : ℤ) (n : ℕ) → 0 < n → floor_mod (z +ℤ (k *ℤ pos n)) n ≡ floor_mod z n
floor_mod-add z k n h = (floor-add z k n h).1

-- one more: the quotient grows exactly if the remainder comes to 0
pub floor_step : (y : ℤ) (n : ℕ) → 0 < n
    → ((floor_mod y n ≡ 0) × (floor_div y n ≡ floor_div (y -ℤ pos 1) n +ℤ pos 1)) ⊎ ((floor_mod y n ≡ 0 → ⊥) × (floor_div y n ≡ floor_div (y -ℤ pos 1) n))
floor_step y n h =
    let q = floor_div (y -ℤ pos 1) n in
    let r = floor_mod (y -ℤ pos 1) n in
    let w = floor_whole (y -ℤ pos 1) n h in
    let b = floor_mod_below (y -ℤ pos 1) n h in
    elim (cases_lt (r + 1) n) [
      | inl lt ↦ (let o = floor_only y q n (r + 1) lt (omega (arith, ints, w)) in inr ((λ e. absurd (omega (arith, o.1))), o.0))
      | inr ge ↦ (let o = floor_only y (q +ℤ pos 1) n 0 h (omega (arith, ints, w, *ℤ-add q (pos 1) n)) in inl (o.1, o.0))
    ]
