-- Sums of moments that are near fit 64 bits.
use Rattle.std.proofs.Common.{◌≡◌, ℕ, ◌<◌, ◌≤◌, FitsSigned, w64, to_z, of_z, to_z-of_z, ℤ, pos, negsuc, neg_ℤ, ◌+ℤ◌, ◌≤ℤ◌, ◌<ℤ◌, arith, rules}
use Rattle.std.specs.Int.{int_gap}
use Rattle.std.proofs.lemmas.Int.{ints}
use Rattle.rr_true.specs.Changes.{IsSettledNear}

pub within_fits : (z : ℤ) → neg_ℤ (pos 1_000_000_000_000_000_000) ≤ℤ z → z ≤ℤ pos 1_000_000_000_000_000_000 → FitsSigned w64 z
within_fits z low high = search rules

-- one cycle after the settled moment
pub whole_fits : (settled cycle : ℤ) (n : ℕ) → IsSettledNear settled → cycle ≡ pos n → n ≤ 12_622_780_800 → FitsSigned w64 (settled +ℤ cycle)
whole_fits settled cycle n near e few =
    within_fits (settled +ℤ cycle) (omega (arith, ints, near.0, e)) (omega (arith, ints, near.1, e, few))

-- what is not far is as it is stored
pub back : (z : ℤ) → neg_ℤ (pos 1_000_000_000_000_000_000) ≤ℤ z → z ≤ℤ pos 1_000_000_000_000_000_000 → to_z w64 (of_z w64 z) ≡ z
back z low high = to_z-of_z (within_fits z low high)

-- a later moment is nearer to an end
pub closer : (a b e : ℤ) → a <ℤ b → a <ℤ e → int_gap b e < int_gap a e
closer (pos a) (pos b) (pos e) l m = omega (arith, ints, l, m)
closer (pos a) (pos b) (negsuc e) l m = absurd (omega (arith, ints, m))
closer (pos a) (negsuc b) e l m = absurd (omega (arith, ints, l))
closer (negsuc a) (pos b) (pos e) l m = omega (arith, ints, l, m)
closer (negsuc a) (pos b) (negsuc e) l m = omega (arith, ints, l, m)
closer (negsuc a) (negsuc b) (pos e) l m = omega (arith, ints, l, m)
closer (negsuc a) (negsuc b) (negsuc e) l m = omega (arith, ints, l, m)
