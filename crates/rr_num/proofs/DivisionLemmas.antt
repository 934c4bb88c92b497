-- Divisors and least common multiples as the code divides and multiplies.
use Rattle.std.proofs.Common.{◌≡◌, ℕ, ◌*◌, ◌/◌, ◌<◌, ◌≤◌, ap, sym, ◌∙◌, subst, refl}
use Prim.Native.Nat.{◌∣◌}
use Rattle.std.proofs.lemmas.Nat.Gcd.{le_of_dvd}
use Rattle.std.proofs.Math.Nat.{le-div_iff_mul-le, div-lt_iff_lt-mul, one-mul}
use Rattle.rr_model.specs.Whole.Divisors.{gcd, lcm}

-- a divisor is in its multiple at least once
pub some_parts : (a g : ℕ) → 1 ≤ a → 1 ≤ g → g ∣ a → 1 ≤ a / g
some_parts a g ha hg p = (le-div_iff_mul-le hg).1 (subst (λ z. z ≤ a) (sym (one-mul g)) (le_of_dvd ha p))

pub lcm_parts : (a b : ℕ) → lcm a b ≡ a / gcd a b * b
unfolding lcm
lcm_parts a b = refl

pub is_lcm : (a b g k l : ℕ) → a ≡ k → b ≡ l → g ≡ gcd a b → a / g * b ≡ lcm k l
is_lcm a b g k l ea eb eg = ap (λ z. a / z * b) eg ∙ sym (lcm_parts a b) ∙ ap (λ z. lcm z b) ea ∙ ap (lcm k) eb

-- as many parts as fit into the most give a multiple within it, and more do not
pub within : (a b g most : ℕ) → 1 ≤ b → g ≡ gcd a b → a / g ≤ most / b → lcm a b ≤ most
within a b g most hb eg h = subst (λ z. z ≤ most) (is_lcm a b g a b refl refl eg) ((le-div_iff_mul-le hb).0 h)

pub above : (a b g most : ℕ) → 1 ≤ b → g ≡ gcd a b → most / b < a / g → most < lcm a b
above a b g most hb eg h = subst (λ z. most < z) (is_lcm a b g a b refl refl eg) ((div-lt_iff_lt-mul hb).0 h)
