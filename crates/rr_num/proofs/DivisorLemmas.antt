-- The greatest common divisor and the least common multiple are what their names say.
use Rattle.std.proofs.Common.{◌≡◌, ℕ, zero, suc, ◌+◌, ◌*◌, ◌/◌, ◌%◌, ◌==◌, ◌<◌, ◌≤◌, true, false, cond, refl, sym, ap, ◌∙◌, subst, eqb-true, arith}
use Rattle.std.proofs.lemmas.Bool.{eqb-false}
use Prim.Native.Nat.{◌∣◌}
use Rattle.std.specs.Int.{IsGcd}
use Rattle.std.proofs.lemmas.Nat.{mod_below, mod-mul-add, div-add-mod'}
use Rattle.std.proofs.lemmas.Nat.Gcd.{IsGcd-from_zero, IsGcd-from_mod, same_from_IsGcd, le_of_dvd, dvd-zero}
use Rattle.std.proofs.Math.Nat.{mul-dvd-mul_left, mul-dvd-mul_right, dvd_of_mul-dvd-mul_left, dvd-mul_left, dvd-mul_right, pos_of_dvd_of_pos}
use Rattle.std.proofs.Math.Nat.{div-mul_cancel, mul_comm, mul_assoc, mul_left_comm, mul-add, mul-lt-mul_of_pos_left, mul-zero, mul-pos, one-mul}
use Rattle.rr_model.specs.Whole.Divisors.{gcd_within, gcd, lcm, IsLcm, NoMultipleWithin}

-- n times the remainder is the remainder of n times both
scaled_mod : (n a b : ℕ) → 1 ≤ n → 1 ≤ b → (n * a) % (n * b) ≡ n * (a % b)
scaled_mod n a b hn hb =
    let e : n * a ≡ a / b * (n * b) + n * (a % b) =
    ap (λ z. n * z) (sym (div-add-mod' a b)) ∙ mul-add n (a / b * b) (a % b) ∙ ap (λ z. z + n * (a % b)) (mul_left_comm n (a / b) b) in
    ap (λ z. z % (n * b)) e ∙ mod-mul-add (a / b) (n * b) (n * (a % b)) (mul-lt-mul_of_pos_left (mod_below a b hb) hn)

-- Euclid's division finds n times the greatest common divisor of n times both numbers
scaled_within : (n steps a b : ℕ) → 1 ≤ n → b ≤ steps → IsGcd (n * a) (n * b) (n * gcd_within steps a b)
unfolding gcd_within
scaled_within n zero a b hn l =
    let z : b ≡ 0 = omega arith in
    IsGcd-from_zero (n * a) (n * b) (ap (λ k. n * k) z ∙ mul-zero n)
scaled_within n (suc steps) a b hn l =
    elim (b == 0) as (λ t. (b == 0) ≡ t → IsGcd (n * a) (n * b) (n * cond t a (gcd_within steps b (a % b)))) [
      | true ↦ λ e. IsGcd-from_zero (n * a) (n * b) (ap (λ k. n * k) (eqb-true b 0 e) ∙ mul-zero n)
      | false ↦ λ e.
          let hb : 1 ≤ b = omega (arith, eqb-false b 0 e) in
          let small = mod_below a b hb in
          let rest = scaled_within n steps b (a % b) hn (omega arith) in
          IsGcd-from_mod (n * a) (n * b) (n * gcd_within steps b (a % b))
          (subst (λ r. IsGcd (n * b) r (n * gcd_within steps b (a % b))) (sym (scaled_mod n a b hn hb)) rest)
    ] refl

scaled_is : (n a b : ℕ) → 1 ≤ n → IsGcd (n * a) (n * b) (n * gcd a b)
unfolding gcd
scaled_is n a b hn = scaled_within n b a b hn (omega arith)

pub gcd_is : (a b : ℕ) → IsGcd a b (gcd a b)
gcd_is a b = subst (λ g. IsGcd a b g) (one-mul (gcd a b))
    (subst (λ z. IsGcd z b (1 * gcd a b)) (one-mul a) (subst (λ z. IsGcd (1 * a) z (1 * gcd a b)) (one-mul b) (scaled_is 1 a b (omega arith))))

pub gcd-zero : (a : ℕ) → gcd a 0 ≡ a
unfolding gcd gcd_within
gcd-zero a = refl

-- one step of Euclid's division
pub gcd-mod : (a b : ℕ) → gcd b (a % b) ≡ gcd a b
gcd-mod a b = same_from_IsGcd a b (gcd b (a % b)) (gcd a b) (IsGcd-from_mod a b (gcd b (a % b)) (gcd_is b (a % b))) (gcd_is a b)

pub gcd_some : (a b : ℕ) → 0 < a + b → 1 ≤ gcd a b
gcd_some a zero h = pos_of_dvd_of_pos (gcd_is a zero).0 (omega arith)
gcd_some a (suc b) h = pos_of_dvd_of_pos (gcd_is a (suc b)).1 (omega arith)

-- a over the divisor times b: the divisor times that is a times b
whole : (a b : ℕ) → gcd a b * (a / gcd a b * b) ≡ a * b
whole a b = sym (mul_assoc (gcd a b) (a / gcd a b) b) ∙ ap (λ z. z * b) (mul_comm (gcd a b) (a / gcd a b) ∙ div-mul_cancel (gcd a b) (gcd_is a b).0)

-- a times b divides the divisor times each common multiple
common : (a b n : ℕ) → a ∣ n → b ∣ n → a * b ∣ gcd a b * n
common a b zero p q = subst (λ z. a * b ∣ z) (sym (mul-zero (gcd a b))) (dvd-zero (a * b))
common a b (suc m) p q =
    let n = suc m in
    let of_a : a * b ∣ n * a = subst (λ z. a * b ∣ z) (mul_comm a n) (mul-dvd-mul_left b a q) in
    let of_b : a * b ∣ n * b = mul-dvd-mul_right a p b in
    subst (λ z. a * b ∣ z) (mul_comm n (gcd a b)) ((scaled_is n a b (omega arith)).2 (a * b) of_a of_b)

pub lcm_is : (a b : ℕ) → 1 ≤ a → 1 ≤ b → IsLcm a b (lcm a b)
unfolding lcm
lcm_is a b ha hb =
    let g = gcd a b in
    let some : 1 ≤ g = gcd_some a b (omega arith) in
    let of_a : a ∣ a / g * b =
    dvd_of_mul-dvd-mul_left a some (subst (λ z. g * a ∣ z) (mul_comm b a ∙ sym (whole a b)) (mul-dvd-mul_right g (gcd_is a b).1 a)) in
    let least : (n : ℕ) → a ∣ n → b ∣ n → a / g * b ∣ n = λ n p q.
    dvd_of_mul-dvd-mul_left (a / g * b) some (subst (λ z. z ∣ g * n) (sym (whole a b)) (common a b n p q)) in
    (of_a, dvd-mul_left b (a / g), least)

pub lcm_some : (a b : ℕ) → 1 ≤ a → 1 ≤ b → 1 ≤ lcm a b
lcm_some a b ha hb =
    let of_both : lcm a b ∣ a * b = (lcm_is a b ha hb).2 (a * b) (dvd-mul_right a b) (dvd-mul_left b a) in
    pos_of_dvd_of_pos of_both (mul-pos ha hb)

-- below the least common multiple there is none
pub none_below_lcm : (a b most : ℕ) → 1 ≤ a → 1 ≤ b → most < lcm a b → NoMultipleWithin a b most
none_below_lcm a b most ha hb above n hn p q =
    let le : lcm a b ≤ n = le_of_dvd hn ((lcm_is a b ha hb).2 n p q) in
    omega arith

-- a least common multiple is not below either number
pub lcm_above : (a b : ℕ) → 1 ≤ a → 1 ≤ b → (a ≤ lcm a b) × (b ≤ lcm a b)
lcm_above a b ha hb =
    let l = lcm_is a b ha hb in
    (le_of_dvd (lcm_some a b ha hb) l.0, le_of_dvd (lcm_some a b ha hb) l.1)
