-- Trial division finds the least factor.
use Rattle.std.proofs.Common.{◌≡◌, ℕ, ◌+◌, ◌*◌, ◌/◌, ◌%◌, ◌<◌, ◌≤◌, inl, inr, ap, subst, ◌∙◌, arith}
use Rattle.std.specs.Int.{◌∣◌}
use Rattle.std.proofs.lemmas.Bool.{cases_lt}
use Rattle.std.proofs.lemmas.Nat.Gcd.{dvd_refl, dvd_of_mod-eq-zero, mod-eq-zero_of_dvd}
use Rattle.std.proofs.Math.Nat.{dvd-mul_right, div-mul_cancel, pos_of_dvd_of_pos, one-mul, mul-le-mul}
use Rattle.rr_model.specs.Sets.DividingOut.{HasNoFactorBelow, IsLeastFactor}

-- a number of which no factor stands up to its root is its own least factor
pub own_factor : (n bound : ℕ) → 2 ≤ n → HasNoFactorBelow n bound → n < bound * bound → IsLeastFactor n n
own_factor n bound some tried small = record {
  some = some;
  divides = dvd_refl n;
  none_below = λ d low high dv.
      let e = n / d in
      let whole : e * d ≡ n = div-mul_cancel d dv in
      let e_divides : e ∣ n = subst (λ z. e ∣ z) whole (dvd-mul_right e d) in
      let e_some : 1 ≤ e = pos_of_dvd_of_pos e_divides (omega arith) in
      elim (cases_lt 1 e) [
        | inr one ↦ (let is : e ≡ 1 = omega arith in absurd (let f : e * d ≡ d = ap (λ z. z * d) is ∙ one-mul d in omega (arith, whole, f)))
        | inl two ↦ elim (cases_lt d bound) [
          | inl l ↦ tried d low l dv
          | inr far ↦ elim (cases_lt e bound) [
            | inl l ↦ tried e two l e_divides
            | inr far_e ↦ absurd (let m : bound * bound ≤ e * d = mul-le-mul far_e far in omega (arith, whole, m))
          ]
        ]
      ];
}

-- one more number that does not divide
pub none_below_next : (n d : ℕ) → 1 ≤ d → HasNoFactorBelow n d → (n % d ≡ 0 → ⊥) → HasNoFactorBelow n (d + 1)
none_below_next n d hd tried not e low high dv =
    elim (cases_lt e d) [
      | inl l ↦ tried e low l dv
      | inr h ↦ (let is : e ≡ d = omega arith in not (mod-eq-zero_of_dvd d (subst (λ z. z ∣ n) is dv)))
    ]

pub found_factor : (n d : ℕ) → 2 ≤ d → HasNoFactorBelow n d → n % d ≡ 0 → IsLeastFactor n d
found_factor n d low tried e = record { some = low; divides = dvd_of_mod-eq-zero d e; none_below = tried }
