-- Agreement on a window of both periods is agreement for ever.
use Rattle.std.proofs.Common.{◌≡◌, ℕ, zero, suc, ◌+◌, ◌-◌, ◌<◌, ◌≤◌, ℤ, pos, nat_abs, ◌+ℤ◌, ◌-ℤ◌, ◌≤ℤ◌, inl, inr, sym, ap, ◌∙◌, arith}
use Rattle.std.proofs.lemmas.Int.{ints}
use Rattle.std.proofs.lemmas.Bool.{cases_lt}
use Rattle.rr_model.specs.Whole.Periodic.{RepeatsFrom, AgreeOn, AgreeFrom}

module _ {X : Type 0} (F G : ℕ → X) (p r : ℕ) (hp : 1 ≤ p) (hr : 1 ≤ r) (pf : (n : ℕ) → F (n + p) ≡ F n) (pg : (n : ℕ) → G (n + r) ≡ G n) (window : (n : ℕ)
    → n < p + r → F n ≡ G n) where
  -- a place past the window, from three places before it
  past : (m : ℕ) → F m ≡ G m → F (m + r) ≡ G (m + r) → F (m + p) ≡ G (m + p) → F (m + r + p) ≡ G (m + r + p)
  past m here later_r later_p =
      let e : m + p + r ≡ m + r + p = omega arith in
      let a = pf (m + r) in
      let b = pg (m + p) in
      pf (m + r) ∙ later_r ∙ pg m ∙ sym here ∙ sym (pf m) ∙ later_p ∙ sym (pg (m + p)) ∙ ap G e

  below : (bound n : ℕ) → n < bound → F n ≡ G n
  below zero n lt = absurd (omega arith)
  below (suc bound) n lt =
      elim (cases_lt n (p + r)) [
        | inl small ↦ window n small
        | inr large ↦
            (let m = n - (p + r) in
            let e : n ≡ m + r + p = omega arith in
            let t = past m (below bound m (omega arith)) (below bound (m + r) (omega arith)) (below bound (m + p) (omega arith)) in
            ap F e ∙ t ∙ ap G (sym e))
      ]

-- a later whole number is n on
pub offset : (q d : ℤ) → q ≤ℤ d → d ≡ q +ℤ pos (nat_abs (d -ℤ q))
offset q d h = omega (arith, ints)

pub agreement_lasts : {X : Type 0} (f g : ℤ → X) (q : ℤ) (p r : ℕ) → 1 ≤ p → 1 ≤ r → RepeatsFrom f q p → RepeatsFrom g q r → AgreeOn f g q (p + r)
    → AgreeFrom f g q
agreement_lasts f g q p r hp hr rf rg window d h =
    let n = nat_abs (d -ℤ q) in
    let on : (m k : ℕ) → (q +ℤ pos m) +ℤ pos k ≡ q +ℤ pos (m + k) = λ m k. omega (arith, ints) in
    let up : (m : ℕ) → q ≤ℤ (q +ℤ pos m) = λ m. omega (arith, ints) in
    let t = below (λ m. f (q +ℤ pos m)) (λ m. g (q +ℤ pos m)) p r hp hr
    (λ m. ap f (sym (on m p)) ∙ rf (q +ℤ pos m) (up m))
    (λ m. ap g (sym (on m r)) ∙ rg (q +ℤ pos m) (up m))
    (λ m lt. window (q +ℤ pos m) (up m) (omega (arith, ints)))
    (suc n) n (omega arith) in
    ap f (offset q d h) ∙ t ∙ ap g (sym (offset q d h))
