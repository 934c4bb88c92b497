-- Counts over products.
use Rattle.std.proofs.Common.{◌≡◌, ℕ, zero, suc, ◌+◌, ◌*◌, ◌<◌, ◌≤◌, Bool, true, false, cond, ◌&&◌, ℤ, pos, ◌+ℤ◌, ◌*ℤ◌, refl, sym, ap, ◌∙◌, arith}
use Rattle.rr_model.specs.Whole.Count.{count_from}
use Rattle.rr_model.proofs.CountLemmas.{one, count_from-zero, count_from-suc, count_from-split, count_seconds-split, count_seconds-suc, count_seconds-zero}
use Rattle.rr_model.proofs.FloorLemmas.{*ℤ-add}
use Rattle.rr_model.specs.Sets.Counting.{count_seconds}

-- a number, or 0
abbrev pub part : Bool → ℕ → ℕ
part b n = cond b n 0

part-zero : (b : Bool) → 0 ≡ part b 0
part-zero true = refl
part-zero false = refl

part-more : (b c : Bool) (x : ℕ) → part b x + one (b && c) ≡ part b (x + one c)
part-more true c x = refl
part-more false c x = refl

part-times : (b : Bool) (x t : ℕ) → x * t + part b t ≡ (x + one b) * t
part-times true x t = omega arith
part-times false x t = omega arith

-- ---- products of whole numbers from some on, and of numbers below a bound

-- each whole number and each number below m pass together
abbrev pub IsProduct : ℕ → (ℤ → Bool) → (ℤ → Bool) → (ℕ → Bool) → Type 0
IsProduct m p day second = (d : ℤ) (s : ℕ) → s < m → p ((d *ℤ pos m) +ℤ pos s) ≡ (day d && second s)

-- the count of the days before, each whole, and of a part of the last one
module _ (m : ℕ) (p day : ℤ → Bool) (second : ℕ → Bool) (product : IsProduct m p day second) where
  one_day : (d : ℤ) (s : ℕ) → s ≤ m → count_from p (d *ℤ pos m) s ≡ cond (day d) (count_seconds second s) 0
  one_day d zero h = rw (count_from-zero, count_seconds-zero) (part-zero (day d))
  one_day d (suc s) h =
      let r = one_day d s (omega arith) in
      let e = product d s (omega arith) in
      count_from-suc p (d *ℤ pos m) s ∙ omega
      (arith, r, ap one e, part-more (day d) (second s) (count_seconds second s), ap (part (day d)) (count_seconds-suc second s))

  whole_days : (a : ℤ) (n : ℕ) → count_from p (a *ℤ pos m) (n * m) ≡ count_from day a n * count_seconds second m
  whole_days a zero = let e : 0 * m ≡ 0 = omega arith in rw (e, count_from-zero, count_from-zero) (omega arith)
  whole_days a (suc n) =
      let e : suc n * m ≡ n * m + m = omega arith in
      let f : (a *ℤ pos m) +ℤ pos (n * m) ≡ (a +ℤ pos n) *ℤ pos m = sym (*ℤ-add a (pos n) m) in
      ap (count_from p (a *ℤ pos m)) e ∙ count_from-split p (a *ℤ pos m) (n * m) m
      ∙ omega (
        arith,
        whole_days a n,
        ap (λ z. count_from p z m) f,
        one_day (a +ℤ pos n) m (omega arith),
        part-times (day (a +ℤ pos n))
            (count_from day a n) (count_seconds second m),
        ap (λ x. x * count_seconds second m) (count_from-suc day a n),
      )

  pub count_product : (a : ℤ) (n s : ℕ) → s ≤ m → count_from p (a *ℤ pos m) (n * m + s) ≡ count_from day a n * count_seconds second m
      + cond (day (a +ℤ pos n)) (count_seconds second s) 0
  count_product a n s h =
      let f : (a *ℤ pos m) +ℤ pos (n * m) ≡ (a +ℤ pos n) *ℤ pos m = sym (*ℤ-add a (pos n) m) in
      count_from-split p (a *ℤ pos m) (n * m) s ∙ omega (arith, whole_days a n, ap (λ z. count_from p z s) f, one_day (a +ℤ pos n) s h)

-- ---- products of numbers below bounds

-- the tests of the whole turns and of the rest hold together
abbrev pub IsSplit : ℕ → (ℕ → Bool) → (ℕ → Bool) → (ℕ → Bool) → Type 0
IsSplit m p outer inner = (x s : ℕ) → s < m → p (x * m + s) ≡ (outer x && inner s)

module _ (m : ℕ) (p outer inner : ℕ → Bool) (split : IsSplit m p outer inner) where
  one_turn : (x s : ℕ) → s ≤ m → count_seconds (λ k. p (x * m + k)) s ≡ cond (outer x) (count_seconds inner s) 0
  one_turn x zero h = rw (count_seconds-zero (λ k. p (x * m + k)), count_seconds-zero inner) (part-zero (outer x))
  one_turn x (suc s) h =
      let r = one_turn x s (omega arith) in
      let e = split x s (omega arith) in
      count_seconds-suc (λ k. p (x * m + k)) s ∙ omega
      (arith, r, ap one e, part-more (outer x) (inner s) (count_seconds inner s), ap (part (outer x)) (count_seconds-suc inner s))

  whole_turns : (n : ℕ) → count_seconds p (n * m) ≡ count_seconds outer n * count_seconds inner m
  whole_turns zero = let e : 0 * m ≡ 0 = omega arith in rw (e, count_seconds-zero p, count_seconds-zero outer) (omega arith)
  whole_turns (suc n) =
      let e : suc n * m ≡ n * m + m = omega arith in
      ap (count_seconds p) e ∙ count_seconds-split p (n * m) m ∙ omega (
        arith,
        whole_turns n,
        one_turn n m (omega arith),
        part-times (outer n) (count_seconds outer n) (count_seconds inner m),
        ap
            (λ x. x * count_seconds inner m) (count_seconds-suc outer n),
      )

  pub count_turns : (n s : ℕ) → s ≤ m → count_seconds p (n * m + s) ≡ count_seconds outer n * count_seconds inner m + cond (outer n) (count_seconds inner s) 0
  count_turns n s h = count_seconds-split p (n * m) s ∙ omega (arith, whole_turns n, one_turn n s h)
