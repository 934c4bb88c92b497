-- Which numbers fit an interval: from the first one on, one each interval.
use Rattle.std.proofs.Common.{◌≡◌, ℕ, ◌+◌, ◌-◌, ◌<◌, ◌≤◌, Bool, true, false, ℤ, pos, neg_ℤ, ◌+ℤ◌, ◌-ℤ◌, ◌*ℤ◌, inl, inr, sym, ap, ◌∙◌, arith}
use Rattle.std.proofs.lemmas.Int.{ints}
use Rattle.std.proofs.lemmas.Bool.{cases_eq, eq-eqb, ne_eqb, false≢true}
use Rattle.rr_model.specs.Whole.{floor_div, floor_mod, divides}
use Rattle.rr_model.proofs.WholeLemmas.{floor_only, floor_whole, floor_mod_below}
use Rattle.rr_model.proofs.FloorLemmas.{*ℤ-add, floor_mod-add}

-- what has no remainder is divisible, and what has one is not
divides_yes : (n : ℕ) (z : ℤ) → floor_mod z n ≡ 0 → divides n z ≡ true
divides_yes n z e = eq-eqb (floor_mod z n) 0 e

divides_no : (n : ℕ) (z : ℤ) → (floor_mod z n ≡ 0 → ⊥) → divides n z ≡ false
divides_no n z h = ne_eqb (floor_mod z n) 0 h

no_rest : (n : ℕ) (z : ℤ) → divides n z ≡ true → floor_mod z n ≡ 0
no_rest n z e = elim (cases_eq (floor_mod z n) 0) [ inl same ↦ same | inr other ↦ absurd (false≢true (sym (divides_no n z other) ∙ e)) ]

-- a rest below the divisor
rest : (n r : ℕ) (z q : ℤ) → r < n → z ≡ (q *ℤ pos n) +ℤ pos r → floor_mod z n ≡ r
rest n r z q low e = (floor_only z q n r low e).1

-- the unit k after a fits the interval from b
abbrev pub fits_at : ℕ → ℤ → ℤ → ℕ → Bool
fits_at n a b k = divides n ((a +ℤ pos k) -ℤ b)

module _ (n : ℕ) (some : 1 ≤ n) (a b : ℤ) where
  -- the first that fits
  abbrev pub first_fit : ℕ
  first_fit = floor_mod (b -ℤ a) n

  pub first_fits : fits_at n a b (floor_mod (b -ℤ a) n) ≡ true
  first_fits =
      let q = floor_div (b -ℤ a) n in
      let back : neg_ℤ q +ℤ q ≡ pos 0 = omega (arith, ints) in
      divides_yes n _ (rest n 0 ((a +ℤ pos first_fit) -ℤ b) (neg_ℤ q) (omega arith)
      (omega (arith, ints, floor_whole (b -ℤ a) n some, *ℤ-add (neg_ℤ q) q n, ap (λ z. z *ℤ pos n) back)))

  pub none_before : (k : ℕ) → k < floor_mod (b -ℤ a) n → fits_at n a b k ≡ false
  none_before k low =
      let q = floor_div (b -ℤ a) n in
      let p = neg_ℤ q -ℤ pos 1 in
      let back : p +ℤ (q +ℤ pos 1) ≡ pos 0 = omega (arith, ints) in
      let r : ℕ = n - (first_fit - k) in
      let below = floor_mod_below (b -ℤ a) n some in
      let here : floor_mod ((a +ℤ pos k) -ℤ b) n ≡ r = rest n r ((a +ℤ pos k) -ℤ b) p (omega (arith, low, below))
      (omega (arith, ints, low, below, floor_whole (b -ℤ a) n some, *ℤ-add p (q +ℤ pos 1) n, *ℤ-add q (pos 1) n, ap (λ z. z *ℤ pos n) back)) in
      divides_no n _ (λ z. omega (arith, here, z, low, below))

  pub next_fits : (k : ℕ) → fits_at n a b k ≡ true → fits_at n a b (k + n) ≡ true
  next_fits k e =
      let more : (a +ℤ pos (k + n)) -ℤ b ≡ ((a +ℤ pos k) -ℤ b) +ℤ (pos 1 *ℤ pos n) = omega (arith, ints) in
      divides_yes n _ (ap (λ z. floor_mod z n) more ∙ floor_mod-add ((a +ℤ pos k) -ℤ b) (pos 1) n some ∙ no_rest n _ e)

  pub none_between : (k j : ℕ) → fits_at n a b k ≡ true → k < j → j < k + n → fits_at n a b j ≡ false
  none_between k j e low high =
      let q = floor_div ((a +ℤ pos k) -ℤ b) n in
      let r : ℕ = j - k in
      let here : floor_mod ((a +ℤ pos j) -ℤ b) n ≡ r = rest n r ((a +ℤ pos j) -ℤ b) q (omega (arith, low, high))
      (omega (arith, ints, low, floor_whole ((a +ℤ pos k) -ℤ b) n some, no_rest n _ e)) in
      divides_no n _ (λ z. omega (arith, here, z, low))
