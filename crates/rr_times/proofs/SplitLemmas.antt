-- An index in a rising list, and sets up to a bound.
use Rattle.std.proofs.Common.{◌≡◌, ℕ, ◌+◌, ◌<◌, ◌≤◌, List, [], ◌∷◌, ◌++◌, length, get_or, Contains, inl, inr, ap, ◌∙◌, subst, arith}
use Rattle.std.specs.Prelude.{◌⊎◌, nat_lt}
use Rattle.std.proofs.lemmas.Bool.{cases_lt}
use Rattle.std.proofs.lemmas.Bool.Decides.{nat_tests}
use Rattle.std.proofs.lemmas.List.{get_or_default}
use Rattle.rr_model.specs.Rising.{Rises}
use Rattle.rr_model.specs.Rising.Sets.{IsSetOf}
use Rattle.rr_model.proofs.RisingSetLemmas.{rising_at, set_push, set_same}
use Rattle.rr_times.specs.Split.{SplitsAt}

module _ (xs : List ℕ) (r : Rises nat_lt xs) where
  pub rising_le : (i j : ℕ) → i ≤ j → j < length xs → get_or xs i 0 ≤ get_or xs j 0
  rising_le i j h l =
      elim (cases_lt i j) [ inl m ↦ omega (arith, rising_at xs r i j m l) | inr m ↦ (let e : i ≡ j = omega arith in omega (arith, ap (λ n. get_or xs n 0) e)) ]

  -- past an element
  pub split_past : (i t : ℕ) → SplitsAt xs i t → i < length xs → SplitsAt xs (i + 1) (get_or xs i 0 + 1)
  split_past i t s l = record {
    within = omega arith;
    below = λ k h. elim (cases_lt k i) [
      | inl m ↦ omega (arith, rising_at xs r k i m l)
      | inr m ↦
          (let e : k ≡ i = omega arith in omega (arith, ap (λ n. get_or xs n 0) e))
    ];
    from = λ k h m. omega (arith, rising_at xs r i k (omega arith) m);
  }

  -- below an element
  pub split_below : (i t x : ℕ) → SplitsAt xs i t → t ≤ x → (i < length xs → x < get_or xs i 0) → SplitsAt xs i (x + 1)
  split_below i t x s l ahead = record {
    within = s.within;
    below = λ k h. omega (arith, s.below k h);
    from = λ k h m. omega (arith, ahead (omega arith), rising_le i k h m);
  }

  -- a member from the bound on is not below the next element
  pub next_least : (i t s : ℕ) → SplitsAt xs i t → Contains xs s → t ≤ s → (i < length xs) × (get_or xs i 0 ≤ s)
  next_least i t s split (k, l, e) h =
      let at : get_or xs k 0 ≡ s = get_or_default xs k 0 s l ∙ e in
      elim (cases_lt k i) [
        | inl m ↦ absurd (omega (arith, split.below k m))
        | inr m ↦ (omega arith, omega (arith, rising_le i k m l))
      ]

  -- at the end each member is below the bound
  pub all_below : (i t s : ℕ) → SplitsAt xs i t → length xs ≤ i → Contains xs s → s < t
  all_below i t s split l (k, m, e) =
      let at : get_or xs k 0 ≡ s = get_or_default xs k 0 s m ∙ e in
      omega (arith, split.below k (omega arith))

module _ (P : ℕ → Type 0) (out : List ℕ) (t x : ℕ) (set : IsSetOf nat_lt out (λ s. P s × (s < t))) (l : t ≤ x) (next : (s : ℕ) → P s → t ≤ s → x ≤ s) where
  -- the set up to the next member
  pub set_with : P x → IsSetOf nat_lt (out ++ x ∷ []) (λ s. P s × (s < x + 1))
  set_with p =
      set_same nat_lt (λ s. (P s × (s < t)) ⊎ (x ≡ s)) (λ s. P s × (s < x + 1)) (out ++ x ∷ [])
      (set_push nat_lt (λ s. P s × (s < t)) out x set (λ s q. let h : s < t = q.1 in grind (arith, nat_tests)))
      (λ s. (
        (λ q. elim q [ inl m ↦ (m.0, (let h : s < t = m.1 in omega arith)) | inr e ↦ (subst P e p, omega arith) ]),
        (λ q. elim (cases_lt s t) [ inl m ↦ inl (q.0, m) | inr m ↦ inr (let h : s < x + 1 = q.1 in omega (arith, next s q.0 m)) ]),
      ))

  -- the set up to what is no member
  pub set_past : (P x → ⊥) → IsSetOf nat_lt out (λ s. P s × (s < x + 1))
  set_past p =
      set_same nat_lt (λ s. P s × (s < t)) (λ s. P s × (s < x + 1)) out set
      (λ s. (
        (λ q. (q.0, (let h : s < t = q.1 in omega arith))),
        (λ q. elim (cases_lt s t) [
          | inl m ↦ (q.0, m)
          | inr m ↦ (let h : s < x + 1 = q.1 in let e : s ≡ x = omega (arith, next s q.0 m) in absurd (p (subst P e q.0)))
        ]),
      ))
