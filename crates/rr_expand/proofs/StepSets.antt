-- A set that grows by one unit at a time, over the units that fit.
use Rattle.std.proofs.Common.{◌≡◌, ℕ, ◌+◌, ◌<◌, ◌≤◌, Bool, true, false, List, [], ◌++◌, inl, inr, sym, ◌∙◌, subst, arith}
use Rattle.std.specs.Prelude.{◌⊎◌, IsTrue, nat_lt}
use Rattle.std.proofs.lemmas.Bool.{cases_order, false≢true}
use Rattle.std.proofs.lemmas.Bool.Decides.{nat_tests}
use Rattle.rr_model.specs.Rising.Sets.{IsSetOf}
use Rattle.rr_model.proofs.RisingSetLemmas.{set_same, set_empty}
use Rattle.rr_expand.proofs.SpreadSets.{set_append}

-- what lies in fitting units before k, and has the property
abbrev pub Before : (ℕ → ℕ) → (ℕ → Bool) → (ℕ → Type 0) → ℕ → ℕ → Type 0
Before unit fits Q k s = (unit s < k) × IsTrue (fits (unit s)) × Q s

-- what lies in the unit k, and has the property
abbrev pub At : (ℕ → ℕ) → (ℕ → Type 0) → ℕ → ℕ → Type 0
At unit Q k s = (unit s ≡ k) × Q s

module _ (unit : ℕ → ℕ) (fits : ℕ → Bool) (Q : ℕ → Type 0) where
  pub before_first : (xs : List ℕ) (k : ℕ) → xs ≡ [] → ((j : ℕ) → j < k → fits j ≡ false) → IsSetOf nat_lt xs (Before unit fits Q k)
  before_first xs k e none = rw e (set_empty nat_lt (Before unit fits Q k) (λ s h. false≢true (sym (none (unit s) h.0) ∙ h.1)))

  where_at : (k n s : ℕ) → fits k ≡ true → ((j : ℕ) → k < j → j < k + n → fits j ≡ false) → Before unit fits Q (k + n) s
      → Before unit fits Q k s ⊎ At unit Q k s
  where_at k n s fit none h =
      elim (cases_order (unit s) k) [
        | inl e ↦ inr (e, h.2)
        | inr (inl l) ↦ inl (l, h.1, h.2)
        | inr (inr g) ↦ absurd (false≢true (sym (none (unit s) g h.0) ∙ h.1))
      ]

  pub one_more : ((s t : ℕ) → unit s < unit t → s < t) → (xs part ys : List ℕ) (k n : ℕ) → 1 ≤ n → fits k ≡ true
      → ((j : ℕ) → k < j → j < k + n → fits j ≡ false)
      → IsSetOf nat_lt xs (Before unit fits Q k) → IsSetOf nat_lt part (At unit Q k) → ys ≡ xs ++ part → IsSetOf nat_lt ys (Before unit fits Q (k + n))
  one_more later xs part ys k n some fit none set more e =
      subst (λ zs. IsSetOf nat_lt zs (Before unit fits Q (k + n))) (sym e)
      (set_same nat_lt (λ s. Before unit fits Q k s ⊎ At unit Q k s) (Before unit fits Q (k + n)) (xs ++ part)
      (set_append nat_lt (Before unit fits Q k) (At unit Q k) xs part set more
      (λ s t h g. (let l = later s t (omega (arith, h.0, g.0)) in grind (arith, nat_tests))))
      (λ s. (
        (λ p. elim p [ inl h ↦ (omega (arith, h.0), h.1, h.2) | inr g ↦ (omega (arith, g.0, some), subst (λ j. IsTrue (fits j)) (sym g.0) fit, g.1) ]),
        (λ h. where_at k n s fit none h),
      )))

  pub all_before : (xs : List ℕ) (k : ℕ) → ((s : ℕ) → Q s → unit s < k) → IsSetOf nat_lt xs (Before unit fits Q k)
      → IsSetOf nat_lt xs (λ s. IsTrue (fits (unit s)) × Q s)
  all_before xs k low set =
      set_same nat_lt (Before unit fits Q k) (λ s. IsTrue (fits (unit s)) × Q s) xs set (λ s. ((λ h. (h.1, h.2)), (λ h. (low s h.1, h.0, h.1))))
