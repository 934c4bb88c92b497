-- A set of numbers, found by testing each number in turn.
use Rattle.std.proofs.Common.{◌≡◌, ℕ, ◌+◌, ◌<◌, Bool, true, false, List, [], ◌∷◌, ◌++◌, All, inl, inr, subst, sym, ◌∙◌, arith}
use Rattle.std.specs.Prelude.{◌⊎◌, IsTrue, nat_lt, Result, IfOk}
use Rattle.std.proofs.lemmas.Bool.{cases_lt, false≢true}
use Rattle.std.proofs.lemmas.Bool.Decides.{nat_tests}
use Rattle.std.proofs.lemmas.Result.{IfOk-weaker}
use Rattle.std.proofs.lemmas.List.Elements.{Contains-get_or}
use Rattle.rr_model.specs.Rising.Sets.{IsSetOf}
use Rattle.rr_model.proofs.RisingSetLemmas.{set_same, set_push, set_empty}

module _ (test : ℕ → Bool) where
  -- the numbers below n that pass
  abbrev pub Passed : ℕ → ℕ → Type 0
  Passed n m = (m < n) × IsTrue (test m)

  pub passed_none : (xs : List ℕ) → xs ≡ [] → IsSetOf nat_lt xs (Passed 0)
  passed_none xs e = subst (λ ys. IsSetOf nat_lt ys (Passed 0)) (sym e) (set_empty nat_lt (Passed 0) (λ m h. omega (arith, h.0)))

  split : (n m : ℕ) → m < n + 1 → (m < n) ⊎ (n ≡ m)
  split n m h = elim (cases_lt m n) [ inl l ↦ inl l | inr g ↦ inr (omega arith) ]

  -- one more that passes
  pub passed_more : (xs ys : List ℕ) (n : ℕ) → IsSetOf nat_lt xs (Passed n) → test n ≡ true → ys ≡ xs ++ n ∷ [] → IsSetOf nat_lt ys (Passed (n + 1))
  passed_more xs ys n set passes e =
      subst (λ zs. IsSetOf nat_lt zs (Passed (n + 1))) (sym e)
      (set_same nat_lt (λ m. Passed n m ⊎ (n ≡ m)) (Passed (n + 1)) (xs ++ n ∷ [])
      (set_push nat_lt (Passed n) xs n set (λ m h. (let l = h.0 in grind (arith, nat_tests))))
      (λ m. (
        (λ p. elim p [ inl h ↦ (omega (arith, h.0), h.1) | inr s ↦ (omega (arith, s), subst (λ z. IsTrue (test z)) s passes) ]),
        (λ h. elim (split n m h.0) [ inl l ↦ inl (l, h.1) | inr s ↦ inr s ]),
      )))

  -- one more that does not
  pub passed_same : (xs : List ℕ) (n : ℕ) → IsSetOf nat_lt xs (Passed n) → test n ≡ false → IsSetOf nat_lt xs (Passed (n + 1))
  passed_same xs n set no_test =
      set_same nat_lt (Passed n) (Passed (n + 1)) xs set
      (λ m. (
        (λ h. (omega (arith, h.0), h.1)),
        (λ h. elim (split n m h.0) [ inl l ↦ (l, h.1) | inr s ↦ absurd (false≢true (sym no_test ∙ subst (λ z. IsTrue (test z)) (sym s) h.1)) ]),
      ))

  -- each member of the set is below the bound
  pub passed_below : (xs ys : List ℕ) (n : ℕ) → ys ≡ xs → IsSetOf nat_lt xs (Passed n) → All (λ m. m < n) ys
  passed_below xs ys n e set = subst (All (λ m. m < n)) (sym e) (λ k d l. ((set.exact _).0 (Contains-get_or xs k d l)).0)

-- the value is the list of the set
pub ok_set : {E : Type 0} (P : ℕ → Type 0) (xs : List ℕ) (r : Result (List ℕ) E) → IsSetOf nat_lt xs P → IfOk r (λ t. t ≡ xs) → IfOk r (λ t. IsSetOf nat_lt t P)
ok_set P xs r set h = IfOk-weaker r (λ t. t ≡ xs) (λ t. IsSetOf nat_lt t P) (λ t e. rw e set) h
