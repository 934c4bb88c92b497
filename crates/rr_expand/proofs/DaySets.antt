-- A set of days, found by testing each day of a stretch in turn.
use Rattle.std.proofs.Common.{◌≡◌, ℕ, ◌+◌, Bool, true, false, List, [], ◌∷◌, ◌++◌, Contains, ℤ, pos, ◌+ℤ◌, ◌≤ℤ◌, ◌<ℤ◌, inl, inr, sym, ap, ◌∙◌, subst, arith}
use Rattle.std.proofs.Common.{refl}
use Rattle.std.specs.Prelude.{◌⊎◌, IsTrue, int_lt}
use Rattle.std.proofs.lemmas.Int.{ints, by_lt_z}
use Rattle.std.proofs.lemmas.Bool.{false≢true}
use Rattle.rr_model.specs.Rising.{with_value}
use Rattle.rr_model.specs.Rising.Sets.{IsSetOf}
use Rattle.rr_model.proofs.RisingSetLemmas.{Contains-head, Contains-tail, set_same, set_push, set_empty}

-- a value above each member goes last
pub with_value-last : (xs : List ℤ) (x : ℤ) → ((y : ℤ) → Contains xs y → y <ℤ x) → with_value int_lt xs x ≡ xs ++ x ∷ []
with_value-last [] x above = refl
with_value-last (y ∷ ys) x above =
    let l : int_lt y x ≡ true = (let h = above y (Contains-head y ys) in grind (arith, ints)) in
    rw l (ap (λ zs. y ∷ zs) (with_value-last ys x (λ z c. above z (Contains-tail y ys z c))))

module _ (first : ℤ) (test : ℤ → Bool) where
  -- the days that pass, of the n from the first on
  abbrev pub PassedDay : ℕ → ℤ → Type 0
  PassedDay n d = (first ≤ℤ d) × (d <ℤ (first +ℤ pos n)) × IsTrue (test d)

  pub days_none : (xs : List ℤ) → xs ≡ [] → IsSetOf int_lt xs (PassedDay 0)
  days_none xs e = subst (λ ys. IsSetOf int_lt ys (PassedDay 0)) (sym e) (set_empty int_lt (PassedDay 0) (λ d h. omega (arith, ints, h.0, h.1)))

  split : (n : ℕ) (d : ℤ) → d <ℤ (first +ℤ pos (n + 1)) → (d <ℤ (first +ℤ pos n)) ⊎ ((first +ℤ pos n) ≡ d)
  split n d h = let P : Type 0 = (d <ℤ (first +ℤ pos n)) ⊎ ((first +ℤ pos n) ≡ d) in
      by_lt_z {P = P} d (first +ℤ pos n) (λ l. inl l) (λ g. inr (omega (arith, ints, g, h)))

  pub days_more : (xs ys : List ℤ) (n : ℕ) (x : ℤ) → x ≡ first +ℤ pos n → IsSetOf int_lt xs (PassedDay n) → test x ≡ true → ys ≡ with_value int_lt xs x
      → IsSetOf int_lt ys (PassedDay (n + 1))
  days_more xs ys n x at set passes e =
      let last : ys ≡ xs ++ x ∷ [] = e ∙ with_value-last xs x (λ y c. rw at ((set.exact y).0 c).1) in
      subst (λ zs. IsSetOf int_lt zs (PassedDay (n + 1))) (sym last)
      (set_same int_lt (λ d. PassedDay n d ⊎ (x ≡ d)) (PassedDay (n + 1)) (xs ++ x ∷ [])
      (set_push int_lt (PassedDay n) xs x set (λ d h. (let l = h.1 in grind (arith, ints))))
      (λ d. (
        (λ p. elim p [
          | inl h ↦ (h.0, omega (arith, ints, h.1), h.2)
          | inr s ↦
              (omega (arith, ints, s, at), omega (arith, ints, s, at), subst (λ z. IsTrue (test z)) s passes)
        ]),
        (λ h. elim (split n d h.1) [ inl l ↦ inl (h.0, l, h.2) | inr s ↦ inr (at ∙ s) ]),
      )))

  pub days_same : (xs : List ℤ) (n : ℕ) (x : ℤ) → x ≡ first +ℤ pos n → IsSetOf int_lt xs (PassedDay n) → test x ≡ false → IsSetOf int_lt xs (PassedDay (n + 1))
  days_same xs n x at set fails =
      set_same int_lt (PassedDay n) (PassedDay (n + 1)) xs set
      (λ d. (
        (λ h. (h.0, omega (arith, ints, h.1), h.2)),
        (λ h. elim (split n d h.1) [ inl l ↦ (h.0, l, h.2) | inr s ↦ absurd (false≢true (sym fails ∙ subst (λ z. IsTrue (test z)) (sym (at ∙ s)) h.2)) ]),
      ))
