-- The steps of merges.
use Rattle.std.proofs.Common.{◌≡◌, ℕ, ◌+◌, ◌<◌, ◌≤◌, List, [], ◌∷◌, ◌++◌, length, get_or, Contains, inl, inr, sym, subst, arith}
use Rattle.std.specs.Prelude.{◌⊎◌, nat_lt}
use Rattle.std.proofs.lemmas.Bool.{cases_lt}
use Rattle.std.proofs.lemmas.List.Elements.{Contains-get_or}
use Rattle.rr_model.specs.Rising.{Rises}
use Rattle.rr_model.specs.Rising.Sets.{IsSetOf}
use Rattle.rr_model.proofs.RisingSetLemmas.{set_same}
use Rattle.rr_times.specs.Split.{SplitsAt}
use Rattle.rr_times.proofs.SplitLemmas.{split_past, split_below, next_least, all_below, set_with, set_past}

-- what a merge keeps: the list is the set up to some bound, at which both lists are split
pub record IsMerged (P : ℕ → Type 0) (a b out : List ℕ) (i j : ℕ) : Type 0 where
  pub bound : ℕ
  pub of_a : SplitsAt a i bound
  pub of_b : SplitsAt b j bound
  pub set : IsSetOf nat_lt out (λ s. P s × (s < bound))

-- in either list
abbrev pub InEither : List ℕ → List ℕ → ℕ → Type 0
InEither a b s = Contains a s ⊎ Contains b s

-- in the first list alone
abbrev pub InFirstAlone : List ℕ → List ℕ → ℕ → Type 0
InFirstAlone a b s = Contains a s × ¬ Contains b s

-- the order of the two lists does not matter
pub either_swaps : (a b out : List ℕ) (i j : ℕ) → IsMerged (InEither a b) a b out i j → IsMerged (InEither b a) b a out j i
either_swaps a b out i j m = record {
  bound = m.bound;
  of_a = m.of_b;
  of_b = m.of_a;
  set = set_same nat_lt (λ s. InEither a b s × (s < m.bound)) (λ s. InEither b a s × (s < m.bound)) out m.set (λ s. (
    (λ q. (elim q.0 [ inl c ↦ inr c | inr c ↦ inl c ], q.1)),
    (λ q. (elim q.0 [ inl c ↦ inr c | inr c ↦ inl c ], q.1)),
  ));
}

module _ (a b : List ℕ) (ra : Rises nat_lt a) (rb : Rises nat_lt b) (out : List ℕ) (i j : ℕ) where
  -- the next of a stands before all that is left of b
  pub either_first : IsMerged (InEither a b) a b out i j → i < length a → (j < length b → get_or a i 0 < get_or b j 0)
      → IsMerged (InEither a b) a b (out ++ get_or a i 0 ∷ []) (i + 1) j
  either_first m l first =
      let ahead : m.bound ≤ get_or a i 0 = m.of_a.from i (omega arith) l in
      record {
        bound = get_or a i 0 + 1;
        of_a = split_past a ra i m.bound m.of_a l;
        of_b = split_below b rb j m.bound (get_or a i 0) m.of_b ahead first;
        set = set_with (InEither a b) out m.bound (get_or a i 0) m.set ahead (λ s p h. elim p [
          | inl c ↦ (next_least a ra i m.bound s m.of_a c h).1
          | inr c ↦ (let n = next_least b rb j m.bound s m.of_b c h in omega (arith, first n.0))
        ]) (inl (Contains-get_or a i 0 l));
      }

  -- both are the same
  pub either_both : IsMerged (InEither a b) a b out i j → i < length a → j < length b → get_or a i 0 ≡ get_or b j 0
      → IsMerged (InEither a b) a b (out ++ get_or a i 0 ∷ []) (i + 1) (j + 1)
  either_both m l h e =
      let ahead : m.bound ≤ get_or a i 0 = m.of_a.from i (omega arith) l in
      record {
        bound = get_or a i 0 + 1;
        of_a = split_past a ra i m.bound m.of_a l;
        of_b = subst (λ x. SplitsAt b (j + 1) (x + 1)) (sym e) (split_past b rb j m.bound m.of_b h);
        set = set_with (InEither a b) out m.bound (get_or a i 0) m.set ahead (λ s p k. elim p [
          | inl c ↦ (next_least a ra i m.bound s m.of_a c k).1
          | inr c ↦ (let n = next_least b rb j m.bound s m.of_b c k in omega arith)
        ]) (inl (Contains-get_or a i 0 l));
      }

  -- at both ends the list is the union
  pub either_whole : IsMerged (InEither a b) a b out i j → length a ≤ i → length b ≤ j → IsSetOf nat_lt out (InEither a b)
  either_whole m l h =
      set_same nat_lt (λ s. InEither a b s × (s < m.bound)) (InEither a b) out m.set (λ s. (
        (λ q. q.0),
        (λ p. (p, elim p [ inl c ↦ all_below a ra i m.bound s m.of_a l c | inr c ↦ all_below b rb j m.bound s m.of_b h c ])),
      ))

  -- the next of a stands before all that is left of b
  pub alone_first : IsMerged (InFirstAlone a b) a b out i j → i < length a → (j < length b → get_or a i 0 < get_or b j 0)
      → IsMerged (InFirstAlone a b) a b (out ++ get_or a i 0 ∷ []) (i + 1) j
  alone_first m l first =
      let ahead : m.bound ≤ get_or a i 0 = m.of_a.from i (omega arith) l in
      record {
        bound = get_or a i 0 + 1;
        of_a = split_past a ra i m.bound m.of_a l;
        of_b = split_below b rb j m.bound (get_or a i 0) m.of_b ahead first;
        set = set_with (InFirstAlone a b) out m.bound (get_or a i 0) m.set ahead (λ s p h. (next_least a ra i m.bound s m.of_a p.0 h).1)
            (Contains-get_or a i 0 l, λ c. let n = next_least b rb j m.bound (get_or a i 0) m.of_b c ahead in omega (arith, first n.0));
      }

  -- the next of b stands before all that is left of a
  pub alone_second : IsMerged (InFirstAlone a b) a b out i j → j < length b → (i < length a → get_or b j 0 < get_or a i 0)
      → IsMerged (InFirstAlone a b) a b out i (j + 1)
  alone_second m l second =
      let ahead : m.bound ≤ get_or b j 0 = m.of_b.from j (omega arith) l in
      record {
        bound = get_or b j 0 + 1;
        of_a = split_below a ra i m.bound (get_or b j 0) m.of_a ahead second;
        of_b = split_past b rb j m.bound m.of_b l;
        set = set_past (InFirstAlone a b) out m.bound (get_or b j 0) m.set ahead
            (λ s p h. let n = next_least a ra i m.bound s m.of_a p.0 h in omega (arith, second n.0))
            (λ p. p.1 (Contains-get_or b j 0 l));
      }

  -- both are the same
  pub alone_both : IsMerged (InFirstAlone a b) a b out i j → i < length a → j < length b → get_or a i 0 ≡ get_or b j 0
      → IsMerged (InFirstAlone a b) a b out (i + 1) (j + 1)
  alone_both m l h e =
      let ahead : m.bound ≤ get_or a i 0 = m.of_a.from i (omega arith) l in
      record {
        bound = get_or a i 0 + 1;
        of_a = split_past a ra i m.bound m.of_a l;
        of_b = subst (λ x. SplitsAt b (j + 1) (x + 1)) (sym e) (split_past b rb j m.bound m.of_b h);
        set = set_past (InFirstAlone a b) out m.bound (get_or a i 0) m.set ahead
            (λ s p k. (next_least a ra i m.bound s m.of_a p.0 k).1)
            (λ p. p.1 (subst (λ x. Contains b x) (sym e) (Contains-get_or b j 0 h)));
      }

  -- at the end of a the list is the difference
  pub alone_whole : IsMerged (InFirstAlone a b) a b out i j → length a ≤ i → IsSetOf nat_lt out (InFirstAlone a b)
  alone_whole m l =
      set_same nat_lt (λ s. InFirstAlone a b s × (s < m.bound)) (InFirstAlone a b) out m.set (λ s. (
        (λ q. q.0),
        (λ p. (p, all_below a ra i m.bound s m.of_a l p.0)),
      ))

-- if neither list's next comes first, both have the same next
pub neither_first : (a b : List ℕ) (i j : ℕ)
    → ((i < length a) × (j < length b → get_or a i 0 < get_or b j 0) → ⊥)
    → ((j < length b) × (i < length a → get_or b j 0 < get_or a i 0) → ⊥)
    → (i < length a) ⊎ (j < length b)
    → (i < length a) × (j < length b) × (get_or a i 0 ≡ get_or b j 0)
neither_first a b i j not_a not_b some =
    let in_a : i < length a =
    elim (cases_lt i (length a)) [ inl l ↦ l | inr l ↦ elim some [ inl m ↦ m | inr m ↦ absurd (not_b (m, λ n. absurd (omega arith))) ] ] in
    let in_b : j < length b = elim (cases_lt j (length b)) [ inl l ↦ l | inr l ↦ absurd (not_a (in_a, λ n. absurd (omega arith))) ] in
    let not_below : get_or b j 0 ≤ get_or a i 0 = elim (cases_lt (get_or a i 0) (get_or b j 0)) [ inl l ↦ absurd (not_a (in_a, λ _. l)) | inr l ↦ l ] in
    let not_above : get_or a i 0 ≤ get_or b j 0 = elim (cases_lt (get_or b j 0) (get_or a i 0)) [ inl l ↦ absurd (not_b (in_b, λ _. l)) | inr l ↦ l ] in
    (in_a, in_b, omega arith)
