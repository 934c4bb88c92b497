-- There is one list of the first differences, and the verdict of equality names its first.
use Rattle.std.proofs.Common.{◌≡◌, ◌↔◌, inl, inr, ℕ, ◌≤◌, ℤ, List, [], ◌∷◌, ◌++◌, length, get_or, All, Contains, refl, ap, subst, arith}
use Rattle.std.proofs.Common.{length-append}
use Rattle.std.proofs.lemmas.List.Elements.{All-contains, All-head, Contains-push_cases}
use Rattle.rr_model.specs.Moment.{Occurrences}
use Rattle.rr_model.specs.Rising.{Rises}
use Rattle.rr_model.specs.declared.kind.Kind.{Kind}
use Rattle.rr_model.specs.declared.verdict.Verdict.TheVariants.{Yes, No}
use Rattle.rr_model.proofs.RisingSetLemmas.{Contains-cons_cases, Contains-none, Rises-push, same_members}
use Rattle.rr_model.proofs.SideLemmas.{HoldsOnlyOf-same}
use Rattle.rr_differ.specs.Differences.{AreFirstDifferences, ComesBefore, DifferencesAreOne, EqualNamesTheFirst, IsDifference}
use Rattle.rr_differ.specs.declared.difference.Difference.{Difference}
use Rattle.rr_differ.proofs.OrderLemmas.{earlier_follows, earlier_of, earlier_strict, head_before, is_earlier, not_both, not_longer, order_rises}
use Rattle.rr_differ.proofs.SideLemmas.{not_only}

module _ (P Q : Occurrences) (n : ℕ) where
  -- what stands in one list of the first stands in the other
  stands_in_other : (ds es : List Difference) → AreFirstDifferences P Q n ds → AreFirstDifferences P Q n es → (d : Difference) → Contains ds d
      → Contains es d
  stands_in_other ds es a b d c = elim (b.first d (All-contains (IsDifference P Q) ds d a.differ c)) [
    | inl there ↦ there
    | inr late ↦ absurd (crowded late.0 late.1)
  ]
    where
      earlier : All (λ e. ComesBefore e d) es → (e : Difference) → Contains es e → ComesBefore e d
      earlier late e f = All-contains (λ e. ComesBefore e d) es e late f

      within : All (λ e. ComesBefore e d) es → (e : Difference) → Contains (es ++ d ∷ []) e → Contains ds e
      within late e f = elim (Contains-push_cases es d e f) [
        | inl g ↦ elim (a.first e (All-contains (IsDifference P Q) es e b.differ g)) [
          | inl there ↦ there
          | inr later ↦ absurd (not_both e d (earlier late e g) (All-contains (λ f. ComesBefore f e) ds d later.1 c))
        ]
        | inr same ↦ subst (Contains ds) same c
      ]

      crowded : length es ≡ n → All (λ e. ComesBefore e d) es → ⊥
      crowded full late =
          let rises : Rises is_earlier (es ++ d ∷ []) =
          Rises-push is_earlier es d (order_rises es b.in_order) (λ e f. earlier_of e d (earlier late e f)) in
          let more : length (es ++ d ∷ []) ≤ length ds = not_longer (es ++ d ∷ []) ds rises (order_rises ds a.in_order) (within late) in
          omega (arith, more, length-append es (d ∷ []), full, a.few)

pub differences_are_one : DifferencesAreOne
differences_are_one P Q n ds es a b =
    same_members is_earlier earlier_strict earlier_follows ds es (order_rises ds a.in_order) (order_rises es b.in_order)
    (stands_in_other P Q n ds es a b) (stands_in_other P Q n es ds b a)

-- of sets with equal occurrences the differences are the same
pub differences_same : (P Q P' Q' : Occurrences) (n : ℕ) (ds : List Difference) → ((k : Kind) (t : ℤ) → P k t ↔ P' k t)
    → ((k : Kind) (t : ℤ) → Q k t ↔ Q' k t) → AreFirstDifferences P Q n ds → AreFirstDifferences P' Q' n ds
differences_same P Q P' Q' n ds p q a = record {
  in_order = a.in_order;
  few = a.few;
  differ = λ k e l. to (get_or ds k e) (a.differ k e l);
  first = λ d h. a.first d (from d h);
}
  where
    to : (d : Difference) → IsDifference P Q d → IsDifference P' Q' d
    to d h = HoldsOnlyOf-same d.side (P d.kind d.at) (P' d.kind d.at) (Q d.kind d.at) (Q' d.kind d.at) (p d.kind d.at) (q d.kind d.at) h

    from : (d : Difference) → IsDifference P' Q' d → IsDifference P Q d
    from d h =
        let x = p d.kind d.at in
        let y = q d.kind d.at in
        HoldsOnlyOf-same d.side (P' d.kind d.at) (P d.kind d.at) (Q' d.kind d.at) (Q d.kind d.at) (x.1, x.0) (y.1, y.0) h

-- ---- the verdict of equality

-- one that comes before no other difference heads the list
heads : (P Q : Occurrences) (n : ℕ) (d e : Difference) (es : List Difference) → AreFirstDifferences P Q n (e ∷ es) → IsDifference P Q d
    → (ComesBefore e d → ⊥) → e ≡ d
heads P Q n d e es a differs none = elim (a.first d differs) [
  | inl c ↦ elim (Contains-cons_cases e es d c) [ inl same ↦ same | inr more ↦ absurd (none (head_before e es a.in_order d more)) ]
  | inr late ↦ absurd (none (All-head (λ f. ComesBefore f d) e es late.1))
]

pub equal_names_the_first : EqualNamesTheFirst
equal_names_the_first P Q n [] Yes some a equal = refl
equal_names_the_first P Q n (d ∷ ds) Yes some a equal =
    absurd (not_only d.side (P d.kind d.at) (Q d.kind d.at) (equal d.kind d.at) (All-head (IsDifference P Q) d ds a.differ))
equal_names_the_first P Q n [] (No k t side) some a equal = elim (a.first (record { kind = k; at = t; side = side }) equal.0) [
  | inl c ↦ absurd (Contains-none (record { kind = k; at = t; side = side }) c)
  | inr late ↦ absurd (omega (arith, some, late.0))
]
equal_names_the_first P Q n (d ∷ ds) (No k t side) some a equal =
    let named : Difference = record { kind = k; at = t; side = side } in
    let same : d ≡ named = heads P Q n named d ds a equal.0
    (λ before. not_only d.side (P d.kind d.at) (Q d.kind d.at) (equal.1 d.kind d.at before) (All-head (IsDifference P Q) d ds a.differ)) in
    (ds, ap (λ (x : Difference). x ∷ ds) same)
