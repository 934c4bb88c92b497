-- A time set that is placed in a table leaves the others at their numbers.
use Rattle.std.proofs.Common.{◌≡◌, ◌⊎◌, ℕ, ◌<◌, true, false, List, [], ◌∷◌, ◌++◌, length, get_or, Contains, length-append, refl, sym, ap, subst, ◌∙◌, inl, inr, arith}
use Rattle.std.specs.Prelude.{nat_eq}
use Rattle.std.specs.Cmp.Lexicographic.{pointwise, bytes_decides}
use Rattle.std.proofs.lemmas.Bool.{cases_lt, false≢true}
use Rattle.std.proofs.lemmas.Grind.{common_steps, elements}
use Rattle.rr_model.proofs.RisingSetLemmas.{Contains-head, Contains-tail, Contains-none, Contains-cons_cases}
use Rattle.rr_shapes.proofs.ShapeLemmas.{placed_extends}
use Rattle.rr_shapes.specs.Placing.{IsPlaced}
use Rattle.rr_days.specs.Growing.{IsGrown}

-- whether a list of sets has a set is decided
known_or_fresh : (sets : List (List ℕ)) (times : List ℕ) → Contains sets times ⊎ (Contains sets times → ⊥)
known_or_fresh [] times = inr (λ c. Contains-none times c)
known_or_fresh (x ∷ xs) times =
    elim (pointwise nat_eq x times) as (λ b. pointwise nat_eq x times ≡ b → Contains (x ∷ xs) times ⊎ (Contains (x ∷ xs) times → ⊥)) [
      | true ↦ λ e. inl (subst (Contains (x ∷ xs)) ((bytes_decides x times).0 e) (Contains-head x xs))
      | false ↦ λ e. elim (known_or_fresh xs times) [
        | inl c ↦ inl (Contains-tail x xs times c)
        | inr n ↦ inr (λ c. elim (Contains-cons_cases x xs times c) [ inl same ↦ false≢true (sym e ∙ (bytes_decides x times).1 same) | inr d ↦ n d ])
      ]
    ] refl

module _ (times : List ℕ) (old new : List (List ℕ)) (number : ℕ) (placed : IsPlaced times old new number) where
  -- the sets are the same, or there is one more
  pub grown : (new ≡ old) ⊎ (new ≡ old ++ times ∷ [])
  grown = elim (known_or_fresh old times) [ inl c ↦ inl (placed.known c) | inr n ↦ inr (placed.added n).0 ]

  -- a number keeps its set
  pub keeps : (n : ℕ) (d : List ℕ) → n < length old → (n < length new) × (get_or new n d ≡ get_or old n d)
  keeps n d l = elim grown [
    | inl e ↦ rw e (l, refl)
    | inr e ↦ rw e (grind (arith, common_steps), grind (arith, elements))
  ]

  -- the placed set has its own
  pub at_number : (number < length new) × (get_or new number [] ≡ times)
  at_number = (grind (arith, elements, placed.stands), grind (arith, elements, placed.stands))

-- a set that is placed comes alone
pub placed_grown : (times : List ℕ) (old new : List (List ℕ)) (number : ℕ) → IsPlaced times old new number → IsGrown old new number
placed_grown times old new number placed = record {
  kept = placed_extends times old new number placed;
  added = λ k l. elim (cases_lt k (length old)) [
    | inl m ↦ inl m
    | inr g ↦ (
        let fresh : Contains old times → ⊥ = λ c. absurd (omega (arith, l, g, ap length (placed.known c))) in
        let last = placed.added fresh in
        inr (omega (arith, l, g, ap length last.0, last.1, length-append old (times ∷ []))))
  ];
}

-- if no set comes each keeps its number
pub not_grown : (sets : List (List ℕ)) (number : ℕ) → IsGrown sets sets number
not_grown sets number = record { kept = λ k times at. at; added = λ k l. inl l }
