-- Tables of time sets that grow, and what is known of their unions.
use Rattle.std.proofs.Common.{◌≡◌, ℕ, ◌<◌, List, [], length, nat_lt, Some, slice_get, get_or, All, Contains, inl, inr, subst}
use Rattle.std.specs.Prelude.{◌⊎◌}
use Rattle.std.proofs.lemmas.List.Elements.{All-contains, All-contains_itself}
use Rattle.std.proofs.lemmas.Option.{slice_get_within, slice_get-get_or, get_or_from_slice_get}
use Rattle.rr_model.specs.Rising.Sets.{IsSetOf, IsSecondsOfDay}
use Rattle.rr_model.proofs.RisingSetLemmas.{set_itself, set_same}
use Rattle.rr_shapes.specs.Tables.{Extends, IsUnion, IsDifference, IsTable}
use Rattle.rr_shapes.specs.declared.pair_numbers.Pair.{Pair}

module _ (old new : List (List ℕ)) (grows : Extends old new) (number : ℕ) (within : number < length old) where
  -- a number keeps its set
  pub kept_set : get_or new number [] ≡ get_or old number []
  kept_set = get_or_from_slice_get new number (get_or old number []) [] (grows number (get_or old number []) (slice_get-get_or old number [] within))

  pub kept_number : number < length new
  kept_number = slice_get_within new number (get_or old number []) (grows number (get_or old number []) (slice_get-get_or old number [] within))

-- a number of the old table is one of the new, and has the same set
pub same_set : (old new : List (List ℕ)) (number : ℕ) → Extends old new → number < length old
    → (number < length new) × (get_or new number [] ≡ get_or old number [])
same_set old new number grows within = (kept_number old new grows number within, kept_set old new grows number within)

-- a union of the old table is one of the new
pub kept_union : (old new : List (List ℕ)) (known : Pair × ℕ) → Extends old new → IsUnion old known → IsUnion new known
kept_union old new known grows union = record {
  a = kept_number old new grows known.0.a union.a;
  b = kept_number old new grows known.0.b union.b;
  number = kept_number old new grows known.1 union.number;
  union = rw (kept_set old new grows known.0.a union.a, kept_set old new grows known.0.b union.b, kept_set old new grows known.1 union.number) union.union;
}

-- and so is a difference
pub kept_difference : (old new : List (List ℕ)) (known : Pair × ℕ) → Extends old new → IsDifference old known → IsDifference new known
kept_difference old new known grows less = record {
  a = kept_number old new grows known.0.a less.a;
  b = kept_number old new grows known.0.b less.b;
  number = kept_number old new grows known.1 less.number;
  difference = rw (kept_set old new grows known.0.a less.a, kept_set old new grows known.0.b less.b, kept_set old new grows known.1 less.number) less.difference;
}

-- a table of which the sets grow
pub table_with_sets : (sets new : List (List ℕ)) (unions less : List (Pair × ℕ)) → IsTable sets unions less → Extends sets new → All IsSecondsOfDay new
    → IsTable new unions less
table_with_sets sets new unions less table grows of_day = record {
  of_day = of_day;
  unions = λ k d l. kept_union sets new _ grows (table.unions k d l);
  differences = λ k d l. kept_difference sets new _ grows (table.differences k d l);
}

-- a table of which at most one more union is known
pub table_with_union : (sets : List (List ℕ)) (unions new less : List (Pair × ℕ)) (one : Pair × ℕ) → IsTable sets unions less → IsUnion sets one
    → ((known : Pair × ℕ) → Contains new known → Contains unions known ⊎ (one ≡ known)) → IsTable sets new less
table_with_union sets unions new less one table union only = record {
  of_day = table.of_day;
  unions = λ k d l. elim (only _ (All-contains_itself new k d l)) [
    | inl was ↦ All-contains (IsUnion sets) unions _ table.unions was
    | inr e ↦ subst (IsUnion sets) e union
  ];
  differences = table.differences;
}

-- a table of which at most one more difference is known
pub table_with_difference : (sets : List (List ℕ)) (unions less new : List (Pair × ℕ)) (one : Pair × ℕ) → IsTable sets unions less → IsDifference sets one
    → ((known : Pair × ℕ) → Contains new known → Contains less known ⊎ (one ≡ known)) → IsTable sets unions new
table_with_difference sets unions less new one table difference only = record {
  of_day = table.of_day;
  unions = table.unions;
  differences = λ k d l. elim (only _ (All-contains_itself new k d l)) [
    | inl was ↦ All-contains (IsDifference sets) less _ table.differences was
    | inr e ↦ subst (IsDifference sets) e difference
  ];
}

-- a set is its union with itself
pub own_union : (sets : List (List ℕ)) (a : ℕ) → All IsSecondsOfDay sets → a < length sets
    → IsSetOf nat_lt (get_or sets a []) (λ s. Contains (get_or sets a []) s ⊎ Contains (get_or sets a []) s)
own_union sets a days within =
    set_same nat_lt (Contains (get_or sets a [])) _ (get_or sets a []) (set_itself nat_lt (get_or sets a []) (days a [] within).rises)
    (λ s. (inl, λ either. elim either [ inl c ↦ c | inr c ↦ c ]))

-- a union that was placed
module _ (old new : List (List ℕ)) (pair : Pair) (number : ℕ) (a b both : List ℕ) (grows : Extends old new) (at_a : slice_get old pair.a ≡ Some a)
    (at_b : slice_get old pair.b ≡ Some b) (at_both : slice_get new number ≡ Some both)
    (union : IsSetOf nat_lt both (λ s. Contains a s ⊎ Contains b s)) where
  pub new_union : IsUnion new (pair, number)
  new_union = record {
    a = slice_get_within new pair.a a (grows pair.a a at_a);
    b = slice_get_within new pair.b b (grows pair.b b at_b);
    number = slice_get_within new number both at_both;
    union = rw (
      get_or_from_slice_get new number both [] at_both,
      get_or_from_slice_get new pair.a a [] (grows pair.a a at_a),
      get_or_from_slice_get new pair.b b [] (grows pair.b b at_b),
    ) union;
  }

  pub union_of_old : IsSetOf nat_lt (get_or new number []) (λ s. Contains (get_or old pair.a []) s ⊎ Contains (get_or old pair.b []) s)
  union_of_old = rw (
    get_or_from_slice_get new number both [] at_both,
    get_or_from_slice_get old pair.a a [] at_a,
    get_or_from_slice_get old pair.b b [] at_b,
  ) union

-- a difference that was placed
module _ (old new : List (List ℕ)) (pair : Pair) (number : ℕ) (a b left : List ℕ) (grows : Extends old new) (at_a : slice_get old pair.a ≡ Some a)
    (at_b : slice_get old pair.b ≡ Some b) (at_left : slice_get new number ≡ Some left)
    (less : IsSetOf nat_lt left (λ s. Contains a s × ¬ Contains b s)) where
  pub new_difference : IsDifference new (pair, number)
  new_difference = record {
    a = slice_get_within new pair.a a (grows pair.a a at_a);
    b = slice_get_within new pair.b b (grows pair.b b at_b);
    number = slice_get_within new number left at_left;
    difference = rw (
      get_or_from_slice_get new number left [] at_left,
      get_or_from_slice_get new pair.a a [] (grows pair.a a at_a),
      get_or_from_slice_get new pair.b b [] (grows pair.b b at_b),
    ) less;
  }

  pub difference_of_old : IsSetOf nat_lt (get_or new number []) (λ s. Contains (get_or old pair.a []) s × ¬ Contains (get_or old pair.b []) s)
  difference_of_old = rw (
    get_or_from_slice_get new number left [] at_left,
    get_or_from_slice_get old pair.a a [] at_a,
    get_or_from_slice_get old pair.b b [] at_b,
  ) less
