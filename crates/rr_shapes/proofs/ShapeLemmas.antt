-- Lists of distinct time sets.
use Rattle.std.proofs.Common.{inl, inr, get_or, length-append, ◌≡◌, ℕ, ◌+◌, ◌<◌, ◌≤◌, List, [], ◌∷◌, ◌++◌, length, Bool, true, false, cond, nat_eq, Some}
use Rattle.std.proofs.Common.{slice_get, position, All, Contains, true≢false, refl, sym, ap, subst, ◌∙◌, arith}
use Rattle.std.proofs.lemmas.Cmp.{nat_list_eq_equiv}
use Rattle.std.proofs.lemmas.Bool.{cases_lt}
use Rattle.std.proofs.lemmas.List.{get_or_append_left}
use Rattle.std.proofs.lemmas.List.Elements.{All-push}
use Rattle.std.proofs.lemmas.List.Sums.{sum_by-cons, sum_by_push}
use Rattle.std.proofs.lemmas.List.Quantifiers.{position-Some}
use Rattle.std.proofs.lemmas.Map.Made.{AllPairs-from_IsDistinct, IsDistinct-from_AllPairs}
use Rattle.std.proofs.lemmas.Map.Views.{Contains-from_any, list_any-from_Contains}
use Rattle.std.proofs.lemmas.Option.{slice_get_read, slice_get_within, get_or_from_slice_get}
use Rattle.std.specs.Prelude.{Option, None, IfNone, Result, Ok, Err, IfOk, OnErr}
use Rattle.std.specs.Cmp.Lexicographic.{pointwise, bytes_decides}
use Rattle.std.specs.List.{list_any, AllByRecursion, IsDistinct}
use Rattle.indexmap.specs.IndexSet.{insert_key}
use Rattle.rr_model.specs.Rising.Sets.{IsSecondsOfDay}
use Rattle.rr_model.specs.Sets.Sizes.{total_size}
use Rattle.rr_model.specs.declared.limits.TheConstants.{MAX_SECONDS}
use Rattle.rr_shapes.specs.Numbering.{IsNumbering, IsCounted}
use Rattle.rr_shapes.specs.Placing.{IsPlaced, IsTooMany}
use Rattle.rr_shapes.specs.Tables.{Extends}

-- the same seconds
abbrev pub same : List ℕ → List ℕ → Bool
same = pointwise nat_eq

module _ (sets : List (List ℕ)) (times : List ℕ) where
  -- a set that was found stands at its number
  pub found_at : (number : ℕ) → position (same times) sets ≡ Some number → slice_get sets number ≡ Some times
  found_at number e =
      let at = position-Some (same times) sets number times e in
      slice_get_read sets (length sets) number times refl at.0 ((bytes_decides times _).0 at.1)

  -- and is there
  pub known_in : (number : ℕ) → slice_get sets number ≡ Some times → Contains sets times
  known_in number e = (number, slice_get_within sets number times e, get_or_from_slice_get sets number times times e)

  -- so it is placed already
  pub known_placed : (number : ℕ) → slice_get sets number ≡ Some times → IsPlaced times sets sets number
  known_placed number e = record {
    stands = e;
    known = λ _. refl;
    added = λ n. absurd (n (known_in number e));
  }

  -- a set that no test finds is not there
  pub absent : list_any (same times) sets ≡ false → Contains sets times → ⊥
  absent e there = true≢false (sym (list_any-from_Contains nat_list_eq_equiv times sets there) ∙ e)

-- what holds anyway holds if there is no answer
pub if_none : {X : Type 0} (answer : Option X) (P : Type 0) → P → IfNone answer P
if_none None P h = h
if_none (Some x) P h = tt

-- sets that are not empty are no more than their seconds
nonempty_bound : (sets : List (List ℕ)) → AllByRecursion (λ y. same [] y ≡ false) sets → length sets ≤ total_size sets
nonempty_bound [] h = omega arith
nonempty_bound ([] ∷ sets) h = absurd (true≢false h.0)
nonempty_bound ((x ∷ xs) ∷ sets) h = omega (arith, nonempty_bound sets h.1, sum_by-cons length (x ∷ xs) sets)

-- distinct sets are at most one more, since one may be empty
distinct_bound : (sets : List (List ℕ)) → IsDistinct same sets → length sets ≤ total_size sets + 1
unfolding IsDistinct
distinct_bound [] h = omega arith
distinct_bound ([] ∷ sets) h = omega (arith, nonempty_bound sets h.0, sum_by-cons length [] sets)
distinct_bound ((x ∷ xs) ∷ sets) h = omega (arith, distinct_bound sets h.1, sum_by-cons length (x ∷ xs) sets)

-- so a number fits its type
pub few : (sets : List (List ℕ)) (size : ℕ) → IsCounted sets size → length sets ≤ 16_777_217
few sets size counts =
    let bound = distinct_bound sets (IsDistinct-from_AllPairs bytes_decides sets counts.numbering.distinct) in
    omega (arith, counts.sum, counts.within, bound)

pub number_few : (sets : List (List ℕ)) (size number : ℕ) (times : List ℕ) → IsCounted sets size → slice_get sets number ≡ Some times → number ≤ MAX_SECONDS
number_few sets size number times counts e = omega (arith, few sets size counts, slice_get_within sets number times e)

-- a set that goes last leaves the others where they are
push_extends : (sets : List (List ℕ)) (times : List ℕ) → Extends sets (sets ++ times ∷ [])
push_extends sets times number set e =
    let within = slice_get_within sets number set e in
    let read = sym (get_or_append_left sets (times ∷ []) set number within ∙ get_or_from_slice_get sets number set set e) in
    slice_get_read (sets ++ times ∷ []) (length (sets ++ times ∷ [])) number set refl (omega (arith, length-append sets (times ∷ []))) read

-- ---- a set that is inserted

-- a new set gets the next number
next_number : (sets new : List (List ℕ)) (times : List ℕ) (number : ℕ) → list_any (same times) sets ≡ false → new ≡ sets ++ times ∷ []
    → slice_get new number ≡ Some times → number ≡ length sets
next_number sets new times number fresh last at =
    let within : number < length sets + 1 = omega (arith, slice_get_within new number times at, ap length last, length-append sets (times ∷ [])) in
    elim (cases_lt number (length sets)) [
      | inl l ↦ absurd (absent sets times fresh (
        number,
        l,
        sym (get_or_append_left sets (times ∷ []) times number l)
            ∙ ap (λ ks. get_or ks number times) (sym last) ∙ get_or_from_slice_get new number times times at,
      ))
      | inr l ↦ omega arith
    ]

-- a set stands at its number once it is inserted
pub inserted_placed : (sets new : List (List ℕ)) (times : List ℕ) (number : ℕ) (stored : List ℕ) → new ≡ insert_key same sets times
    → slice_get new number ≡ Some stored → same times stored ≡ true → IsPlaced times sets new number
inserted_placed sets new times number stored e at is = by (list_any (same times) sets) refl
  where
    stands : slice_get new number ≡ Some times
    stands = at ∙ ap Some (sym ((bytes_decides times stored).0 is))

    by : (b : Bool) → list_any (same times) sets ≡ b → IsPlaced times sets new number
    by true known =
        let stays : new ≡ sets = e ∙ ap (λ c. cond c sets (sets ++ times ∷ [])) known in
        let there : slice_get sets number ≡ Some times = ap (λ l. slice_get l number) (sym stays) ∙ stands in
        record {
          stands = stands;
          known = λ _. stays;
          added = λ n. absurd (n (known_in sets times number there));
        }
    by false fresh =
        let last : new ≡ sets ++ times ∷ [] = e ∙ ap (λ c. cond c sets (sets ++ times ∷ [])) fresh in
        record {
          stands = stands;
          known = λ there. absurd (absent sets times fresh there);
          added = λ _. (last, next_number sets new times number fresh last stands);
        }

-- sets that are distinct and of a day are so with it
pub inserted_numbering : (sets new : List (List ℕ)) (times : List ℕ) → IsNumbering sets → new ≡ insert_key same sets times → IsDistinct same new
    → IsSecondsOfDay times → IsNumbering new
inserted_numbering sets new times numbering e distinct day = record {
  distinct = AllPairs-from_IsDistinct bytes_decides new distinct;
  of_day = subst (All IsSecondsOfDay) (sym e) (by (list_any (same times) sets));
}
  where
    by : (b : Bool) → All IsSecondsOfDay (cond b sets (sets ++ times ∷ []))
    by true = numbering.of_day
    by false = All-push IsSecondsOfDay sets times numbering.of_day day

-- a set that is placed leaves the others where they are
pub placed_extends : (times : List ℕ) (old new : List (List ℕ)) (number : ℕ) → IsPlaced times old new number → Extends old new
placed_extends times old new number placed = by (list_any (same times) old) refl
  where
    by : (b : Bool) → list_any (same times) old ≡ b → Extends old new
    by true known =
        let there : Contains old times = Contains-from_any (λ x y. (bytes_decides x y).0) times old known in
        subst (Extends old) (sym (placed.known there)) (λ _ _ at. at)
    by false fresh = subst (Extends old) (sym (placed.added (absent old times fresh)).0) (push_extends old times)

-- a list to which a set was not added, since memory ran out, extends the old one
pub interned_extends : {E : Type 0} (result : Result ℕ E) (old new : List (List ℕ)) (times : List ℕ) → IfOk result (IsPlaced times old new)
    → OnErr result (new ≡ old) → Extends old new
interned_extends (Ok number) old new times placed same_sets = placed_extends times old new number placed
interned_extends (Err e) old new times placed same_sets = subst (Extends old) (sym same_sets) (λ _ _ at. at)

-- the number of a set is one of those before it, or the next one
pub placed_within : (old new : List (List ℕ)) (times : List ℕ) (number : ℕ) → IsPlaced times old new number → number ≤ length old
placed_within old new times number placed = by (list_any (same times) old) refl
  where
    by : (b : Bool) → list_any (same times) old ≡ b → number ≤ length old
    by true known =
        let there : Contains old times = Contains-from_any (λ x y. (bytes_decides x y).0) times old known in
        omega (arith, ap length (placed.known there), slice_get_within new number times placed.stands)
    by false fresh = omega (arith, (placed.added (absent old times fresh)).1)

-- ---- sets that are counted

module _ (sets : List (List ℕ)) (size : ℕ) (times : List ℕ) (counts : IsCounted sets size) (fresh : ¬ Contains sets times) where
  -- a new set that does not fit
  pub too_many : (more : ℕ) → more ≡ length times → MAX_SECONDS < size + more → IsTooMany times sets
  too_many more e above = record { fresh = fresh; above = omega (arith, counts.sum) }

  -- and one that fits is counted
  pub new_counted : (new : List (List ℕ)) (number more : ℕ) → IsPlaced times sets new number → IsNumbering new → more ≡ length times
      → size + more ≤ MAX_SECONDS → IsCounted new (size + more)
  new_counted new number more placed numbering sized room =
      let last : new ≡ sets ++ times ∷ [] = (placed.added fresh).0 in
      let total : total_size new ≡ total_size sets + length times = ap total_size last ∙ sum_by_push length sets times in
      record {
        numbering = numbering;
        sum = omega (arith, counts.sum);
        within = room;
      }

-- a set has one number
pub one_number : (sets : List (List ℕ)) (times : List ℕ) (m n : ℕ) → IsNumbering sets → slice_get sets m ≡ Some times → slice_get sets n ≡ Some times → m ≡ n
one_number sets times m n numbering at_m at_n =
    let read_m = get_or_from_slice_get sets m times times at_m in
    let read_n = get_or_from_slice_get sets n times times at_n in
    elim (cases_lt m n) [
      | inl l ↦ absurd (numbering.distinct m n times l (slice_get_within sets n times at_n) (read_m ∙ sym read_n))
      | inr h ↦ elim (cases_lt n m) [
        | inl l ↦ absurd (numbering.distinct n m times l (slice_get_within sets m times at_m) (read_n ∙ sym read_m))
        | inr l ↦ omega arith
      ]
    ]
