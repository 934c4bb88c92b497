-- What a search in a rising list of moments finds.
use Rattle.std.proofs.Common.{◌≡◌, ℕ, zero, suc, ◌+◌, ◌<◌, ◌≤◌, true, false, List, [], ◌∷◌, length, get_or, Result, Ok, Err, inl, inr, sym, ap, arith, ℤ}
use Rattle.std.specs.Prelude.{int_lt}
use Rattle.std.specs.List.{list_any}
use Rattle.std.specs.List.Sorted.{IsBinarySearchResult}
use Rattle.std.specs.Ordering.{int_cmp, int_eq, is_eq, is_lt}
use Rattle.std.specs.Result.{MatchResult, is_ok}
use Rattle.std.specs.declared.cmp.Ordering.TheVariants.{Less, Greater}
use Rattle.std.proofs.lemmas.Bool.{cases_lt}
use Rattle.std.proofs.lemmas.Cmp.{int_cmp_total}
use Rattle.std.proofs.lemmas.Int.{ints}
use Rattle.std.proofs.lemmas.List.Elements.{All-from_get_or}
use Rattle.std.proofs.lemmas.List.Folds.{list_any_at, list_any_none}
use Rattle.std.proofs.lemmas.List.Sorted.{searchable_from_sorted}
use Rattle.rr_model.specs.Rising.{Rises}

not_back : (x y : ℤ) → int_lt x y ≡ true → is_lt (int_cmp y x) ≡ false
not_back x y l = grind (arith, ints)

adjacent : (xs : List ℤ) → Rises int_lt xs → (k : ℕ) (d : ℤ) → 0 ≤ k → k + 1 < length xs → is_lt (int_cmp (get_or xs (k + 1) d) (get_or xs k d)) ≡ false
adjacent [] r k d z l = absurd (omega arith)
adjacent (x ∷ []) r k d z l = absurd (omega arith)
adjacent (x ∷ y ∷ ys) r zero d z l = not_back x y r.0
adjacent (x ∷ y ∷ ys) r (suc k) d z l =
    let e : suc k + 1 ≡ suc (k + 1) = omega arith in
    rw e (adjacent (y ∷ ys) r.1 k d (omega arith) (omega arith))

pub searched : (xs : List ℤ) (at : ℤ) (r : Result ℕ ℕ) → Rises int_lt xs → MatchResult r (λ i. i < length xs) (λ i. i ≤ length xs)
    → IsBinarySearchResult (λ y. int_cmp y at) xs r → is_ok r ≡ list_any (λ t. int_eq t at) xs
searched xs at (Ok i) rises bound here = sym (list_any_at (λ t. int_eq t at) xs i at bound (ap is_eq (here at)))
searched xs at (Err i) rises bound place =
    let parts = place (searchable_from_sorted int_cmp_total (λ y. y) xs at (adjacent xs rises)) in
    sym (list_any_none (λ t. int_eq t at) xs (All-from_get_or (λ t. int_eq t at ≡ false) xs at (λ k l. by parts.0 parts.1 k l)))
  where
    by : ((k : ℕ) (d : ℤ) → 0 ≤ k → k < i → int_cmp (get_or xs k d) at ≡ Less) → ((k : ℕ) (d : ℤ) → i ≤ k → k < length xs → int_cmp (get_or xs k d) at ≡ Greater)
        → (k : ℕ) → k < length xs → int_eq (get_or xs k at) at ≡ false
    by before from k l = elim (cases_lt k i) [ inl b ↦ ap is_eq (before k at (omega arith) b) | inr f ↦ ap is_eq (from k at f l) ]
