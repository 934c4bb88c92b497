-- The items of a time set, index by index.
use Rattle.std.proofs.Common.{◌≡◌, ℕ, zero, suc, ◌+◌, ◌-◌, ◌<◌, ◌≤◌, ◌==◌, true, false, cond, List, [], ◌∷◌, length, get_or, drop, refl, sym, ap, ◌∙◌, arith}
use Rattle.std.specs.Prelude.{nat_le}
use Rattle.std.proofs.lemmas.Bool.Decides.{nat_tests}
use Rattle.std.proofs.Math.Seq.{drop-cons}
use Rattle.rr_model.specs.Sets.Stretches.{row_after, single, first_stretch, stretch_or_single}

-- what follows an index
pub rest_of : (xs : List ℕ) (k : ℕ) → k < length xs → drop k xs ≡ get_or xs k 0 ∷ drop (k + 1) xs
rest_of xs k l = let e : k + 1 ≡ suc k = omega arith in drop-cons xs k 0 l ∙ ap (λ n. get_or xs k 0 ∷ drop n xs) (sym e)

pub nothing_left : (xs : List ℕ) (k : ℕ) → length xs ≤ k → drop k xs ≡ []
nothing_left [] zero l = refl
nothing_left [] (suc k) l = refl
nothing_left (x ∷ xs) zero l = absurd (omega arith)
nothing_left (x ∷ xs) (suc k) l = nothing_left xs k (omega arith)

-- ---- a row

pub row_goes_on : (xs : List ℕ) (k step : ℕ) → k + 1 < length xs → get_or xs (k + 1) 0 ≡ get_or xs k 0 + step
    → row_after (get_or xs k 0) step (drop (k + 1) xs) ≡ 1 + row_after (get_or xs (k + 1) 0) step (drop (k + 1 + 1) xs)
row_goes_on xs k step l e =
    let x = get_or xs (k + 1) 0 in
    let same : (x == get_or xs k 0 + step) ≡ true = grind (arith, nat_tests, e) in
    ap (row_after (get_or xs k 0) step) (rest_of xs (k + 1) l)
    ∙ ap (λ b. cond b (row_after x step (drop (k + 1 + 1) xs) + 1) 0) same ∙ omega arith

pub row_ends : (xs : List ℕ) (k step : ℕ) → k + 1 < length xs → (get_or xs (k + 1) 0 ≡ get_or xs k 0 + step → ⊥)
    → row_after (get_or xs k 0) step (drop (k + 1) xs) ≡ 0
row_ends xs k step l e =
    let x = get_or xs (k + 1) 0 in
    let differ : (x == get_or xs k 0 + step) ≡ false = grind (arith, nat_tests, e) in
    ap (row_after (get_or xs k 0) step) (rest_of xs (k + 1) l) ∙ ap (λ b. cond b (row_after x step (drop (k + 1 + 1) xs) + 1) 0) differ

pub row_over : (xs : List ℕ) (k step : ℕ) → length xs ≤ k + 1 → row_after (get_or xs k 0) step (drop (k + 1) xs) ≡ 0
row_over xs k step l = ap (row_after (get_or xs k 0) step) (nothing_left xs (k + 1) l)

-- ---- the item at an index

-- fewer than two seconds follow
pub alone_at_end : (xs : List ℕ) (k : ℕ) → k < length xs → length xs < k + 3 → first_stretch (get_or xs k 0) (drop (k + 1) xs) ≡ single (get_or xs k 0)
alone_at_end xs k l m = few (drop (k + 1) xs) (long xs (k + 1) (omega arith))
  where
    few : (ys : List ℕ) → length ys < 2 → first_stretch (get_or xs k 0) ys ≡ single (get_or xs k 0)
    few [] h = refl
    few (y ∷ []) h = refl
    few (y ∷ z ∷ zs) h = absurd (omega arith)

    long : (zs : List ℕ) (n : ℕ) → length zs < n + 2 → length (drop n zs) < 2
    long zs zero h = h
    long [] (suc n) h = omega arith
    long (z ∷ zs) (suc n) h = long zs n (omega arith)

-- two at least follow
pub item_at : (xs : List ℕ) (k : ℕ) → k + 2 < length xs
    → first_stretch (get_or xs k 0) (drop (k + 1) xs)
    ≡ stretch_or_single (get_or xs k 0) (get_or xs (k + 1) 0 - get_or xs k 0)
    (row_after (get_or xs k 0) (get_or xs (k + 1) 0 - get_or xs k 0) (drop (k + 1) xs) + 1)
item_at xs k l =
    let s = get_or xs k 0 in
    let x = get_or xs (k + 1) 0 in
    let y = get_or xs (k + 1 + 1) 0 in
    let ys = drop (k + 1 + 1 + 1) xs in
    let e : drop (k + 1) xs ≡ x ∷ y ∷ ys = rest_of xs (k + 1) (omega arith) ∙ ap (λ t. x ∷ t) (rest_of xs (k + 1 + 1) (omega arith)) in
    ap (first_stretch s) e ∙ ap (λ t. stretch_or_single s (x - s) (row_after s (x - s) t + 1)) (sym e)

pub row_item : (s step count : ℕ) → 3 ≤ count → stretch_or_single s step count ≡ record { start = s; step = step; count = count }
row_item s step count h =
    let e : nat_le 3 count ≡ true = grind (arith, nat_tests, h) in
    ap (λ b. cond b (record { start = s; step = step; count = count }) (single s)) e

pub single_item : (s step count : ℕ) → count < 3 → stretch_or_single s step count ≡ single s
single_item s step count h =
    let e : nat_le 3 count ≡ false = grind (arith, nat_tests, h) in
    ap (λ b. cond b (record { start = s; step = step; count = count }) (single s)) e
