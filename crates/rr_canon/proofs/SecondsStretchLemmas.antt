-- Version 2 tells time sets apart: the items of a list give it back, and items are told apart by their texts.
use Rattle.std.proofs.Common.{◌≡◌, ℕ, zero, suc, ◌+◌, ◌-◌, ◌≤◌, ◌==◌, true, false, cond, eqb-true, List, [], ◌∷◌, ◌++◌, length, drop, take, refl, sym, ap}
use Rattle.std.proofs.Common.{◌∙◌, arith}
use Rattle.std.specs.Prelude.{codes, nat_le}
use Rattle.std.specs.Fmt.{digits}
use Rattle.std.proofs.lemmas.List.{take-append-drop}
use Rattle.rr_model.specs.Sets.Stretches.{row_after, single, first_stretch, stretches_within, stretches, seconds_from, seconds_of, items_text, stretches_line}

-- worked lines
partly : stretches_line (0 ∷ 10 ∷ 11 ∷ 12 ∷ []) ≡ codes "t 0 10/1/3"
unfolding stretches_within items_text digits
partly = refl

pair : stretches_line (32_400 ∷ 61_200 ∷ []) ≡ codes "t 32400 61200"
unfolding stretches_within items_text digits
pair = refl

every_seventh_hour : stretches_line (0 ∷ 25_200 ∷ 50_400 ∷ 75_600 ∷ []) ≡ codes "t 0/25200/4"
unfolding stretches_within items_text digits
every_seventh_hour = refl

-- ---- items give the list back

-- the seconds of a row are those that were counted
row_is : (before step : ℕ) (xs : List ℕ) → seconds_from (before + step) step (row_after before step xs) ≡ take (row_after before step xs) xs
row_is before step [] = refl
row_is before step (x ∷ xs) =
    elim (x == before + step) as (λ b. (x == before + step) ≡ b
    → seconds_from (before + step) step (cond b (row_after x step xs + 1) 0) ≡ take (cond b (row_after x step xs + 1) 0) (x ∷ xs)) [
      | true ↦ λ e.
          let is : x ≡ before + step = eqb-true x (before + step) e in
          let more : row_after x step xs + 1 ≡ suc (row_after x step xs) = omega arith in
          let rest = row_is x step xs in
          ap (λ n. seconds_from (before + step) step n) more
          ∙ ap (λ z. z ∷ seconds_from (z + step) step (row_after x step xs)) (sym is)
          ∙ ap (λ l. x ∷ l) rest
          ∙ ap (λ n. take n (x ∷ xs)) (sym more)
      | false ↦ λ e. refl
    ] refl

single_given : (s : ℕ) (xs : List ℕ) → seconds_from s 0 1 ++ drop (1 - 1) xs ≡ s ∷ xs
single_given s xs = refl

-- the first item gives as many seconds as it takes
first_given : (s : ℕ) (xs : List ℕ)
    → seconds_from (first_stretch s xs).start (first_stretch s xs).step (first_stretch s xs).count ++ drop ((first_stretch s xs).count - 1) xs ≡ s ∷ xs
first_given s [] = refl
first_given s (x ∷ []) = refl
first_given s (x ∷ y ∷ ys) =
    let step = x - s in
    let n = row_after s step (x ∷ y ∷ ys) in
    elim (nat_le 3 (n + 1)) as
    (λ b. seconds_from (cond b (record { start = s; step = step; count = n + 1 }) (single s)).start
    (cond b (record { start = s; step = step; count = n + 1 }) (single s)).step
    (cond b (record { start = s; step = step; count = n + 1 }) (single s)).count
    ++ drop ((cond b (record { start = s; step = step; count = n + 1 }) (single s)).count - 1) (x ∷ y ∷ ys) ≡ s ∷ x ∷ y ∷ ys) [
      | true ↦
          let more : n + 1 ≡ suc n = omega arith in
          let back : n + 1 - 1 ≡ n = omega arith in
          ap (λ m. seconds_from s step m ++ drop (n + 1 - 1) (x ∷ y ∷ ys)) more
          ∙ ap (λ m. s ∷ (seconds_from (s + step) step n ++ drop m (x ∷ y ∷ ys))) back
          ∙ ap (λ l. s ∷ (l ++ drop n (x ∷ y ∷ ys))) (row_is s step (x ∷ y ∷ ys))
          ∙ ap (λ l. s ∷ l) (take-append-drop n (x ∷ y ∷ ys))
      | false ↦ refl
    ]

pub length_drop_le : {X : Type 0} (n : ℕ) (xs : List X) → length (drop n xs) ≤ length xs
length_drop_le zero xs = omega arith
length_drop_le (suc n) [] = omega arith
length_drop_le (suc n) (x ∷ xs) = (let l = length_drop_le n xs in omega (arith, l))

pub stretches_given : (steps : ℕ) (xs : List ℕ) → length xs ≤ steps → seconds_of (stretches_within steps xs) ≡ xs
unfolding stretches_within
stretches_given zero [] l = refl
stretches_given zero (s ∷ xs) l = absurd (omega arith)
stretches_given (suc steps) [] l = refl
stretches_given (suc steps) (s ∷ xs) l =
    let item = first_stretch s xs in
    let rest = stretches_given steps (drop (item.count - 1) xs) (omega (arith, l, length_drop_le (item.count - 1) xs)) in
    ap (λ t. seconds_from item.start item.step item.count ++ t) rest ∙ first_given s xs

-- so lists with the same items are one
pub stretches_only : (xs ys : List ℕ) → stretches xs ≡ stretches ys → xs ≡ ys
stretches_only xs ys e = sym (stretches_given (length xs) xs (omega arith)) ∙ ap seconds_of e ∙ stretches_given (length ys) ys (omega arith)
