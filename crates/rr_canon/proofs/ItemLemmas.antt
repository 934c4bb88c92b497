-- The items of a time set, one after another, and the line that they make.
use Rattle.std.proofs.Common.{◌≡◌, ℕ, zero, suc, ◌+◌, ◌-◌, ◌<◌, ◌≤◌, List, [], ◌∷◌, ◌++◌, length, get_or, drop, append_assoc, refl, sym, ap, ◌∙◌, arith}
use Rattle.std.proofs.lemmas.List.{append-nil}
use Rattle.rr_model.specs.Sets.Stretches.{Stretch, first_stretch, stretches_within, stretches, items_text, item_text, stretches_line}
use Rattle.rr_model.specs.Sets.DescriptorText.{text_of_lines}
use Rattle.rr_times.proofs.ItemLemmas.{rest_of, nothing_left}
use Rattle.rr_canon.proofs.SecondsStretchLemmas.{length_drop_le}

-- ---- items one after another

-- more steps than there are seconds change nothing
enough : (n m : ℕ) (xs : List ℕ) → length xs ≤ n → length xs ≤ m → stretches_within n xs ≡ stretches_within m xs
unfolding stretches_within
enough zero zero xs l h = refl
enough zero (suc m) [] l h = refl
enough zero (suc m) (x ∷ xs) l h = absurd (omega arith)
enough (suc n) zero [] l h = refl
enough (suc n) zero (x ∷ xs) l h = absurd (omega arith)
enough (suc n) (suc m) [] l h = refl
enough (suc n) (suc m) (x ∷ xs) l h =
    let item = first_stretch x xs in
    let rest = drop (item.count - 1) xs in
    let few = length_drop_le (item.count - 1) xs in
    ap (λ t. item ∷ t) (enough n m rest (omega (arith, few, l)) (omega (arith, few, h)))

pub items_from : (x : ℕ) (xs : List ℕ) → stretches (x ∷ xs) ≡ first_stretch x xs ∷ stretches (drop ((first_stretch x xs).count - 1) xs)
unfolding stretches_within
items_from x xs =
    let item = first_stretch x xs in
    let rest = drop (item.count - 1) xs in
    ap (λ t. item ∷ t) (enough (length xs) (length rest) rest (length_drop_le (item.count - 1) xs) (omega arith))

drop_drop : (n m : ℕ) (xs : List ℕ) → drop n (drop m xs) ≡ drop (m + n) xs
drop_drop n zero xs = let e : 0 + n ≡ n = omega arith in ap (λ k. drop k xs) (sym e)
drop_drop zero (suc m) [] = sym (nothing_left [] (suc m + 0) (omega arith))
drop_drop (suc n) (suc m) [] = sym (nothing_left [] (suc m + suc n) (omega arith))
drop_drop n (suc m) (x ∷ xs) = let e : suc m + n ≡ suc (m + n) = omega arith in drop_drop n m xs ∙ ap (λ k. drop k (x ∷ xs)) (sym e)

-- the items from a place on are the one there and those from its end on
pub items_at : (xs : List ℕ) (k : ℕ) (item : Stretch) → k < length xs → item ≡ first_stretch (get_or xs k 0) (drop (k + 1) xs) → 1 ≤ item.count
    → items_text (stretches (drop k xs)) ≡ (32 ∷ item_text item) ++ items_text (stretches (drop (k + item.count) xs))
unfolding items_text
items_at xs k item l e some =
    let s = get_or xs k 0 in
    let past : k + 1 + (item.count - 1) ≡ k + item.count = omega arith in
    ap (λ t. items_text (stretches t)) (rest_of xs k l) ∙ ap items_text (items_from s (drop (k + 1) xs))
    ∙ ap (λ (i : Stretch). (32 ∷ item_text i) ++ items_text (stretches (drop (i.count - 1) (drop (k + 1) xs)))) (sym e)
    ∙ ap (λ t. (32 ∷ item_text item) ++ items_text (stretches t)) (drop_drop (item.count - 1) (k + 1) xs ∙ ap (λ n. drop n xs) past)

-- ---- a line of items

pub one_more_item : (xs old out out' : List ℕ) (k : ℕ) (item : Stretch) → k < length xs → item ≡ first_stretch (get_or xs k 0) (drop (k + 1) xs)
    → 1 ≤ item.count → out ++ items_text (stretches (drop k xs)) ≡ old ++ (116 ∷ items_text (stretches xs)) → out' ≡ out ++ (32 ∷ item_text item)
    → out' ++ items_text (stretches (drop (k + item.count) xs)) ≡ old ++ (116 ∷ items_text (stretches xs))
one_more_item xs old out out' k item l e some before printed =
    let rest = items_text (stretches (drop (k + item.count) xs)) in
    ap (λ t. t ++ rest) printed ∙ append_assoc out (32 ∷ item_text item) rest ∙ ap (λ t. out ++ t) (sym (items_at xs k item l e some)) ∙ before

pub items_ended : (xs old out out' : List ℕ) (k : ℕ) → length xs ≤ k → out ++ items_text (stretches (drop k xs)) ≡ old ++ (116 ∷ items_text (stretches xs))
    → out' ≡ out ++ 10 ∷ [] → out' ≡ old ++ text_of_lines (stretches_line xs ∷ [])
unfolding text_of_lines items_text stretches_within
items_ended xs old out out' k l before e =
    let none : out ≡ old ++ (116 ∷ items_text (stretches xs)) =
    sym (append-nil out) ∙ ap (λ t. out ++ items_text (stretches t)) (sym (nothing_left xs k l)) ∙ before in
    e ∙ ap (λ t. t ++ 10 ∷ []) none ∙ append_assoc old (116 ∷ items_text (stretches xs)) (10 ∷ [])
