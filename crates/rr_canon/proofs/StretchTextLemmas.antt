-- Lines of version 2 tell time sets apart.
use Rattle.std.proofs.Common.{◌≡◌, ℕ, zero, suc, ◌+◌, ◌-◌, ◌<◌, ◌≤◌, ◌^◌, ◌==◌, true, false, cond, eqb-true, List, [], ◌∷◌, ◌++◌, length, drop}
use Rattle.std.proofs.Common.{append_assoc, inl, inr, refl, sym, ap, ◌∙◌, arith}
use Rattle.std.specs.Prelude.{codes, nat_lt, nat_le}
use Rattle.std.specs.Fmt.{decimal}
use Rattle.std.specs.List.{All}
use Rattle.std.proofs.lemmas.Bool.Decides.{nat_tests}
use Rattle.std.proofs.lemmas.Fmt.{decimal_by_steps, decimal_injective}
use Rattle.std.proofs.lemmas.List.{append-nil}
use Rattle.std.proofs.lemmas.List.Elements.{All-nil, All-cons, All-head, All-tail, All-append, All-from_recursion}
use Rattle.rr_model.specs.Rising.{Rises}
use Rattle.rr_model.specs.Rising.Sets.{IsSecondsOfDay}
use Rattle.rr_model.proofs.SecondsLemmas.{below_from_test}
use Rattle.rr_model.specs.Sets.Descriptor.{descriptor}
use Rattle.rr_model.specs.Sets.DescriptorText.{text_of}
use Rattle.rr_model.specs.Sets.Printable.{IsInLine, IsSetLine, TellsSetsApart}
use Rattle.rr_model.specs.Sets.Stretches.{Stretch, row_after, single, first_stretch, stretches_within, stretches, item_text, items_text, stretches_line}
use Rattle.rr_canon.proofs.SplittingLemmas.{Stops, rest_same, split_only, IsInField, decimal_in_field, field_in_line}
use Rattle.rr_canon.proofs.SecondsStretchLemmas.{stretches_only, length_drop_le}
use Rattle.rr_canon.proofs.PrintableLemmas.{tells_sets_apart}
use Rattle.rr_canon.specs.Items.{IsPrintedItem}

-- ---- the text of an item

abbrev pub IsDigitByte : ℕ → Type 0
IsDigitByte b = 48 ≤ b

decimal_digits : (n : ℕ) → n < 2 ^ 64 → All IsDigitByte (decimal n)
decimal_digits =
    decimal_by_steps (λ n ds. All IsDigitByte ds) (λ n h. All-cons IsDigitByte (48 + n) [] (omega arith) (All-nil IsDigitByte))
    (λ n ds h before. All-append IsDigitByte ds _ before (All-cons IsDigitByte _ [] (omega arith) (All-nil IsDigitByte)))

-- what stands after the start
after : Stretch → List ℕ
after x = cond (x.count == 1) [] ((47 ∷ decimal x.step) ++ (47 ∷ decimal x.count))

item_parts : (x : Stretch) → item_text x ≡ decimal x.start ++ after x
unfolding after
item_parts x =
    elim (x.count == 1) as (λ b. cond b (decimal x.start) (decimal x.start ++ (47 ∷ decimal x.step) ++ (47 ∷ decimal x.count))
    ≡ decimal x.start ++ cond b [] ((47 ∷ decimal x.step) ++ (47 ∷ decimal x.count))) [
      | true ↦ sym (append-nil (decimal x.start))
      | false ↦ append_assoc (decimal x.start) (47 ∷ decimal x.step) (47 ∷ decimal x.count)
    ]

after_stops : (x : Stretch) → Stops IsDigitByte (after x)
unfolding after
after_stops x =
    elim (x.count == 1) as (λ b. Stops IsDigitByte (cond b [] ((47 ∷ decimal x.step) ++ (47 ∷ decimal x.count)))) [
      | true ↦ tt
      | false ↦ λ h. omega arith
    ]

item_is : (x y : Stretch) → x.start ≡ y.start → x.step ≡ y.step → x.count ≡ y.count → x ≡ y
item_is x y a b c = λ i. record { start = a i; step = b i; count = c i }

-- a single second has step 0
step_of_single : (x : Stretch) → IsPrintedItem x → x.count ≡ 1 → x.step ≡ 0
step_of_single x h one = elim h.form [ inl f ↦ f.1 | inr f ↦ absurd (omega arith) ]

after_only : (x y : Stretch) → IsPrintedItem x → IsPrintedItem y → after x ≡ after y → (x.step ≡ y.step) × (x.count ≡ y.count)
unfolding after
after_only x y hx hy e =
    (elim (x.count == 1) as (λ b. (x.count == 1) ≡ b
    → cond b [] ((47 ∷ decimal x.step) ++ (47 ∷ decimal x.count)) ≡ cond (y.count == 1) [] ((47 ∷ decimal y.step) ++ (47 ∷ decimal y.count))
    → (x.step ≡ y.step) × (x.count ≡ y.count)) [
      | true ↦ λ f.
          (elim (y.count == 1) as (λ b. (y.count == 1) ≡ b → [] ≡ cond b [] ((47 ∷ decimal y.step) ++ (47 ∷ decimal y.count))
          → (x.step ≡ y.step) × (x.count ≡ y.count)) [
            | true ↦ λ g h.
                let one = eqb-true x.count 1 f in
                let other = eqb-true y.count 1 g in
                (step_of_single x hx one ∙ sym (step_of_single y hy other), one ∙ sym other)
            | false ↦ λ g h. absurd (omega (arith, ap length h))
          ] refl)
      | false ↦ λ f.
          (elim (y.count == 1) as (λ b. (y.count == 1) ≡ b
          → (47 ∷ decimal x.step) ++ (47 ∷ decimal x.count) ≡ cond b [] ((47 ∷ decimal y.step) ++ (47 ∷ decimal y.count))
          → (x.step ≡ y.step) × (x.count ≡ y.count)) [
            | true ↦ λ g h. absurd (omega (arith, ap length h))
            | false ↦ λ g h.
                let parts = split_only IsDigitByte (decimal x.step) (decimal y.step) (47 ∷ decimal x.count) (47 ∷ decimal y.count)
                (decimal_digits x.step hx.step) (decimal_digits y.step hy.step) (λ b. omega arith) (λ b. omega arith) (ap (drop 1) h) in
                (decimal_injective x.step y.step hx.step hy.step parts.0, decimal_injective x.count y.count hx.count hy.count (ap (drop 1) parts.1))
          ] refl)
    ] refl) e

item_only : (x y : Stretch) → IsPrintedItem x → IsPrintedItem y → item_text x ≡ item_text y → x ≡ y
item_only x y hx hy e =
    let parts = split_only IsDigitByte (decimal x.start) (decimal y.start) (after x) (after y) (decimal_digits x.start hx.start)
    (decimal_digits y.start hy.start) (after_stops x) (after_stops y) (sym (item_parts x) ∙ e ∙ item_parts y) in
    let more = after_only x y hx hy parts.1 in
    item_is x y (decimal_injective x.start y.start hx.start hy.start parts.0) more.0 more.1

item_in_field : (x : Stretch) → IsPrintedItem x → All IsInField (item_text x)
item_in_field x h =
    elim (x.count == 1) as (λ b. All IsInField (cond b (decimal x.start) (decimal x.start ++ (47 ∷ decimal x.step) ++ (47 ∷ decimal x.count)))) [
      | true ↦ decimal_in_field x.start h.start
      | false ↦
          All-append IsInField (decimal x.start ++ (47 ∷ decimal x.step)) (47 ∷ decimal x.count)
          (All-append IsInField (decimal x.start) (47 ∷ decimal x.step) (decimal_in_field x.start h.start)
          (All-cons IsInField 47 (decimal x.step) (omega arith) (decimal_in_field x.step h.step)))
          (All-cons IsInField 47 (decimal x.count) (omega arith) (decimal_in_field x.count h.count))
    ]

-- ---- the items of a line

items_stop : (xs : List Stretch) → Stops IsInField (items_text xs)
unfolding items_text
items_stop [] = tt
items_stop (x ∷ xs) = λ h. omega arith

items_only : (xs ys : List Stretch) → All IsPrintedItem xs → All IsPrintedItem ys → items_text xs ≡ items_text ys → xs ≡ ys
unfolding items_text
items_only [] [] hx hy e = refl
items_only [] (y ∷ ys) hx hy e = absurd (omega (arith, ap length e))
items_only (x ∷ xs) [] hx hy e = absurd (omega (arith, ap length e))
items_only (x ∷ xs) (y ∷ ys) hx hy e =
    let of_x = All-head IsPrintedItem x xs hx in
    let of_y = All-head IsPrintedItem y ys hy in
    let parts = split_only IsInField (item_text x) (item_text y) (items_text xs) (items_text ys) (item_in_field x of_x) (item_in_field y of_y)
    (items_stop xs) (items_stop ys) (rest_same 32 32 (item_text x ++ items_text xs) (item_text y ++ items_text ys) e) in
    let first : x ≡ y = item_only x y of_x of_y parts.0 in
    let rest : xs ≡ ys = items_only xs ys (All-tail IsPrintedItem x xs hx) (All-tail IsPrintedItem y ys hy) parts.1 in
    cc

items_in_line : (xs : List Stretch) → All IsPrintedItem xs → All IsInLine (items_text xs)
unfolding items_text
items_in_line [] h = All-nil IsInLine
items_in_line (x ∷ xs) h =
    All-cons IsInLine 32 (item_text x ++ items_text xs) (omega arith)
    (All-append IsInLine (item_text x) (items_text xs) (field_in_line (item_text x) (item_in_field x (All-head IsPrintedItem x xs h)))
    (items_in_line xs (All-tail IsPrintedItem x xs h)))

-- ---- the items of a time set

rising_room : (x : ℕ) (xs : List ℕ) → Rises nat_lt (x ∷ xs) → All (λ y. y < 86_400) (x ∷ xs) → x + length (x ∷ xs) ≤ 86_400
rising_room x [] r h = (let l = All-head (λ y. y < 86_400) x [] h in omega arith)
rising_room x (y ∷ ys) r h =
    let more = rising_room y ys r.1 (All-tail (λ y. y < 86_400) x (y ∷ ys) h) in
    let l = below_from_test x y r.0 in
    omega (arith, more, l)

few_seconds : (xs : List ℕ) → IsSecondsOfDay xs → length xs ≤ 86_400
few_seconds [] h = omega arith
few_seconds (x ∷ xs) h = (let room = rising_room x xs h.rises h.below_a_day in omega (arith, room))

row_few : (before step : ℕ) (xs : List ℕ) → row_after before step xs ≤ length xs
row_few before step [] = omega arith
row_few before step (x ∷ xs) =
    elim (x == before + step) as (λ b. cond b (row_after x step xs + 1) 0 ≤ length (x ∷ xs)) [
      | true ↦ (let l = row_few x step xs in omega (arith, l))
      | false ↦ omega arith
    ]

All-drop : {X : Type 0} (P : X → Type 0) (n : ℕ) (xs : List X) → All P xs → All P (drop n xs)
All-drop P zero xs h = h
All-drop P (suc n) [] h = All-nil P
All-drop P (suc n) (x ∷ xs) h = All-drop P n xs (All-tail P x xs h)

item_of_single : (s : ℕ) → s < 86_400 → IsPrintedItem (single s)
item_of_single s h = record { start = omega arith; step = omega arith; count = omega arith; form = inl (refl, refl) }

first_item : (s : ℕ) (xs : List ℕ) → All (λ x. x < 86_400) (s ∷ xs) → length xs ≤ 86_400 → IsPrintedItem (first_stretch s xs)
first_item s [] h l = item_of_single s (All-head (λ x. x < 86_400) s [] h)
first_item s (x ∷ []) h l = item_of_single s (All-head (λ x. x < 86_400) s (x ∷ []) h)
first_item s (x ∷ y ∷ ys) h l =
    let low = All-head (λ x. x < 86_400) s (x ∷ y ∷ ys) h in
    let next = All-head (λ x. x < 86_400) x (y ∷ ys) (All-tail (λ x. x < 86_400) s (x ∷ y ∷ ys) h) in
    let n = row_after s (x - s) (x ∷ y ∷ ys) in
    let few = row_few s (x - s) (x ∷ y ∷ ys) in
    elim (nat_le 3 (n + 1)) as (λ b. nat_le 3 (n + 1) ≡ b → IsPrintedItem (cond b (record { start = s; step = x - s; count = n + 1 }) (single s))) [
      | true ↦ λ e. record { start = omega arith; step = omega arith; count = omega (arith, few, l); form = inr (at_least (n + 1) e) }
      | false ↦ λ e. item_of_single s low
    ] refl
  where
    at_least : (m : ℕ) → nat_le 3 m ≡ true → 3 ≤ m
    at_least m e = grind (arith, nat_tests)

pub all_items : (steps : ℕ) (xs : List ℕ) → All (λ x. x < 86_400) xs → length xs ≤ 86_400 → All IsPrintedItem (stretches_within steps xs)
unfolding stretches_within
all_items zero xs h l = All-nil IsPrintedItem
all_items (suc steps) [] h l = All-nil IsPrintedItem
all_items (suc steps) (s ∷ xs) h l =
    let item = first_stretch s xs in
    let rest = drop (item.count - 1) xs in
    All-cons IsPrintedItem item (stretches_within steps rest) (first_item s xs h (omega (arith, l)))
    (all_items steps rest (All-drop (λ x. x < 86_400) (item.count - 1) xs (All-tail (λ x. x < 86_400) s xs h))
    (omega (arith, l, length_drop_le (item.count - 1) xs)))

pub items_of_set : (times : List ℕ) → IsSecondsOfDay times → All IsPrintedItem (stretches times)
items_of_set times h = all_items (length times) times h.below_a_day (few_seconds times h)

pub IsSetLine-stretches : IsSetLine stretches_line
IsSetLine-stretches = record {
  begins = λ times. (items_text (stretches times), refl);
  in_line = λ times h. All-cons IsInLine 116 (items_text (stretches times)) (omega arith) (items_in_line (stretches times) (items_of_set times h));
  only = λ xs ys hx hy e. stretches_only xs ys
      (items_only (stretches xs) (stretches ys) (items_of_set xs hx) (items_of_set ys hy)
      (rest_same 116 116 (items_text (stretches xs)) (items_text (stretches ys)) e));
}

title_in_line : All IsInLine (codes "rrcanon 2")
title_in_line = All-from_recursion IsInLine (codes "rrcanon 2") (
  omega arith,
  (omega arith, (omega arith, (omega arith, (omega arith, (omega arith, (omega arith, (omega arith, (omega arith, tt)))))))),
)

-- version 2 tells sets apart too
pub second_version_tells : TellsSetsApart (λ s. text_of (codes "rrcanon 2") stretches_line (descriptor s))
second_version_tells = tells_sets_apart (codes "rrcanon 2") stretches_line title_in_line IsSetLine-stretches
