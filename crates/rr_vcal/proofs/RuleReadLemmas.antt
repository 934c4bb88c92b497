-- A written rule is read back (vCalendar 1.0, basic recurrence rule grammar).
use Rattle.std.proofs.Common.{◌≡◌, ℕ, ◌^◌, ◌<◌, ◌≤◌, ◌==◌, Bool, true, false, if◌then◌else◌, List, [], ◌∷◌, ◌++◌, length}
use Rattle.std.proofs.Common.{Option, Some, None, Result, Ok, ℤ, nat_abs, refl, sym, ap, ◌∙◌, append_assoc, append-nil, arith}
use Rattle.std.specs.Prelude.{nat_le}
use Rattle.std.specs.Fmt.{decimal}
use Rattle.std.specs.List.{AllByRecursion}
use Rattle.std.specs.Option.{is_some}
use Rattle.std.specs.Ordering.{int_eq, is_lt}
use Rattle.std.proofs.lemmas.Bool.Decides.{nat_tests, Decides-int_eq}
use Rattle.std.proofs.lemmas.List.Elements.{recursion_from_All}
use Rattle.rr_model.specs.Moment.Years.{IsInYears}
use Rattle.rr_model.specs.Rising.{Rises, with_value}
use Rattle.rr_model.specs.Rule.Validity.{HasCountInRange, EndsInYears, is_absent}
use Rattle.rr_model.specs.Text.RuleValues.{◌>>=◌}
use Rattle.rr_model.specs.Text.Steps.{in_turn}
use Rattle.rr_model.specs.Text.Written.{weekday_text, basic_text}
use Rattle.rr_model.specs.Vcal.Items.{item_cmp, item_lt, item_total}
use Rattle.rr_model.specs.Vcal.Rule.{first_items, parts_of_head, with_list_word, is_list_whole, with_word, with_piece, whole_parts, end_of_words, stated_parts}
use Rattle.rr_model.specs.Vcal.Rule.{stated_vrule}
use Rattle.rr_model.specs.Vcal.Validity.{IsItemOf, IsValidVRule}
use Rattle.rr_model.specs.Vcal.Written.{marked_text, month_day_text, vrule_text}
use Rattle.rr_model.specs.declared.item.Item.{Item}
use Rattle.rr_model.specs.declared.kind.Kind.{Kind}
use Rattle.rr_model.specs.declared.item.Item.TheVariants.{Every, Weekday, MonthDay, Place, Month, YearDay}
use Rattle.rr_model.specs.declared.refusal.Refusal.{Refusal}
use Rattle.rr_model.specs.declared.rule.End.{End}
use Rattle.rr_model.specs.declared.rule.End.TheVariants.{Never, Until, Count, Both}
use Rattle.rr_model.specs.declared.stamp.Stamp.{Stamp}
use Rattle.rr_model.specs.declared.vcal.FamilyKind.{FamilyKind}
use Rattle.rr_model.specs.declared.vcal.FamilyKind.TheVariants as family
use Rattle.rr_model.specs.declared.vcal.VRule.{VRule}
use Rattle.rr_model.specs.declared.vcal.VRuleParts.{VRuleParts}
use Rattle.rr_model.proofs.ItemLemmas.{item_same}
use Rattle.rr_model.proofs.RisingSetLemmas.{Rises-tail}
use Rattle.rr_model.proofs.RisingLemmas.{is_less}
use Rattle.rr_text.proofs.WrittenLemmas.{digits_value-decimal, is_number-decimal, basic-written}
use Rattle.rr_text.proofs.WrittenListLemmas.{IsTransitive, with_value-last, IsAbove, IsAbove-next}
use Rattle.rr_vcal.specs.Writing.{place_of_item}
use Rattle.rr_text.proofs.WrittenValueLemmas.{weekday-written, number_up_to-written}
use Rattle.rr_vcal.proofs.RuleTextLemmas.{place_words, item_words, list_words, end_words, words_of, head_text, head_text-some, head_text-is, rule-pieces}
use Rattle.rr_vcal.proofs.WordLemmas.{IsListWord, weekday_word, decimal_word, marked_text-word, month_day-word, marked_text-no_weekday, number-read}
use Rattle.rr_vcal.proofs.WordLemmas.{marked-read, month_day-read, basic_text-moment, basic_text-some, count-no_moment}

-- ---- what is read of a rule

-- the places of a group that has this one, or none
abbrev place_list : Option ℤ → List ℤ
place_list None = []
place_list (Some n) = n ∷ []

-- the parts with these items, the last of them at this place, and these ends
abbrev parts_with : FamilyKind → ℕ → List Item → Option ℤ → Option ℕ → Option Stamp → VRuleParts
parts_with f interval items place count until = record {
  family = f;
  interval = interval;
  items = items;
  places = place_list place;
  has_weekday = is_some place;
  count = count;
  until = until;
}

-- the same before an end
abbrev so_far : FamilyKind → ℕ → List Item → Option ℤ → VRuleParts
so_far f interval items place = parts_with f interval items place None None

-- the same within a group of places
abbrev within_group : FamilyKind → ℕ → List Item → List ℤ → Bool → VRuleParts
within_group f interval items places has_weekday = record {
  family = f;
  interval = interval;
  items = items;
  places = places;
  has_weekday = has_weekday;
  count = None;
  until = None;
}

-- a rule that lists items, if only a rule by places has a place
abbrev FitsPlace : FamilyKind → Option ℤ → Type 0
FitsPlace family.D place = ⊥
FitsPlace family.MP place = Unit {0}
FitsPlace f None = Unit {0}
FitsPlace f (Some n) = ⊥

fits-next : (f : FamilyKind) (place : Option ℤ) (item : Item) → FitsPlace f place → IsItemOf f item → FitsPlace f (place_of_item item)
fits-next family.D place item fits h = absurd fits
fits-next family.W place (Weekday k) fits h = tt
fits-next family.W place item fits h = absurd h
fits-next family.MD place (MonthDay n) fits h = tt
fits-next family.MD place item fits h = absurd h
fits-next family.MP place item fits h = tt
fits-next family.YM place (Month m) fits h = tt
fits-next family.YM place item fits h = absurd h
fits-next family.YD place (YearDay k) fits h = tt
fits-next family.YD place item fits h = absurd h

-- a list by places ends with a weekday
abbrev IsWhole : FamilyKind → Option ℤ → Type 0
IsWhole family.MP None = ⊥
IsWhole f place = Unit {0}

whole : (f : FamilyKind) (interval : ℕ) (items : List Item) (place : Option ℤ) (count : Option ℕ) (until : Option Stamp) → IsWhole f place
    → is_list_whole f (parts_with f interval items place count until) ≡ true
whole family.D interval items place count until h = refl
whole family.W interval items place count until h = refl
whole family.MD interval items place count until h = refl
whole family.MP interval items None count until h = absurd h
whole family.MP interval items (Some n) count until h = refl
whole family.YM interval items place count until h = refl
whole family.YD interval items place count until h = refl

-- the place of the last item
abbrev last_place : Option ℤ → List Item → Option ℤ
last_place place [] = place
last_place place (item ∷ items) = last_place (place_of_item item) items

whole-item : (f : FamilyKind) (item : Item) → IsItemOf f item → IsWhole f (place_of_item item)
whole-item family.D item h = tt
whole-item family.W item h = tt
whole-item family.MD item h = tt
whole-item family.MP (Place n k) h = tt
whole-item family.MP item h = absurd h
whole-item family.YM item h = tt
whole-item family.YD item h = tt

whole-items : (f : FamilyKind) (place : Option ℤ) (item : Item) (items : List Item) → AllByRecursion (IsItemOf f) (item ∷ items)
    → IsWhole f (last_place place (item ∷ items))
whole-items f place item [] h = whole-item f item h.0
whole-items f place item (next ∷ items) h = whole-items f (place_of_item item) next items h.1

-- ---- the end

-- the number of events and the end moment that the words of an end state
abbrev pub count_of : End → Option ℕ
count_of Never = Some 0
count_of (Count m) = Some m
count_of (Until kind at) = None
count_of (Both kind at m) = Some m

abbrev pub until_of : End → Option Stamp
until_of (Until kind at) = Some (record { kind = kind; at = at; utc = false })
until_of (Both kind at m) = Some (record { kind = kind; at = at; utc = false })
until_of end = None

end-back : (end : End) → HasCountInRange end → end_of_words (count_of end) (until_of end) ≡ end
end-back Never h = refl
end-back (Count m) h =
    let some : (m == 0) ≡ false = grind (arith, nat_tests, h.0) in
    rw some refl
end-back (Until kind at) h = refl
end-back (Both kind at m) h =
    let some : (m == 0) ≡ false = grind (arith, nat_tests, h.0) in
    rw some refl

-- ---- the items

item_lt-transitive : IsTransitive item_lt
item_lt-transitive a b c h k =
    let first = is_less (item_cmp a b) (item_same a b ∙ h) in
    let second = is_less (item_cmp b c) (item_same b c ∙ k) in
    sym (item_same a c) ∙ ap is_lt (item_total.trans a b c first second)

-- any values rise from none
pub above_none : {X : Type 0} (below : X → X → Bool) (transitive : IsTransitive below) (xs : List X) → IsAbove below transitive [] xs
above_none below transitive [] = tt
above_none below transitive (x ∷ xs) = refl

-- a daily rule has its one item
daily_items : (item : Item) (items : List Item) → AllByRecursion (IsItemOf family.D) (item ∷ items) → Rises item_lt (item ∷ items) → item ∷ items ≡ Every ∷ []
daily_items Every [] h rises = refl
daily_items Every (Every ∷ items) h rises =
    let no : false ≡ true = rises.0 in
    absurd (cc)
daily_items Every (next ∷ items) h rises = absurd h.1.0
daily_items item items h rises = absurd h.0

rule-whole : (rule : VRule) → IsValidVRule rule → IsWhole rule.family (last_place None rule.items)
rule-whole rule valid = by rule.items valid.some_item (recursion_from_All _ rule.items valid.items)
  where
    by : (items : List Item) → 1 ≤ length items → AllByRecursion (IsItemOf rule.family) items → IsWhole rule.family (last_place None items)
    by [] some h = absurd (omega arith)
    by (item ∷ items) some h = whole-items rule.family None item items h

-- ---- words are read

module _ (line : ℕ) where
  abbrev steps : Option VRuleParts → List (List ℕ) → Result (Option VRuleParts) Refusal
  steps parts words = in_turn (with_piece line) parts words

  steps-next : (parts more : VRuleParts) (w : List ℕ) (ws : List (List ℕ)) → with_piece line (Some parts) w ≡ Ok (Some more)
      → steps (Some parts) (w ∷ ws) ≡ steps (Some more) ws
  steps-next parts more w ws h = ap (λ (r : Result (Option VRuleParts) Refusal). r >>= λ next. in_turn (with_piece line) next ws) h

  some_piece : (parts : VRuleParts) (w : List ℕ) → is_absent w ≡ false
      → with_piece line (Some parts) w ≡ (with_word line parts w >>= λ more. Ok (Some more))
  some_piece parts [] h = absurd (cc)
  some_piece parts (b ∷ bs) h = refl

  -- a word of the list
  list_word : (f : FamilyKind) (interval : ℕ) (items : List Item) (places : List ℤ) (has_weekday : Bool) (more : VRuleParts) (w : List ℕ) → IsListWord w
      → with_list_word line (within_group f interval items places has_weekday) f w ≡ Ok more
      → with_piece line (Some (within_group f interval items places has_weekday)) w ≡ Ok (Some more)
  unfolding with_word
  list_word f interval items places has_weekday more w h read =
      some_piece (within_group f interval items places has_weekday) w h.some ∙ rw (h.no_moment, h.no_count, read) refl

  -- ---- items

  module _ (interval : ℕ) (done : List Item) where
    -- a weekday of a group with one place
    weekday_in_group : (n : ℤ) (k : ℕ) (has_weekday : Bool) → k ≤ 6 → with_value item_lt done (Place n k) ≡ done ++ Place n k ∷ []
        → with_piece line (Some (within_group family.MP interval done (n ∷ []) has_weekday)) (weekday_text k)
        ≡ Ok (Some (so_far family.MP interval (done ++ Place n k ∷ []) (Some n)))
    weekday_in_group n k has_weekday h put =
        list_word family.MP interval done (n ∷ []) has_weekday _ (weekday_text k) (weekday_word k h)
        (rw ((weekday-written k (omega (arith, h))).named, put) refl)

    -- a place, which begins a group
    place_begins : (place : Option ℤ) (n : ℤ) → 1 ≤ nat_abs n → nat_abs n ≤ 5
        → with_piece line (Some (so_far family.MP interval done place)) (marked_text n)
        ≡ Ok (Some (within_group family.MP interval done (n ∷ []) false))
    place_begins None n low high =
        list_word family.MP interval done [] false _ (marked_text n) (marked_text-word n (omega (arith, high)))
        (rw (marked_text-no_weekday n (omega (arith, high)), marked-read line 5 n low high (omega arith)) refl)
    place_begins (Some before) n low high =
        list_word family.MP interval done (before ∷ []) true _ (marked_text n) (marked_text-word n (omega (arith, high)))
        (rw (marked_text-no_weekday n (omega (arith, high)), marked-read line 5 n low high (omega arith)) refl)

    place_then_weekday : (place : Option ℤ) (n : ℤ) (k : ℕ) (ws : List (List ℕ)) → IsItemOf family.MP (Place n k)
        → with_value item_lt done (Place n k) ≡ done ++ Place n k ∷ []
        → steps (Some (so_far family.MP interval done place)) (marked_text n ∷ weekday_text k ∷ ws)
        ≡ steps (Some (so_far family.MP interval (done ++ Place n k ∷ []) (Some n))) ws
    place_then_weekday place n k ws h put =
        steps-next _ _ (marked_text n) (weekday_text k ∷ ws) (place_begins place n h.0 h.1)
        ∙ steps-next _ _ (weekday_text k) ws (weekday_in_group n k false h.2 put)

    place-read : (place : Option ℤ) (n : ℤ) (k : ℕ) (ws : List (List ℕ)) → IsItemOf family.MP (Place n k)
        → with_value item_lt done (Place n k) ≡ done ++ Place n k ∷ []
        → steps (Some (so_far family.MP interval done place)) (item_words place (Place n k) ++ ws)
        ≡ steps (Some (so_far family.MP interval (done ++ Place n k ∷ []) (Some n))) ws
    unfolding item_words place_words
    place-read None n k ws h put = place_then_weekday None n k ws h put
    place-read (Some before) n k ws h put = by (int_eq before n) refl
      where
        by : (t : Bool) → int_eq before n ≡ t
            → steps (Some (so_far family.MP interval done (Some before))) ((if t then [] else marked_text n ∷ []) ++ weekday_text k ∷ [] ++ ws)
            ≡ steps (Some (so_far family.MP interval (done ++ Place n k ∷ []) (Some n))) ws
        by true e =
            let same : before ≡ n = (Decides-int_eq before n).0 e in
            ap (λ (m : ℤ). steps (Some (so_far family.MP interval done (Some m))) (weekday_text k ∷ ws)) same
            ∙ steps-next _ _ (weekday_text k) ws (weekday_in_group n k true h.2 put)
        by false e = place_then_weekday (Some before) n k ws h put

  -- an item above those that are read
  item-read : (f : FamilyKind) (interval : ℕ) (done : List Item) (place : Option ℤ) (item : Item) (ws : List (List ℕ)) → FitsPlace f place → IsItemOf f item
      → with_value item_lt done item ≡ done ++ item ∷ []
      → steps (Some (so_far f interval done place)) (item_words place item ++ ws)
      ≡ steps (Some (so_far f interval (done ++ item ∷ []) (place_of_item item))) ws
  unfolding item_words
  item-read family.D interval done place item ws fits h put = absurd fits
  item-read family.W interval done None (Weekday k) ws fits h put =
      steps-next _ _ (weekday_text k) ws
      (list_word family.W interval done [] false _ (weekday_text k) (weekday_word k h) (rw ((weekday-written k (omega (arith, h))).named, put) refl))
  item-read family.W interval done (Some n) item ws fits h put = absurd fits
  item-read family.W interval done None item ws fits h put = absurd h
  item-read family.MD interval done None (MonthDay n) ws fits h put =
      steps-next _ _ (month_day_text n) ws
      (list_word family.MD interval done [] false _ (month_day_text n) (month_day-word n (omega (arith, h.1)))
      (rw (month_day-read line n h.0 h.1, put) refl))
  item-read family.MD interval done (Some n) item ws fits h put = absurd fits
  item-read family.MD interval done None item ws fits h put = absurd h
  item-read family.MP interval done place (Place n k) ws fits h put = place-read interval done place n k ws h put
  item-read family.MP interval done place item ws fits h put = absurd h
  item-read family.YM interval done None (Month m) ws fits h put =
      steps-next _ _ (decimal m) ws
      (list_word family.YM interval done [] false _ (decimal m) (decimal_word m (omega (arith, h.1)))
      (rw (number-read line 12 m h.0 h.1 (omega arith), put) refl))
  item-read family.YM interval done (Some n) item ws fits h put = absurd fits
  item-read family.YM interval done None item ws fits h put = absurd h
  item-read family.YD interval done None (YearDay k) ws fits h put =
      steps-next _ _ (decimal k) ws
      (list_word family.YD interval done [] false _ (decimal k) (decimal_word k (omega (arith, h.1)))
      (rw (number-read line 366 k h.0 h.1 (omega arith), put) refl))
  item-read family.YD interval done (Some n) item ws fits h put = absurd fits
  item-read family.YD interval done None item ws fits h put = absurd h

  -- items that rise from those that are read
  items-read : (f : FamilyKind) (interval : ℕ) (done : List Item) (place : Option ℤ) (items : List Item) (ws : List (List ℕ)) → FitsPlace f place
      → AllByRecursion (IsItemOf f) items → Rises item_lt items → IsAbove item_lt item_lt-transitive done items
      → steps (Some (so_far f interval done place)) (list_words place items ++ ws)
      ≡ steps (Some (so_far f interval (done ++ items) (last_place place items))) ws
  unfolding list_words
  items-read f interval done place [] ws fits h rises above =
      ap (λ (l : List Item). steps (Some (so_far f interval l place)) ws) (sym (append-nil done))
  items-read f interval done place (item ∷ items) ws fits h rises above =
      ap (steps (Some (so_far f interval done place))) (append_assoc (item_words place item) (list_words (place_of_item item) items) ws)
      ∙ item-read f interval done place item (list_words (place_of_item item) items ++ ws) fits h.0 (with_value-last item_lt done item above)
      ∙ items-read f interval (done ++ item ∷ []) (place_of_item item) items ws (fits-next f place item fits h.0) h.1 (Rises-tail item_lt item items rises)
      (IsAbove-next item_lt item_lt-transitive done item items above rises)
      ∙ ap (λ (l : List Item). steps (Some (so_far f interval l (last_place (place_of_item item) items))) ws) (append_assoc done (item ∷ []) items)

  -- ---- the end

  module _ (f : FamilyKind) (interval : ℕ) (items : List Item) (place : Option ℤ) (is_whole : IsWhole f place) where
    count-read : (until : Option Stamp) (m : ℕ) → m < 2 ^ 64
        → with_piece line (Some (parts_with f interval items place None until)) (35 ∷ decimal m) ≡ Ok (Some (parts_with f interval items place (Some m) until))
    unfolding with_word
    count-read until m small =
        let fits : nat_le m 18_446_744_073_709_551_615 ≡ true = grind (arith, nat_tests, small) in
        rw (count-no_moment (decimal m), whole f interval items place None until is_whole, is_number-decimal m small, digits_value-decimal m small, fits) refl

    moment-read : (count : Option ℕ) (kind : Kind) (at : ℤ) → IsInYears kind at
        → with_piece line (Some (parts_with f interval items place count None)) (basic_text kind at)
        ≡ Ok (Some (parts_with f interval items place count (Some (record { kind = kind; at = at; utc = false }))))
    unfolding with_word
    moment-read count kind at years =
        some_piece _ (basic_text kind at) (basic_text-some kind at years)
        ∙ rw (basic_text-moment kind at years, whole f interval items place count None is_whole, basic-written kind at years) refl

    end-read : (end : End) → HasCountInRange end → EndsInYears end
        → steps (Some (so_far f interval items place)) (end_words end) ≡ Ok (Some (parts_with f interval items place (count_of end) (until_of end)))
    unfolding end_words
    end-read Never fits years = steps-next _ _ (35 ∷ decimal 0) [] (count-read None 0 (omega arith))
    end-read (Count m) fits years = steps-next _ _ (35 ∷ decimal m) [] (count-read None m (omega (arith, fits.1)))
    end-read (Until kind at) fits years = steps-next _ _ (basic_text kind at) [] (moment-read None kind at years)
    end-read (Both kind at m) fits years =
        steps-next _ _ (35 ∷ decimal m) (basic_text kind at ∷ []) (count-read None m (omega (arith, fits.1)))
        ∙ steps-next _ _ (basic_text kind at) [] (moment-read (Some m) kind at years)

  -- ---- the head

  first_piece : (w : List ℕ) → is_absent w ≡ false → with_piece line None w ≡ (parts_of_head line w >>= λ parts. Ok (Some parts))
  first_piece [] h = absurd (cc)
  first_piece (b ∷ bs) h = refl

  head-parts : (f : FamilyKind) (n : ℕ) → 1 ≤ n → n ≤ 4_294_967_295 → parts_of_head line (head_text f n) ≡ Ok (so_far f n (first_items f) None)
  unfolding parts_of_head
  head-parts f n low high = rw (head_text-is f n, number_up_to-written line 4_294_967_295 n (omega arith) low high) refl

  head-read : (f : FamilyKind) (n : ℕ) → 1 ≤ n → n ≤ 4_294_967_295 → with_piece line None (head_text f n) ≡ Ok (Some (so_far f n (first_items f) None))
  head-read f n low high =
      first_piece (head_text f n) (head_text-some f n)
      ∙ ap (λ (r : Result VRuleParts Refusal). r >>= λ parts. Ok (Some parts)) (head-parts f n low high)

  -- ---- a rule

  -- all words after the head of a rule that is not daily
  listed-read : (f : FamilyKind) (n : ℕ) (items : List Item) (end : End) → first_items f ≡ [] → FitsPlace f None → IsWhole f (last_place None items)
      → AllByRecursion (IsItemOf f) items → Rises item_lt items → HasCountInRange end → EndsInYears end
      → steps (Some (so_far f n (first_items f) None)) (words_of items end)
      ≡ Ok (Some (parts_with f n items (last_place None items) (count_of end) (until_of end)))
  unfolding words_of
  listed-read f n items end first fits is_whole h rises count years =
      ap (λ (l : List Item). steps (Some (so_far f n l None)) (list_words None items ++ end_words end)) first
      ∙ items-read f n [] None items (end_words end) fits h rises (above_none item_lt item_lt-transitive items)
      ∙ end-read f n items (last_place None items) is_whole end count years

  daily-read : (n : ℕ) (items : List Item) (end : End) → items ≡ Every ∷ [] → HasCountInRange end → EndsInYears end
      → steps (Some (so_far family.D n (first_items family.D) None)) (words_of items end)
      ≡ Ok (Some (parts_with family.D n items (last_place None items) (count_of end) (until_of end)))
  unfolding words_of list_words item_words
  daily-read n items end every count years = rw every (end-read family.D n (Every ∷ []) None tt end count years)

  words-read : (f : FamilyKind) (n : ℕ) (item : Item) (items : List Item) (end : End) → AllByRecursion (IsItemOf f) (item ∷ items)
      → Rises item_lt (item ∷ items) → HasCountInRange end → EndsInYears end
      → steps (Some (so_far f n (first_items f) None)) (words_of (item ∷ items) end)
      ≡ Ok (Some (parts_with f n (item ∷ items) (last_place None (item ∷ items)) (count_of end) (until_of end)))
  words-read family.D n item items end h rises count years = daily-read n (item ∷ items) end (daily_items item items h rises) count years
  words-read family.W n item items end h rises count years =
      listed-read family.W n (item ∷ items) end refl tt (whole-items family.W None item items h) h rises count years
  words-read family.MD n item items end h rises count years =
      listed-read family.MD n (item ∷ items) end refl tt (whole-items family.MD None item items h) h rises count years
  words-read family.MP n item items end h rises count years =
      listed-read family.MP n (item ∷ items) end refl tt (whole-items family.MP None item items h) h rises count years
  words-read family.YM n item items end h rises count years =
      listed-read family.YM n (item ∷ items) end refl tt (whole-items family.YM None item items h) h rises count years
  words-read family.YD n item items end h rises count years =
      listed-read family.YD n (item ∷ items) end refl tt (whole-items family.YD None item items h) h rises count years

  -- the words of a rule, its head among them
  pieces-read : (rule : VRule) → IsValidVRule rule → Rises item_lt rule.items → EndsInYears rule.end
      → steps None (head_text rule.family rule.interval ∷ words_of rule.items rule.end)
      ≡ Ok (Some (parts_with rule.family rule.interval rule.items (last_place None rule.items) (count_of rule.end) (until_of rule.end)))
  pieces-read rule valid rises years =
      ap (λ (r : Result (Option VRuleParts) Refusal). r >>= λ next. in_turn (with_piece line) next (words_of rule.items rule.end))
      (head-read rule.family rule.interval valid.interval_low valid.interval_high)
      ∙ by rule.items valid.some_item (recursion_from_All _ rule.items valid.items) rises
    where
      by : (items : List Item) → 1 ≤ length items → AllByRecursion (IsItemOf rule.family) items → Rises item_lt items
          → steps (Some (so_far rule.family rule.interval (first_items rule.family) None)) (words_of items rule.end)
          ≡ Ok (Some (parts_with rule.family rule.interval items (last_place None items) (count_of rule.end) (until_of rule.end)))
      by [] some h r = absurd (omega arith)
      by (item ∷ items) some h r = words-read rule.family rule.interval item items rule.end h r valid.count years

  -- A written rule is read back, with its end moment.
  pub stated-written : (rule : VRule) → IsValidVRule rule → Rises item_lt rule.items → EndsInYears rule.end
      → stated_vrule line (vrule_text rule) ≡ Ok (record { rule = rule; until = until_of rule.end })
  unfolding stated_vrule
  stated-written rule valid rises years =
      let items = recursion_from_All (IsItemOf rule.family) rule.items valid.items in
      let is_whole = rule-whole rule valid in
      ap (λ (ws : List (List ℕ)). steps None ws >>= λ pieces. whole_parts line pieces >>= λ parts. Ok (stated_parts parts)) (rule-pieces rule valid years)
      ∙ ap (λ (r : Result (Option VRuleParts) Refusal). r >>= λ pieces. whole_parts line pieces >>= λ parts. Ok (stated_parts parts))
      (pieces-read rule valid rises years)
      ∙ rw (
        whole rule.family rule.interval rule.items (last_place None rule.items) (count_of rule.end) (until_of rule.end) is_whole,
        end-back rule.end valid.count,
      ) refl
