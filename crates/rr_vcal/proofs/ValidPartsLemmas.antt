-- The words of a rule that are read leave valid parts.
use Rattle.std.proofs.Common.{◌≡◌, ℕ, ◌<◌, ◌≤◌, ◌&&◌, ◌||◌, Bool, true, false, if◌then◌else◌, List, [], ◌∷◌, length, Option, None, Some, Result, Ok, ℤ, pos}
use Rattle.std.proofs.Common.{neg_ℤ, nat_abs, refl, sym, subst, arith}
use Rattle.std.specs.Prelude.{All, nat_le, int_lt, ok_or, codes}
use Rattle.std.specs.List.{AllByRecursion}
use Rattle.std.specs.Option.{IfSome, is_some}
use Rattle.std.specs.Str.{bytes_eq}
use Rattle.std.proofs.lemmas.Bool.Decides.{nat_tests}
use Rattle.std.proofs.lemmas.Int.{ints}
use Rattle.std.proofs.lemmas.List.Elements.{recursion_from_All, All-nil, All-cons}
use Rattle.rr_model.specs.Rising.{with_value}
use Rattle.rr_model.specs.Rule.Validity.{is_absent}
use Rattle.rr_model.specs.Text.Digits.{digits_value}
use Rattle.rr_model.specs.Text.Moments.{basic}
use Rattle.rr_model.specs.Text.Rules.{text_after}
use Rattle.rr_model.specs.Text.RuleValues.{is_number, number_up_to, weekday_named}
use Rattle.rr_model.specs.Vcal.Items.{item_lt}
use Rattle.rr_model.specs.Vcal.Rule.{head_of, first_items, parts_of_head, is_short_number, place_of, short_number_up_to, front, ends_with, marked_place}
use Rattle.rr_model.specs.Vcal.Rule.{month_day_of, put_item, put_places, with_group_weekday, with_group_place, with_group_word, with_list_word}
use Rattle.rr_model.specs.Vcal.Rule.{is_list_whole, is_moment_word, with_end_moment, with_count, with_marked_word, with_word, with_piece, whole_parts}
use Rattle.rr_model.specs.Vcal.Validity.{IsItemOf}
use Rattle.rr_model.specs.declared.item.Item.{Item}
use Rattle.rr_model.specs.declared.item.Item.TheVariants.{Every, Weekday, MonthDay, Place, Month, YearDay}
use Rattle.rr_model.specs.declared.refusal.Refusal.{Refusal}
use Rattle.rr_model.specs.declared.refusal.Refusal.TheVariants.{BadMoment, BadRule, PartTwice, NumberRange}
use Rattle.rr_model.specs.declared.vcal.FamilyKind.{FamilyKind}
use Rattle.rr_model.specs.declared.vcal.FamilyKind.TheVariants as family
use Rattle.rr_model.specs.declared.vcal.VRuleParts.{VRuleParts}
use Rattle.rr_model.proofs.RisingLemmas.{All-with_value}
use Rattle.rr_text.proofs.StepLemmas.{and_then_ok, ok_or_ok, step_keeps, passed, not_refused}
use Rattle.rr_text.proofs.WordLemmas.{number_up_to-lies, weekday_named-below}
use Rattle.rr_text.proofs.InYearsLemmas.{basic-stamp}
use Rattle.rr_vcal.specs.Parts.{IsPlace, IsValidParts}

-- ---- the head

first_items-are : (f : FamilyKind) → All (IsItemOf f) (first_items f)
first_items-are family.D = All-cons (IsItemOf family.D) Every [] tt (All-nil _)
first_items-are family.W = All-nil _
first_items-are family.MD = All-nil _
first_items-are family.MP = All-nil _
first_items-are family.YM = All-nil _
first_items-are family.YD = All-nil _

-- the parts that a head states
abbrev parts_with : FamilyKind → ℕ → VRuleParts
parts_with f interval = record {
  family = f;
  interval = interval;
  items = first_items f;
  places = [];
  has_weekday = false;
  count = None;
  until = None;
}

parts_of_head-valid : (line : ℕ) (text : List ℕ) (parts : VRuleParts) → parts_of_head line text ≡ Ok parts → IsValidParts parts
unfolding parts_of_head
parts_of_head-valid line text parts h =
    let head = and_then_ok (ok_or (head_of text) (BadRule line)) _ parts h in
    let interval = and_then_ok (number_up_to line 4_294_967_295 head.0.rest) _ parts head.2 in
    let lies = number_up_to-lies line 4_294_967_295 head.0.rest interval.0 interval.1 in
    let same : parts_with head.0.family interval.0 ≡ parts = cc in
    subst IsValidParts same (record {
      interval_low = lies.0;
      interval_high = lies.1;
      items = first_items-are head.0.family;
      places = All-nil _;
      listed = λ e. absurd (cc);
      count = tt;
      until = tt;
    })

-- ---- numbers

short_number_up_to-lies : (line most : ℕ) (text : List ℕ) (n : ℕ) → short_number_up_to line most text ≡ Ok n → (1 ≤ n) × (n ≤ most)
short_number_up_to-lies line most text n h =
    let form = passed (is_short_number text) _ (BadRule line) n h in
    let range = passed (nat_le 1 (digits_value text) && nat_le (digits_value text) most) (Ok (digits_value text)) (NumberRange line) n form.1 in
    let same : digits_value text ≡ n = cc in
    (grind (arith, nat_tests, range.0, same), grind (arith, nat_tests, range.0, same))

sized : (b : Bool) (n : ℕ) → nat_abs (if b then neg_ℤ (pos n) else pos n) ≡ n
sized true n = omega (arith, ints)
sized false n = refl

-- a place counts from 1 up to the most
abbrev CountsTo : ℕ → ℤ → Type 0
CountsTo most n = (1 ≤ nat_abs n) × (nat_abs n ≤ most)

place_of-counts : (line most : ℕ) (from_back : Bool) (text : List ℕ) (n : ℤ) → place_of line most from_back text ≡ Ok n → CountsTo most n
place_of-counts line most from_back text n h =
    let form = passed (is_short_number text) _ (BadRule line) n h in
    let value = digits_value text in
    let range = passed (nat_le 1 value && nat_le value most) (Ok (if from_back then neg_ℤ (pos value) else pos value)) (NumberRange line) n form.1 in
    let same : (if from_back then neg_ℤ (pos value) else pos value) ≡ n = cc in
    let low : 1 ≤ value = grind (arith, nat_tests, range.0) in
    let high : value ≤ most = grind (arith, nat_tests, range.0) in
    subst (CountsTo most) same (omega (arith, sized from_back value, low), omega (arith, sized from_back value, high))

-- what both branches keep
either : {A : Type 0} (P : A → Type 0) (b : Bool) (m n : Result A Refusal) (y : A) → (m ≡ Ok y → P y) → (n ≡ Ok y → P y) → (if b then m else n) ≡ Ok y → P y
either P true m n y f g h = f h
either P false m n y f g h = g h

marked_place-counts : (line most : ℕ) (text : List ℕ) (n : ℤ) → marked_place line most text ≡ Ok n → CountsTo most n
marked_place-counts line most text n =
    either (CountsTo most) (ends_with 43 text) _ _ n (place_of-counts line most false (front text) n)
    (either (CountsTo most) (ends_with 45 text) _ _ n (place_of-counts line most true (front text) n) (λ e. absurd (cc)))

last-counts : (n : ℤ) → neg_ℤ (pos 1) ≡ n → CountsTo 31 n
last-counts n same = subst (CountsTo 31) same (omega (arith, ints), omega (arith, ints))

month_day_of-counts : (line : ℕ) (text : List ℕ) (n : ℤ) → month_day_of line text ≡ Ok n → CountsTo 31 n
month_day_of-counts line text n =
    either (CountsTo 31) (bytes_eq text (codes "LD")) _ _ n (λ e. last-counts n (cc))
    (either (CountsTo 31) (ends_with 43 text || ends_with 45 text) _ _ n (marked_place-counts line 31 text n) (place_of-counts line 31 false text n))

-- ---- items

some-with_value : {X : Type 0} (below : X → X → Bool) (xs : List X) (x : X) → 1 ≤ length (with_value below xs x)
some-with_value below [] x = omega arith
some-with_value below (y ∷ ys) x = by (below y x) (below x y)
  where
    by : (b c : Bool) → 1 ≤ length (if b then y ∷ with_value below ys x else (if c then x ∷ y ∷ ys else y ∷ ys))
    by true c = omega arith
    by false true = omega arith
    by false false = omega arith

put_item-valid : (parts : VRuleParts) (item : Item) → IsValidParts parts → IsItemOf parts.family item → IsValidParts (put_item parts item)
put_item-valid parts item v i = record {
  interval_low = v.interval_low;
  interval_high = v.interval_high;
  items = All-with_value (IsItemOf parts.family) item_lt parts.items item v.items i;
  places = v.places;
  listed = λ e. some-with_value item_lt parts.items item;
  count = v.count;
  until = v.until;
}

put_places-are : (items : List Item) (weekday : ℕ) (places : List ℤ) → weekday ≤ 6 → All (IsItemOf family.MP) items → AllByRecursion IsPlace places
    → All (IsItemOf family.MP) (put_places items weekday places)
put_places-are items weekday [] w h p = h
put_places-are items weekday (place ∷ places) w h p =
    put_places-are (with_value item_lt items (Place place weekday)) weekday places w
    (All-with_value (IsItemOf family.MP) item_lt items (Place place weekday) h (p.0.0, p.0.1, w)) p.1

put_places-some : (items : List Item) (weekday : ℕ) (places : List ℤ) → 1 ≤ length items → 1 ≤ length (put_places items weekday places)
put_places-some items weekday [] s = s
put_places-some items weekday (place ∷ places) s =
    put_places-some (with_value item_lt items (Place place weekday)) weekday places (some-with_value item_lt items (Place place weekday))

put_places-more : (items : List Item) (weekday : ℕ) (places : List ℤ) → is_absent places ≡ false → 1 ≤ length (put_places items weekday places)
put_places-more items weekday [] some = absurd (cc)
put_places-more items weekday (place ∷ places) some =
    put_places-some (with_value item_lt items (Place place weekday)) weekday places (some-with_value item_lt items (Place place weekday))

group_weekday-valid : (line : ℕ) (parts : VRuleParts) (weekday : ℕ) (more : VRuleParts) → parts.family ≡ family.MP → weekday < 7 → IsValidParts parts
    → with_group_weekday line parts weekday ≡ Ok more → IsValidParts more
group_weekday-valid line parts weekday more f w v h =
    let some = not_refused (is_absent parts.places) (BadRule line) _ more h in
    let same : record parts { items = put_places parts.items weekday parts.places; has_weekday = true } ≡ more = cc in
    let low : weekday ≤ 6 = omega (arith, w) in
    let items = put_places-are parts.items weekday parts.places low (subst (λ (g : FamilyKind). All (IsItemOf g) parts.items) f v.items)
    (recursion_from_All IsPlace parts.places v.places) in
    subst IsValidParts same (record {
      interval_low = v.interval_low;
      interval_high = v.interval_high;
      items = subst (λ (g : FamilyKind). All (IsItemOf g) (put_places parts.items weekday parts.places)) (sym f) items;
      places = v.places;
      listed = λ e. put_places-more parts.items weekday parts.places some.0;
      count = v.count;
      until = v.until;
    })

group_places : (b : Bool) (places : List ℤ) → All IsPlace places → All IsPlace (if b then [] else places)
group_places true places h = All-nil _
group_places false places h = h

group_place-valid : (parts : VRuleParts) (place : ℤ) → IsValidParts parts → IsPlace place → IsValidParts (with_group_place parts place)
group_place-valid parts place v p = record {
  interval_low = v.interval_low;
  interval_high = v.interval_high;
  items = v.items;
  places = All-with_value IsPlace int_lt (if parts.has_weekday then [] else parts.places) place (group_places parts.has_weekday parts.places v.places) p;
  listed = λ e. absurd (cc);
  count = v.count;
  until = v.until;
}

group_word-valid : (line : ℕ) (parts : VRuleParts) (weekday : Option ℕ) (text : List ℕ) (more : VRuleParts) → parts.family ≡ family.MP
    → ((d : ℕ) → weekday ≡ Some d → d < 7) → IsValidParts parts → with_group_word line parts weekday text ≡ Ok more → IsValidParts more
group_word-valid line parts (Some weekday) text more f w v h = group_weekday-valid line parts weekday more f (w weekday refl) v h
group_word-valid line parts None text more f w v h =
    step_keeps IsValidParts (marked_place line 5 text) (λ place. with_group_place parts place) more
    (λ place e. group_place-valid parts place v (marked_place-counts line 5 text place e)) h

list_word-valid : (line : ℕ) (parts : VRuleParts) (f : FamilyKind) (text : List ℕ) (more : VRuleParts) → parts.family ≡ f → IsValidParts parts
    → with_list_word line parts f text ≡ Ok more → IsValidParts more
list_word-valid line parts family.D text more f v h = absurd (cc)
list_word-valid line parts family.W text more f v h =
    step_keeps IsValidParts (ok_or (weekday_named text) (BadRule line)) (λ d. put_item parts (Weekday d)) more
    (λ d e. put_item-valid parts (Weekday d) v (subst (λ (g : FamilyKind). IsItemOf g (Weekday d)) (sym f)
    (omega (arith, weekday_named-below text d (ok_or_ok (weekday_named text) (BadRule line) d e))))) h
list_word-valid line parts family.MD text more f v h =
    step_keeps IsValidParts (month_day_of line text) (λ n. put_item parts (MonthDay n)) more
    (λ n e. put_item-valid parts (MonthDay n) v (subst (λ (g : FamilyKind). IsItemOf g (MonthDay n)) (sym f) (month_day_of-counts line text n e))) h
list_word-valid line parts family.MP text more f v h = group_word-valid line parts (weekday_named text) text more f (λ d e. weekday_named-below text d e) v h
list_word-valid line parts family.YM text more f v h =
    step_keeps IsValidParts (short_number_up_to line 12 text) (λ m. put_item parts (Month m)) more
    (λ m e. put_item-valid parts (Month m) v (subst (λ (g : FamilyKind). IsItemOf g (Month m)) (sym f) (short_number_up_to-lies line 12 text m e))) h
list_word-valid line parts family.YD text more f v h =
    step_keeps IsValidParts (short_number_up_to line 366 text) (λ k. put_item parts (YearDay k)) more
    (λ k e. put_item-valid parts (YearDay k) v (subst (λ (g : FamilyKind). IsItemOf g (YearDay k)) (sym f) (short_number_up_to-lies line 366 text k e))) h

-- ---- ends

end_moment-valid : (line : ℕ) (parts : VRuleParts) (text : List ℕ) (more : VRuleParts) → IsValidParts parts → with_end_moment line parts text ≡ Ok more
    → IsValidParts more
end_moment-valid line parts text more v h =
    let value = and_then_ok (ok_or (basic text) (BadMoment line)) _ more h in
    let once = not_refused (is_some parts.until) (PartTwice line) (Ok (record parts { until = Some value.0 })) more value.2 in
    let same : record parts { until = Some value.0 } ≡ more = cc in
    subst IsValidParts same (record {
      interval_low = v.interval_low;
      interval_high = v.interval_high;
      items = v.items;
      places = v.places;
      listed = v.listed;
      count = v.count;
      until = basic-stamp text value.0 (ok_or_ok (basic text) (BadMoment line) value.0 value.1);
    })

count-valid : (line : ℕ) (parts : VRuleParts) (text : List ℕ) (more : VRuleParts) → IsValidParts parts → with_count line parts text ≡ Ok more
    → IsValidParts more
count-valid line parts text more v h =
    let form = passed (is_number text) _ (BadRule line) more h in
    let once = not_refused (is_some parts.count) (PartTwice line) _ more form.1 in
    let range = passed (nat_le (digits_value text) 18_446_744_073_709_551_615) (Ok (record parts { count = Some (digits_value text) }))
    (NumberRange line) more once.1 in
    let same : record parts { count = Some (digits_value text) } ≡ more = cc in
    subst IsValidParts same (record {
      interval_low = v.interval_low;
      interval_high = v.interval_high;
      items = v.items;
      places = v.places;
      listed = v.listed;
      count = grind (arith, nat_tests, range.0);
      until = v.until;
    })

-- ---- words

marked_word-valid : (line : ℕ) (parts : VRuleParts) (number : Option (List ℕ)) (text : List ℕ) (more : VRuleParts) → IsValidParts parts
    → with_marked_word line parts number text ≡ Ok more → IsValidParts more
marked_word-valid line parts (Some number) text more v h =
    count-valid line parts number more v (passed (is_list_whole parts.family parts) (with_count line parts number) (BadRule line) more h).1
marked_word-valid line parts None text more v h =
    list_word-valid line parts parts.family text more refl v
    (not_refused (is_some parts.count || is_some parts.until) (BadRule line) (with_list_word line parts parts.family text) more h).1

word-valid : (line : ℕ) (parts : VRuleParts) (text : List ℕ) (more : VRuleParts) → IsValidParts parts → with_word line parts text ≡ Ok more → IsValidParts more
unfolding with_word
word-valid line parts text more v =
    either IsValidParts (is_moment_word text) _ _ more
    (λ e. end_moment-valid line parts text more v (passed (is_list_whole parts.family parts) (with_end_moment line parts text) (BadRule line) more e).1)
    (marked_word-valid line parts (text_after (codes "#") text) text more v)

pub piece-valid : (line : ℕ) (parts : Option VRuleParts) (text : List ℕ) (more : Option VRuleParts) → IfSome parts IsValidParts
    → with_piece line parts text ≡ Ok more → IfSome more IsValidParts
piece-valid line parts [] more v h =
    let same : parts ≡ more = cc in
    subst (λ (p : Option VRuleParts). IfSome p IsValidParts) same v
piece-valid line None (b ∷ bs) more v h =
    step_keeps (λ (p : Option VRuleParts). IfSome p IsValidParts) (parts_of_head line (b ∷ bs)) Some more
    (λ parts e. parts_of_head-valid line (b ∷ bs) parts e) h
piece-valid line (Some parts) (b ∷ bs) more v h =
    step_keeps (λ (p : Option VRuleParts). IfSome p IsValidParts) (with_word line parts (b ∷ bs)) Some more
    (λ next e. word-valid line parts (b ∷ bs) next v e) h

pub finished-valid : (line : ℕ) (parts : Option VRuleParts) (more : VRuleParts) → IfSome parts IsValidParts → whole_parts line parts ≡ Ok more
    → IsValidParts more × (is_list_whole more.family more ≡ true)
finished-valid line None more v h = absurd (cc)
finished-valid line (Some parts) more v h =
    let whole = passed (is_list_whole parts.family parts) (Ok parts) (BadRule line) more h in
    let same : parts ≡ more = cc in
    subst (λ (p : VRuleParts). IsValidParts p × (is_list_whole p.family p ≡ true)) same (v, whole.0)
