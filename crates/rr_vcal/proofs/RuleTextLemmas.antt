-- The text of a written rule, and its words (vCalendar 1.0, basic recurrence rule grammar).
use Rattle.std.proofs.Common.{◌≡◌, ℕ, ◌^◌, ◌<◌, Bool, true, false, if◌then◌else◌, List, [], ◌∷◌, ◌++◌, reverse}
use Rattle.std.proofs.Common.{Option, Some, None, ℤ, nat_abs, refl, sym, ap, ◌∙◌, append_assoc, append-nil, arith}
use Rattle.std.specs.Prelude.{codes}
use Rattle.std.specs.Fmt.{decimal}
use Rattle.std.specs.List.{list_all, AllByRecursion, slice_split}
use Rattle.std.specs.Ordering.{int_eq}
use Rattle.std.proofs.lemmas.Fmt.{decimal_digit}
use Rattle.std.proofs.lemmas.List.Elements.{recursion_from_All}
use Rattle.std.proofs.lemmas.List.Splits.{slice_split_none, slice_split_at}
use Rattle.rr_model.specs.Moment.Years.{IsInYears}
use Rattle.rr_model.specs.Rule.Validity.{HasCountInRange, EndsInYears, is_absent}
use Rattle.rr_model.specs.Text.Digits.{is_digit}
use Rattle.rr_model.specs.Text.Lines.{begins_blank}
use Rattle.rr_model.specs.Text.Rules.{is_blank, trim_start, trim_end, line_value}
use Rattle.rr_model.specs.Text.Written.{weekday_text, basic_text}
use Rattle.rr_model.specs.Vcal.Rule.{head_of}
use Rattle.rr_model.specs.Vcal.Validity.{IsItemOf, IsValidVRule}
use Rattle.rr_model.specs.Vcal.Written.{family_text, marked_text, month_day_text, place_text, items_text, vcal_end_text, vrule_text}
use Rattle.rr_model.specs.declared.item.Item.{Item}
use Rattle.rr_model.specs.declared.kind.Kind.{Kind}
use Rattle.rr_model.specs.declared.item.Item.TheVariants.{Every, Weekday, MonthDay, Place, Month, YearDay}
use Rattle.rr_model.specs.declared.rule.End.{End}
use Rattle.rr_model.specs.declared.rule.End.TheVariants.{Never, Until, Count, Both}
use Rattle.rr_model.specs.declared.vcal.FamilyKind.{FamilyKind}
use Rattle.rr_model.specs.declared.vcal.FamilyKind.TheVariants as family
use Rattle.rr_model.specs.declared.vcal.VRule.{VRule}
use Rattle.rr_text.proofs.WrittenByteLemmas.{is_word_byte, list_all-weaker, list_all-both, basic_text-words}
use Rattle.rr_text.proofs.WrittenLemmas.{decimal-digits}
use Rattle.rr_vcal.specs.Writing.{place_of_item, item_text}
use Rattle.rr_vcal.proofs.TrimLemmas.{IsSolid, trimmed_start, trimmed_end, ends-solid}
use Rattle.rr_vcal.proofs.ByteLemmas.{is_written, is_solid, written-solid, solid-digit, solid-word, no_blank, none-of, capitals-written}
use Rattle.rr_vcal.proofs.WordLemmas.{IsListWord, weekday_word, decimal_word, marked_text-word, month_day-word}
use Rattle.rr_vcal.proofs.WordLemmas.{basic_text-some}

-- ---- the words of a rule

-- the words of an item after the place of the one before it
unfoldable pub place_words : Option ℤ → ℤ → List (List ℕ)
place_words None n = marked_text n ∷ []
place_words (Some before) n = if int_eq before n then [] else marked_text n ∷ []

unfoldable pub item_words : Option ℤ → Item → List (List ℕ)
item_words place Every = []
item_words place (Weekday k) = weekday_text k ∷ []
item_words place (MonthDay n) = month_day_text n ∷ []
item_words place (Place n k) = place_words place n ++ weekday_text k ∷ []
item_words place (Month m) = decimal m ∷ []
item_words place (YearDay k) = decimal k ∷ []

unfoldable pub list_words : Option ℤ → List Item → List (List ℕ)
list_words place [] = []
list_words place (item ∷ items) = item_words place item ++ list_words (place_of_item item) items

unfoldable pub end_words : End → List (List ℕ)
end_words Never = (35 ∷ decimal 0) ∷ []
end_words (Count m) = (35 ∷ decimal m) ∷ []
end_words (Until kind at) = basic_text kind at ∷ []
end_words (Both kind at m) = (35 ∷ decimal m) ∷ basic_text kind at ∷ []

-- the words, each after a blank
spaced : List (List ℕ) → List ℕ
spaced [] = []
spaced (w ∷ ws) = 32 ∷ (w ++ spaced ws)

spaced-append : (vs ws : List (List ℕ)) → spaced (vs ++ ws) ≡ spaced vs ++ spaced ws
unfolding spaced
spaced-append [] ws = refl
spaced-append (v ∷ vs) ws = ap (λ (t : List ℕ). 32 ∷ t) (ap (λ (t : List ℕ). v ++ t) (spaced-append vs ws) ∙ sym (append_assoc v (spaced vs) (spaced ws)))

items_text-more : (place : Option ℤ) (item : Item) (items : List Item)
    → items_text place (item ∷ items) ≡ item_text place item ++ items_text (place_of_item item) items
items_text-more place Every items = refl
items_text-more place (Weekday k) items = refl
items_text-more place (MonthDay n) items = refl
items_text-more place (Place n k) items = refl
items_text-more place (Month m) items = refl
items_text-more place (YearDay k) items = refl

-- a word alone, and a word after others
spaced-one : (w : List ℕ) → 32 ∷ w ≡ spaced (w ∷ [])
unfolding spaced
spaced-one w = ap (λ (t : List ℕ). 32 ∷ t) (sym (append-nil w))

place-spaced : (place : Option ℤ) (n : ℤ) → place_text place n ≡ spaced (place_words place n)
unfolding spaced place_words
place-spaced None n = spaced-one (marked_text n)
place-spaced (Some before) n = by (int_eq before n)
  where
    by : (t : Bool) → (if t then [] else codes " " ++ marked_text n) ≡ spaced (if t then [] else marked_text n ∷ [])
    by true = refl
    by false = spaced-one (marked_text n)

item-spaced : (place : Option ℤ) (item : Item) → item_text place item ≡ spaced (item_words place item)
unfolding item_words spaced
item-spaced place Every = refl
item-spaced place (Weekday k) = spaced-one (weekday_text k)
item-spaced place (MonthDay n) = spaced-one (month_day_text n)
item-spaced place (Place n k) =
    append_assoc (place_text place n) (codes " ") (weekday_text k)
    ∙ ap (λ (t : List ℕ). t ++ 32 ∷ weekday_text k) (place-spaced place n)
    ∙ ap (λ (t : List ℕ). spaced (place_words place n) ++ t) (spaced-one (weekday_text k))
    ∙ sym (spaced-append (place_words place n) (weekday_text k ∷ []))
item-spaced place (Month m) = spaced-one (decimal m)
item-spaced place (YearDay k) = spaced-one (decimal k)

items-spaced : (place : Option ℤ) (items : List Item) → items_text place items ≡ spaced (list_words place items)
unfolding list_words spaced
items-spaced place [] = refl
items-spaced place (item ∷ items) =
    items_text-more place item items
    ∙ ap (λ (t : List ℕ). t ++ items_text (place_of_item item) items) (item-spaced place item)
    ∙ ap (λ (t : List ℕ). spaced (item_words place item) ++ t) (items-spaced (place_of_item item) items)
    ∙ sym (spaced-append (item_words place item) (list_words (place_of_item item) items))

end-spaced : (end : End) → vcal_end_text end ≡ spaced (end_words end)
unfolding end_words spaced
end-spaced Never = ap (λ (ds : List ℕ). 32 ∷ 35 ∷ (ds ++ [])) (sym (decimal_digit 0 (omega arith)))
end-spaced (Count m) = spaced-one (35 ∷ decimal m)
end-spaced (Until kind at) = spaced-one (basic_text kind at)
end-spaced (Both kind at m) =
    append_assoc (codes " #" ++ decimal m) (codes " ") (basic_text kind at)
    ∙ ap (λ (t : List ℕ). 32 ∷ 35 ∷ (decimal m ++ t)) (spaced-one (basic_text kind at))

-- the head of a rule, and all words after it
pub head_text : FamilyKind → ℕ → List ℕ
head_text f interval = family_text f ++ decimal interval

unfoldable pub words_of : List Item → End → List (List ℕ)
words_of items end = list_words None items ++ end_words end

rule-spaced : (rule : VRule) → vrule_text rule ≡ head_text rule.family rule.interval ++ spaced (words_of rule.items rule.end)
unfolding vrule_text head_text words_of
rule-spaced rule =
    let head = family_text rule.family ++ decimal rule.interval in
    append_assoc head (items_text None rule.items) (vcal_end_text rule.end)
    ∙ ap (λ (t : List ℕ). head ++ (t ++ vcal_end_text rule.end)) (items-spaced None rule.items)
    ∙ ap (λ (t : List ℕ). head ++ (spaced (list_words None rule.items) ++ t)) (end-spaced rule.end)
    ∙ ap (λ (t : List ℕ). head ++ t) (sym (spaced-append (list_words None rule.items) (end_words rule.end)))

-- ---- the bytes of the words

abbrev AreSolid : List (List ℕ) → Type 0
AreSolid ws = AllByRecursion IsSolid ws

solid-append : (vs ws : List (List ℕ)) → AreSolid vs → AreSolid ws → AreSolid (vs ++ ws)
solid-append [] ws h k = k
solid-append (v ∷ vs) ws h k = (h.0, solid-append vs ws h.1 k)

solid-list_word : (w : List ℕ) → IsListWord w → IsSolid w
solid-list_word w h = (h.some, h.solid)

place-solid : (place : Option ℤ) (n : ℤ) → nat_abs n < 1_000 → AreSolid (place_words place n)
unfolding place_words
place-solid None n h = (solid-list_word (marked_text n) (marked_text-word n h), tt)
place-solid (Some before) n h = by (int_eq before n)
  where
    by : (t : Bool) → AreSolid (if t then [] else marked_text n ∷ [])
    by true = tt
    by false = (solid-list_word (marked_text n) (marked_text-word n h), tt)

item-solid : (f : FamilyKind) (place : Option ℤ) (item : Item) → IsItemOf f item → AreSolid (item_words place item)
unfolding item_words
item-solid family.D place Every h = tt
item-solid family.D place item h = absurd h
item-solid family.W place (Weekday k) h = (solid-list_word (weekday_text k) (weekday_word k h), tt)
item-solid family.W place item h = absurd h
item-solid family.MD place (MonthDay n) h = (solid-list_word (month_day_text n) (month_day-word n (omega (arith, h.1))), tt)
item-solid family.MD place item h = absurd h
item-solid family.MP place (Place n k) h =
    solid-append (place_words place n) (weekday_text k ∷ []) (place-solid place n (omega (arith, h.1)))
    (solid-list_word (weekday_text k) (weekday_word k h.2), tt)
item-solid family.MP place item h = absurd h
item-solid family.YM place (Month m) h = (solid-list_word (decimal m) (decimal_word m (omega (arith, h.1))), tt)
item-solid family.YM place item h = absurd h
item-solid family.YD place (YearDay k) h = (solid-list_word (decimal k) (decimal_word k (omega (arith, h.1))), tt)
item-solid family.YD place item h = absurd h

items-solid : (f : FamilyKind) (place : Option ℤ) (items : List Item) → AllByRecursion (IsItemOf f) items → AreSolid (list_words place items)
unfolding list_words
items-solid f place [] h = tt
items-solid f place (item ∷ items) h =
    solid-append (item_words place item) (list_words (place_of_item item) items) (item-solid f place item h.0) (items-solid f (place_of_item item) items h.1)

decimal-solid : (n : ℕ) → n < 2 ^ 64 → list_all is_solid (decimal n) ≡ true
decimal-solid n h = list_all-weaker is_digit is_solid solid-digit (decimal n) (decimal-digits n h)

pub moment-solid : (kind : Kind) (at : ℤ) → IsInYears kind at → IsSolid (basic_text kind at)
moment-solid kind at h = (basic_text-some kind at h, list_all-weaker is_word_byte is_solid solid-word (basic_text kind at) (basic_text-words kind at h))

end-solid : (end : End) → HasCountInRange end → EndsInYears end → AreSolid (end_words end)
unfolding end_words
end-solid Never h k = ((refl, decimal-solid 0 (omega arith)), tt)
end-solid (Count m) h k = ((refl, decimal-solid m (omega (arith, h.1))), tt)
end-solid (Until kind at) h k = (moment-solid kind at k, tt)
end-solid (Both kind at m) h k = ((refl, decimal-solid m (omega (arith, h.1))), (moment-solid kind at k, tt))

family-solid : (f : FamilyKind) → list_all is_solid (family_text f) ≡ true
unfolding family_text
family-solid family.D = refl
family-solid family.W = refl
family-solid family.MD = refl
family-solid family.MP = refl
family-solid family.YM = refl
family-solid family.YD = refl

head-solid : (f : FamilyKind) (n : ℕ) → n < 2 ^ 64 → list_all is_solid (head_text f n) ≡ true
unfolding head_text
head-solid f n h = list_all-both is_solid (family_text f) (decimal n) (family-solid f) (decimal-solid n h)

spaced-written : (ws : List (List ℕ)) → AreSolid ws → list_all is_written (spaced ws) ≡ true
unfolding spaced
spaced-written [] h = refl
spaced-written (w ∷ ws) h =
    list_all-both is_written w (spaced ws) (list_all-weaker is_solid is_written written-solid w h.0.1) (spaced-written ws h.1)

-- ---- the words of a text

spaced-ends : (xs : List ℕ) (w : List ℕ) (ws : List (List ℕ)) → AreSolid (w ∷ ws) → begins_blank (reverse (xs ++ spaced (w ∷ ws))) ≡ false
unfolding spaced
spaced-ends xs w [] h =
    ap (λ (t : List ℕ). begins_blank (reverse t)) (ap (λ (t : List ℕ). xs ++ 32 ∷ t) (append-nil w) ∙ sym (append_assoc xs (32 ∷ []) w))
    ∙ ends-solid (xs ++ 32 ∷ []) w h.0
spaced-ends xs w (v ∷ vs) h =
    ap (λ (t : List ℕ). begins_blank (reverse t)) (sym (append_assoc xs (32 ∷ w) (32 ∷ (v ++ spaced vs))))
    ∙ spaced-ends (xs ++ 32 ∷ w) v vs h.1

-- words that each stand after a blank are the pieces between blanks
split-spaced : (head : List ℕ) (ws : List (List ℕ)) → list_all is_solid head ≡ true → AreSolid ws → slice_split is_blank (head ++ spaced ws) ≡ head ∷ ws
unfolding spaced
split-spaced head [] h k = ap (slice_split is_blank) (append-nil head) ∙ slice_split_none is_blank head (none-of is_solid is_blank no_blank head h)
split-spaced head (w ∷ ws) h k =
    slice_split_at is_blank head 32 (w ++ spaced ws) (none-of is_solid is_blank no_blank head h) refl
    ∙ ap (λ (ts : List (List ℕ)). head ∷ ts) (split-spaced w ws k.0.1 k.1)

-- ---- the head and the end

pub head_text-some : (f : FamilyKind) (n : ℕ) → is_absent (head_text f n) ≡ false
unfolding head_text family_text
head_text-some family.D n = refl
head_text-some family.W n = refl
head_text-some family.MD n = refl
head_text-some family.MP n = refl
head_text-some family.YM n = refl
head_text-some family.YD n = refl

head_text-begins : (f : FamilyKind) (n : ℕ) (rest : List ℕ) → begins_blank (head_text f n ++ rest) ≡ false
unfolding head_text family_text
head_text-begins family.D n rest = refl
head_text-begins family.W n rest = refl
head_text-begins family.MD n rest = refl
head_text-begins family.MP n rest = refl
head_text-begins family.YM n rest = refl
head_text-begins family.YD n rest = refl

pub head_text-is : (f : FamilyKind) (n : ℕ) → head_of (head_text f n) ≡ Some (record { family = f; rest = decimal n })
unfolding head_text family_text head_of
head_text-is family.D n = refl
head_text-is family.W n = refl
head_text-is family.MD n = refl
head_text-is family.MP n = refl
head_text-is family.YM n = refl
head_text-is family.YD n = refl

-- ---- the text of a rule

words-solid : (rule : VRule) → IsValidVRule rule → EndsInYears rule.end → AreSolid (words_of rule.items rule.end)
unfolding words_of
words-solid rule valid years =
    solid-append (list_words None rule.items) (end_words rule.end)
    (items-solid rule.family None rule.items (recursion_from_All (IsItemOf rule.family) rule.items valid.items)) (end-solid rule.end valid.count years)

-- its bytes are neither line breaks nor small letters
pub vrule_text-written : (rule : VRule) → IsValidVRule rule → EndsInYears rule.end → list_all is_written (vrule_text rule) ≡ true
vrule_text-written rule valid years =
    let small : rule.interval < 2 ^ 64 = omega (arith, valid.interval_high) in
    let head = list_all-weaker is_solid is_written written-solid (head_text rule.family rule.interval) (head-solid rule.family rule.interval small) in
    ap (list_all is_written) (rule-spaced rule)
    ∙ list_all-both is_written (head_text rule.family rule.interval) (spaced (words_of rule.items rule.end)) head
    (spaced-written (words_of rule.items rule.end) (words-solid rule valid years))

-- there are no blanks around it
pub vrule_text-begins : (rule : VRule) → begins_blank (vrule_text rule) ≡ false
vrule_text-begins rule = ap begins_blank (rule-spaced rule) ∙ head_text-begins rule.family rule.interval (spaced (words_of rule.items rule.end))

ends-words : (head : List ℕ) (items : List Item) (end : End) → AreSolid (words_of items end)
    → begins_blank (reverse (head ++ spaced (words_of items end))) ≡ false
unfolding words_of end_words
ends-words head items end h = by (list_words None items) end h
  where
    by : (ws : List (List ℕ)) (end : End) → AreSolid (ws ++ end_words end) → begins_blank (reverse (head ++ spaced (ws ++ end_words end))) ≡ false
    by [] Never h = spaced-ends head _ _ h
    by [] (Count m) h = spaced-ends head _ _ h
    by [] (Until kind at) h = spaced-ends head _ _ h
    by [] (Both kind at m) h = spaced-ends head _ _ h
    by (w ∷ ws) end h = spaced-ends head w (ws ++ end_words end) h

pub vrule_text-ends : (rule : VRule) → IsValidVRule rule → EndsInYears rule.end → begins_blank (reverse (vrule_text rule)) ≡ false
vrule_text-ends rule valid years =
    ap (λ (t : List ℕ). begins_blank (reverse t)) (rule-spaced rule)
    ∙ ends-words (head_text rule.family rule.interval) rule.items rule.end (words-solid rule valid years)

-- its pieces between blanks
pub rule-pieces : (rule : VRule) → IsValidVRule rule → EndsInYears rule.end
    → slice_split is_blank (line_value (vrule_text rule)) ≡ head_text rule.family rule.interval ∷ words_of rule.items rule.end
unfolding line_value
rule-pieces rule valid years =
    let text = vrule_text rule in
    let small : rule.interval < 2 ^ 64 = omega (arith, valid.interval_high) in
    ap (λ (t : List ℕ). slice_split is_blank (trim_end (trim_start t))) (capitals-written text (vrule_text-written rule valid years))
    ∙ ap (λ (t : List ℕ). slice_split is_blank (trim_end t)) (trimmed_start text (vrule_text-begins rule))
    ∙ ap (slice_split is_blank) (trimmed_end text (vrule_text-ends rule valid years))
    ∙ ap (slice_split is_blank) (rule-spaced rule)
    ∙ split-spaced (head_text rule.family rule.interval) (words_of rule.items rule.end) (head-solid rule.family rule.interval small)
    (words-solid rule valid years)
