-- The text of a rule (vCalendar 1.0, basic recurrence rule grammar). Letters are read in either case.
use Rattle.std.specs.Prelude.{ℕ, ◌-◌, ◌==◌, nat_le, Bool, true, false, not, ◌&&◌, ◌||◌, if◌then◌else◌, ℤ, pos, neg_ℤ, int_lt, List, [], ◌∷◌, length, take}
use Rattle.std.specs.Prelude.{drop, slice_index, codes, Option, None, Some, option_map, ok_or, Result, Ok, Err}
use Rattle.std.specs.List.{list_all, slice_split}
use Rattle.std.specs.Option.{is_some, option_or}
use Rattle.std.specs.Str.{bytes_eq}
use Rattle.rr_model.specs.Text.Digits.{is_digit, digits_value}
use Rattle.rr_model.specs.Text.Moments.{basic, is_letter_t}
use Rattle.rr_model.specs.Text.Rules.{is_blank, text_after, line_value}
use Rattle.rr_model.specs.Rising.{with_value}
use Rattle.rr_model.specs.Text.RuleValues.{is_number, number_up_to, weekday_named, ◌>>=◌}
use Rattle.rr_model.specs.Rule.Validity.{is_absent}
use Rattle.rr_model.specs.declared.rule.End.{End}
use Rattle.rr_model.specs.declared.rule.End.TheVariants.{Never, Until, Count, Both}
use Rattle.rr_model.specs.declared.stamp.Stamp.{Stamp}
use Rattle.rr_model.specs.Text.Steps.{in_turn}
use Rattle.rr_model.specs.Text.Passes.{Stated}
use Rattle.rr_model.specs.Vcal.Items.{item_lt}
use Rattle.rr_model.specs.declared.refusal.Refusal.{Refusal}
use Rattle.rr_model.specs.declared.refusal.Refusal.TheVariants.{BadMoment, BadRule, PartTwice, NumberRange}
use Rattle.rr_model.specs.declared.vcal.FamilyKind.{FamilyKind}
use Rattle.rr_model.specs.declared.vcal.FamilyKind.TheVariants as family
use Rattle.rr_model.specs.declared.item.Item.{Item}
use Rattle.rr_model.specs.declared.item.Item.TheVariants.{Every, Weekday, MonthDay, Place, Month, YearDay}
use Rattle.rr_model.specs.declared.vcal.VRule.{VRule}
use Rattle.rr_model.specs.declared.vcal.VRuleParts.{VRuleParts}

-- ---- the head

-- a kind of rule, and what follows its letters
pub record Head : Type 0 where
  pub family : FamilyKind
  pub rest : List ℕ

-- a rule that begins with these letters
abbrev pub head_with : List ℕ → FamilyKind → List ℕ → Option Head
head_with letters family text = option_map (λ rest. record { family = family; rest = rest }) (text_after letters text)

-- the kind of a rule by its first letters
unfoldable pub head_of : List ℕ → Option Head
head_of text =
    option_or (head_with (codes "MD") family.MD text) (option_or (head_with (codes "MP") family.MP text) (option_or (head_with (codes "YM") family.YM text)
    (option_or (head_with (codes "YD") family.YD text) (option_or (head_with (codes "D") family.D text) (head_with (codes "W") family.W text)))))

-- a daily rule has its one item from the head on
abbrev pub first_items : FamilyKind → List Item
first_items family.D = Every ∷ []
first_items other = []

-- the letters, and directly after them the interval
unfoldable pub parts_of_head : ℕ → List ℕ → Result VRuleParts Refusal
parts_of_head line text = do
  head ← ok_or (head_of text) (BadRule line)
  interval ← number_up_to line 4_294_967_295 head.rest
  Ok (record { family = head.family; interval = interval; items = first_items head.family; places = []; has_weekday = false; count = None; until = None })

-- ---- items

-- the text is one to three digits
abbrev pub is_short_number : List ℕ → Bool
is_short_number text = is_number text && nat_le (length text) 3

-- a short number from 1 to `most`, negative if `from_back` is true; or why it is refused
abbrev pub place_of : ℕ → ℕ → Bool → List ℕ → Result ℤ Refusal
place_of line most from_back text =
    if is_short_number text
    then (if nat_le 1 (digits_value text) && nat_le (digits_value text) most then Ok
    (if from_back then neg_ℤ (pos (digits_value text)) else pos (digits_value text)) else Err (NumberRange line))
    else Err (BadRule line)

-- a short number from 1 to `most`, or why it is refused
abbrev pub short_number_up_to : ℕ → ℕ → List ℕ → Result ℕ Refusal
short_number_up_to line most text =
    if is_short_number text then (if nat_le 1 (digits_value text)
    && nat_le (digits_value text) most then Ok (digits_value text) else Err (NumberRange line)) else Err (BadRule line)

-- the text without its last byte
abbrev pub front : List ℕ → List ℕ
front text = take (length text - 1) text

-- the text ends with the byte
abbrev pub ends_with : ℕ → List ℕ → Bool
ends_with b text = bytes_eq (drop (length text - 1) text) (b ∷ [])

-- a place with a mark after it: `+` if it counts from the front, `-` if it counts from the back
abbrev pub marked_place : ℕ → ℕ → List ℕ → Result ℤ Refusal
marked_place line most text =
    if ends_with 43 text then place_of line most false (front text) else
    (if ends_with 45 text then place_of line most true (front text) else Err (BadRule line))

-- a day of the month; LD is the last, and a day without a mark counts from the front
abbrev pub month_day_of : ℕ → List ℕ → Result ℤ Refusal
month_day_of line text =
    if bytes_eq text (codes "LD") then Ok (neg_ℤ (pos 1))
    else (if ends_with 43 text || ends_with 45 text then marked_place line 31 text else place_of line 31 false text)

-- the parts with one item more
abbrev pub put_item : VRuleParts → Item → VRuleParts
put_item parts item = record parts { items = with_value item_lt parts.items item }

-- the items, and one more for each of these places, with this weekday
abbrev pub put_places : List Item → ℕ → List ℤ → List Item
put_places items weekday [] = items
put_places items weekday (place ∷ places) = put_places (with_value item_lt items (Place place weekday)) weekday places

-- the parts with a weekday after the places of its group; refused if no place stands before it
abbrev pub with_group_weekday : ℕ → VRuleParts → ℕ → Result VRuleParts Refusal
with_group_weekday line parts weekday =
    if is_absent parts.places then Err (BadRule line)
    else Ok (record parts { items = put_places parts.items weekday parts.places; has_weekday = true })

-- the parts with one place more; after a weekday it begins a new group
abbrev pub with_group_place : VRuleParts → ℤ → VRuleParts
with_group_place parts place = record parts { places = with_value int_lt (if parts.has_weekday then [] else parts.places) place; has_weekday = false }

-- the parts with one word more in a group of places: a weekday, or otherwise a place
abbrev pub with_group_word : ℕ → VRuleParts → Option ℕ → List ℕ → Result VRuleParts Refusal
with_group_word line parts (Some weekday) text = with_group_weekday line parts weekday
with_group_word line parts None text = marked_place line 5 text >>= λ place. Ok (with_group_place parts place)

-- the parts with one word more of the rule's list, by the kind of the rule
abbrev pub with_list_word : ℕ → VRuleParts → FamilyKind → List ℕ → Result VRuleParts Refusal
with_list_word line parts family.D text = Err (BadRule line)
with_list_word line parts family.W text = ok_or (weekday_named text) (BadRule line) >>= λ d. Ok (put_item parts (Weekday d))
with_list_word line parts family.MD text = month_day_of line text >>= λ n. Ok (put_item parts (MonthDay n))
with_list_word line parts family.MP text = with_group_word line parts (weekday_named text) text
with_list_word line parts family.YM text = short_number_up_to line 12 text >>= λ m. Ok (put_item parts (Month m))
with_list_word line parts family.YD text = short_number_up_to line 366 text >>= λ k. Ok (put_item parts (YearDay k))

-- ---- the words after the head

-- the list can end here: in a rule by places there is a group, and its last place has a weekday after it
abbrev pub is_list_whole : FamilyKind → VRuleParts → Bool
is_list_whole family.MP parts = not (is_absent parts.places) && parts.has_weekday
is_list_whole other parts = true

-- the word is eight digits, or eight digits and T with any bytes after it
abbrev pub is_moment_word : List ℕ → Bool
is_moment_word text =
    nat_le 8 (length text) && list_all is_digit (take 8 text) && ((length text == 8) || is_letter_t (slice_index text 8))

-- the parts with an end moment; its form is judged before a second one is refused
abbrev pub with_end_moment : ℕ → VRuleParts → List ℕ → Result VRuleParts Refusal
with_end_moment line parts text =
    ok_or (basic text) (BadMoment line) >>= λ stamp. if is_some parts.until then Err (PartTwice line) else Ok (record parts { until = Some stamp })

-- the parts with a number of events, given without its `#`; judged are its form, whether one stood before, and its range
abbrev pub with_count : ℕ → VRuleParts → List ℕ → Result VRuleParts Refusal
with_count line parts text =
    if is_number text then (if is_some parts.count then Err (PartTwice line)
    else (if nat_le (digits_value text) 18_446_744_073_709_551_615 then Ok (record parts { count = Some (digits_value text) }) else Err (NumberRange line)))
    else Err (BadRule line)

-- what a word after the list makes of the parts, if the list is whole; otherwise BadRule
abbrev pub after_list : ℕ → VRuleParts → Result VRuleParts Refusal → Result VRuleParts Refusal
after_list line parts more = if is_list_whole parts.family parts then more else Err (BadRule line)

-- the parts with one word more of the list, which may not stand after an end
abbrev pub within_list : ℕ → VRuleParts → List ℕ → Result VRuleParts Refusal
within_list line parts text = if is_some parts.count || is_some parts.until then Err (BadRule line) else with_list_word line parts parts.family text

-- the parts with a number of events, if the word begins with `#`, or otherwise with a word of the list
abbrev pub with_marked_word : ℕ → VRuleParts → Option (List ℕ) → List ℕ → Result VRuleParts Refusal
with_marked_word line parts (Some number) text = after_list line parts (with_count line parts number)
with_marked_word line parts None text = within_list line parts text

-- the parts with one word more after the head
unfoldable pub with_word : ℕ → VRuleParts → List ℕ → Result VRuleParts Refusal
with_word line parts text =
    if is_moment_word text then after_list line parts (with_end_moment line parts text) else with_marked_word line parts (text_after (codes "#") text) text

-- a piece between blanks and tabs: an empty one is passed over, the first other one is the head
abbrev pub with_piece : ℕ → Option VRuleParts → List ℕ → Result (Option VRuleParts) Refusal
with_piece line parts [] = Ok parts
with_piece line None (b ∷ bs) = parts_of_head line (b ∷ bs) >>= λ parts. Ok (Some parts)
with_piece line (Some parts) (b ∷ bs) = with_word line parts (b ∷ bs) >>= λ more. Ok (Some more)

-- after the last word there is a head, and the list is whole
abbrev pub whole_parts : ℕ → Option VRuleParts → Result VRuleParts Refusal
whole_parts line None = Err (BadRule line)
whole_parts line (Some parts) = after_list line parts (Ok parts)

-- ---- the rule

-- two events if no end stands; #0 is no end; an end moment holds beside a number of events
abbrev pub end_of_words : Option ℕ → Option Stamp → End
end_of_words None None = Count 2
end_of_words (Some m) None = if m == 0 then Never else Count m
end_of_words None (Some until) = Until until.kind until.at
end_of_words (Some m) (Some until) = if m == 0 then Until until.kind until.at else Both until.kind until.at m

-- the rule that its parts state
abbrev pub stated_parts : VRuleParts → Stated VRule
stated_parts parts = record {
  rule = record { family = parts.family; interval = parts.interval; items = parts.items; end = end_of_words parts.count parts.until };
  until = parts.until;
}

-- the rule of a line; a bare one has no items yet
unfoldable pub stated_vrule : ℕ → List ℕ → Result (Stated VRule) Refusal
stated_vrule line text = do
  pieces ← in_turn (with_piece line) None (slice_split is_blank (line_value text))
  parts ← whole_parts line pieces
  Ok (stated_parts parts)
