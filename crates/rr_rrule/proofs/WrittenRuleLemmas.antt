-- A written rule is read back (RFC 5545, section 3.3.10).
use Rattle.std.proofs.Common.{◌≡◌, ℕ, ◌^◌, ◌<◌, ◌≤◌, Bool, true, false, ℤ, pos, nat_abs, ◌≤ℤ◌, List, [], ◌∷◌, ◌++◌, map}
use Rattle.std.proofs.Common.{append-nil, Option, None, Some, Result, Ok, Err, All, inl, inr, refl, sym, ap, ◌∙◌, subst, arith}
use Rattle.std.specs.Prelude.{◌==◌, if◌then◌else◌, codes, int_lt, ok_or, unwrap_or}
use Rattle.std.specs.Fmt.{decimal, signed_decimal}
use Rattle.std.specs.List.{list_all, AllByRecursion, join_with_byte}
use Rattle.std.proofs.lemmas.Bool.{and_from}
use Rattle.std.proofs.lemmas.Bool.Decides.{nat_tests}
use Rattle.std.proofs.lemmas.Int.{ints}
use Rattle.std.proofs.lemmas.List.Elements.{recursion_from_All}
use Rattle.rr_model.specs.Rising.{Rises, day_item_lt}
use Rattle.rr_model.specs.Rule.Validity.{IsDayItem, HasCountInRange, EndsInYears, IsValidRule, is_absent, is_allowed}
use Rattle.rr_rule_parts.specs.Calendars.{stated_rule}
use Rattle.rr_rule_parts.specs.Rules.{part_named, name_of, with_parts, no_parts, end_of, rule_with, rule_of, rule_parts}
use Rattle.rr_model.specs.Text.RuleValues.{◌>>=◌}
use Rattle.rr_rule_parts.specs.Values.{numbers_of, day_items_of, number_within, has_number_form, is_day_item, day_item_within, unsigned_bounds}
use Rattle.rr_rule_parts.specs.Values.{signed_bounds, second_bounds}
use Rattle.rr_model.specs.Text.WriteLaws.{IsOneEnd}
use Rattle.rr_model.specs.Text.Written.{basic_text, freq_text, weekday_text, day_item_text, part_unless, list_part, end_text, rule_text}
use Rattle.rr_model.specs.declared.kind.Kind.{Kind}
use Rattle.rr_model.specs.declared.refusal.Refusal.{Refusal}
use Rattle.rr_model.specs.declared.refusal.Refusal.TheVariants.{BadMoment, NotAllowed, BadRule}
use Rattle.rr_model.specs.declared.rule.DayItem.{DayItem}
use Rattle.rr_model.specs.declared.rule.End.{End}
use Rattle.rr_model.specs.declared.rule.End.TheVariants.{Never, Until, Count, Both}
use Rattle.rr_model.specs.declared.rule.Freq.{Freq}
use Rattle.rr_model.specs.declared.rule.Rule.{Rule}
use Rattle.rr_rule_parts.specs.declared.rule_parts.NumberBounds.{NumberBounds}
use Rattle.rr_rule_parts.specs.declared.rule_parts.PartName.TheVariants as part
use Rattle.rr_rule_parts.specs.declared.rule_parts.RuleParts.{RuleParts}
use Rattle.rr_model.specs.declared.stamp.Stamp.{Stamp}
use Rattle.rr_text.proofs.PlainTextLemmas.{capitals-plain}
use Rattle.rr_text.proofs.WrittenByteLemmas.{is_word_byte, is_value_byte, is_line_byte}
use Rattle.rr_text.proofs.WrittenByteLemmas.{values-from_words, no_comma-from_words, decimal-words, signed_decimal-words, basic_text-words}
use Rattle.rr_text.proofs.WrittenByteLemmas.{joined-values}
use Rattle.rr_text.proofs.WrittenLemmas.{basic-written}
use Rattle.rr_text.proofs.WrittenListLemmas.{IsReadBack, list_of-written}
use Rattle.rr_text.proofs.WrittenValueLemmas.{freq-written, freq_text-words, weekday-written, number_up_to-written}
use Rattle.rr_rule_parts.proofs.WrittenNumberLemmas.{IsWithin, number_form-written}
use Rattle.rr_text.proofs.WrittenValueLemmas.{signed_decimal-no_comma, int_lt-transitive, day_item_lt-transitive}
use Rattle.rr_rule_parts.proofs.WrittenNumberLemmas.{number_within-written, day_item-written}
use Rattle.rr_rrule.specs.TextLaws.{is_part}
use Rattle.rr_rrule.proofs.PartOrderLemmas.{rule_parts-join}
use Rattle.rr_rrule.proofs.WrittenPartLemmas.{IsName, part_states, part_is, part_bytes, IsRuleText, with_part_text, with_part_unless, with_list_part}
use Rattle.rr_rrule.proofs.RulePartLemmas.{with_part-again}

-- ---- values of the parts

numbers_read : (line : ℕ) (bounds : NumberBounds) (zs : List ℤ) → AllByRecursion (IsWithin bounds) zs
    → AllByRecursion (IsReadBack int_lt int_lt-transitive (number_within line bounds) signed_decimal (has_number_form bounds)) zs
numbers_read line bounds [] h = tt
numbers_read line bounds (z ∷ zs) h =
    ((number_form-written bounds z h.0, signed_decimal-no_comma z h.0.small, number_within-written line bounds z h.0), numbers_read line bounds zs h.1)

number_words : (bounds : NumberBounds) (zs : List ℤ) → AllByRecursion (IsWithin bounds) zs
    → AllByRecursion (λ (t : List ℕ). list_all is_word_byte t ≡ true) (map signed_decimal zs)
number_words bounds [] h = tt
number_words bounds (z ∷ zs) h = (signed_decimal-words z h.0.small, number_words bounds zs h.1)

-- how a list is read back: its bytes are plain, and its value is the list
record IsListText {X : Type 0} (text : List ℕ) (values : List X) (read : List ℕ → Result (List X) Refusal) : Type 0 where
  bytes : list_all is_value_byte text ≡ true
  value : is_absent values ≡ false → read text ≡ Ok values

numbers-written : (line : ℕ) (bounds : NumberBounds) (zs : List ℤ) → AllByRecursion (IsWithin bounds) zs → Rises int_lt zs
    → IsListText (join_with_byte 44 (map signed_decimal zs)) zs (numbers_of line bounds)
unfolding numbers_of
numbers-written line bounds zs h r = record {
  bytes = joined-values (map signed_decimal zs) (number_words bounds zs h);
  value = λ some. list_of-written int_lt int_lt-transitive (number_within line bounds) signed_decimal line (has_number_form bounds) zs some
      (numbers_read line bounds zs h) r;
}

items_read : (line : ℕ) (items : List DayItem) → AllByRecursion IsDayItem items
    → AllByRecursion (IsReadBack day_item_lt day_item_lt-transitive (day_item_within line) day_item_text is_day_item) items
items_read line [] h = tt
items_read line (item ∷ items) h =
    let t = day_item-written item h.0 in
    ((t.form, no_comma-from_words (day_item_text item) t.words, t.value line), items_read line items h.1)

item_words : (items : List DayItem) → AllByRecursion IsDayItem items
    → AllByRecursion (λ (t : List ℕ). list_all is_word_byte t ≡ true) (map day_item_text items)
item_words [] h = tt
item_words (item ∷ items) h = ((day_item-written item h.0).words, item_words items h.1)

items-written : (line : ℕ) (items : List DayItem) → AllByRecursion IsDayItem items → Rises day_item_lt items
    → IsListText (join_with_byte 44 (map day_item_text items)) items (day_items_of line)
unfolding day_items_of
items-written line items h r = record {
  bytes = joined-values (map day_item_text items) (item_words items h);
  value = λ some. list_of-written day_item_lt day_item_lt-transitive (day_item_within line) day_item_text line is_day_item items some
      (items_read line items h) r;
}

-- numbers of a valid rule lie within the bounds
all_within : (bounds : NumberBounds) (P : ℤ → Type 0) → ((z : ℤ) → P z → IsWithin bounds z) → (zs : List ℤ) → All P zs
    → AllByRecursion (IsWithin bounds) zs
all_within bounds P within zs h = each zs (recursion_from_All P zs h)
  where
    each : (ys : List ℤ) → AllByRecursion P ys → AllByRecursion (IsWithin bounds) ys
    each [] k = tt
    each (y ∷ ys) k = (within y k.0, each ys k.1)

within_unsigned : (low high : ℕ) → high < 100 → (z : ℤ) → (pos low ≤ℤ z) × (z ≤ℤ pos high) → IsWithin (unsigned_bounds low high) z
within_unsigned low high small z h = record {
  small = omega (arith, ints, h.0, h.1);
  from = omega (arith, ints, h.0);
  to = omega (arith, ints, h.0, h.1);
  sign = inr (omega (arith, ints, h.0));
}

within_seconds : (z : ℤ) → (pos 0 ≤ℤ z) × (z ≤ℤ pos 59) → IsWithin second_bounds z
within_seconds z h = record {
  small = omega (arith, ints, h.0, h.1);
  from = omega arith;
  to = omega (arith, ints, h.0, h.1);
  sign = inr (omega (arith, ints, h.0));
}

within_signed : (most : ℕ) → most < 1_000 → (z : ℤ) → (1 ≤ nat_abs z) × (nat_abs z ≤ most) → IsWithin (signed_bounds most) z
within_signed most small z h = record { small = omega (arith, h.1); from = h.0; to = h.1; sign = inl refl }

-- ---- the end

-- the moment of UNTIL as it is read
abbrev pub until_of : End → Option Stamp
until_of (Until kind at) = Some (record { kind = kind; at = at; utc = false })
until_of end = None

abbrev pub count_of : End → Option ℕ
count_of (Count n) = Some n
count_of end = None

-- a number that is left out if it is the usual one
abbrev unless_usual : ℕ → ℕ → Option ℕ
unless_usual usual n = if n == usual then None else Some n

unwrap-unless : (usual n : ℕ) → unwrap_or (unless_usual usual n) usual ≡ n
unwrap-unless usual n = by (n == usual) refl
  where
    by : (b : Bool) → (n == usual) ≡ b → unwrap_or (if b then None else Some n) usual ≡ n
    by true e = grind (arith, nat_tests, e)
    by false e = refl

-- the parts of a rule that has only FREQ
abbrev with_freq : Freq → RuleParts
with_freq freq = record no_parts { freq = Some freq }

-- and the end
abbrev with_end : Freq → End → RuleParts
with_end freq end = record (with_freq freq) { until = until_of end; count = count_of end }

freq_stated : (line : ℕ) (freq : Freq) → IsRuleText line (codes "FREQ=" ++ freq_text freq) (with_freq freq)
unfolding name_of part_named
freq_stated line freq =
    let name : IsName line (codes "FREQ") part.Freq = record { named = refl; words = refl } in
    let values = values-from_words (freq_text freq) (freq_text-words freq) in
    let piece = codes "FREQ" ++ 61 ∷ freq_text freq in
    let plain = part_bytes line (codes "FREQ") (freq_text freq) part.Freq freq name values in
    let states = part_states line (codes "FREQ") (freq_text freq) part.Freq freq name values (ap (λ o. ok_or o (BadRule line)) (freq-written freq)) in
    record {
      first = piece;
      texts = [];
      joined = refl;
      are_parts = and_from (is_part piece) true (part_is line (codes "FREQ") (freq_text freq) part.Freq freq name values) refl;
      capitals = ap (λ (t : List ℕ). t ∷ []) (capitals-plain piece plain);
      read = ap (λ (m : Result RuleParts Refusal). m >>= λ more. with_parts line more []) (with_part-again line no_parts piece part.Freq freq states refl);
      bytes = plain;
    }

end_stated : (line : ℕ) (text : List ℕ) (freq : Freq) (end : End) → IsOneEnd end → HasCountInRange end → EndsInYears end
    → IsRuleText line text (with_freq freq) → IsRuleText line (text ++ end_text end) (with_end freq end)
unfolding name_of part_named
end_stated line text freq Never one count years r = subst (λ (t : List ℕ). IsRuleText line t (with_freq freq)) (sym (append-nil text)) r
end_stated line text freq (Until kind at) one count years r =
    with_part_text line text (with_freq freq) r (codes "UNTIL") (basic_text kind at) part.Until (record { kind = kind; at = at; utc = false })
    (record { named = refl; words = refl }) (values-from_words (basic_text kind at) (basic_text-words kind at years))
    (ap (λ o. ok_or o (BadMoment line)) (basic-written kind at years)) refl
end_stated line text freq (Count n) one count years r =
    let small : n < 2 ^ 64 = omega (arith, count.1) in
    with_part_text line text (with_freq freq) r (codes "COUNT") (decimal n) part.Count n (record { named = refl; words = refl })
    (values-from_words (decimal n) (decimal-words n small)) (number_up_to-written line 18_446_744_073_709_551_615 n small count.0 count.1) refl
end_stated line text freq (Both kind at n) one count years r = absurd one

-- ---- the rule

-- INTERVAL and WKST beside these
abbrev with_interval : Rule → RuleParts
with_interval rule = record (with_end rule.freq rule.end) { interval = unless_usual 1 rule.interval }

abbrev with_week_start : Rule → RuleParts
with_week_start rule = record (with_interval rule) { week_start = unless_usual 0 rule.week_start }

-- all parts of a rule
abbrev all_parts : Rule → RuleParts
all_parts rule = record (with_week_start rule) {
  by_month = rule.by_month;
  by_week_no = rule.by_week_no;
  by_year_day = rule.by_year_day;
  by_month_day = rule.by_month_day;
  by_day = rule.by_day;
  by_hour = rule.by_hour;
  by_minute = rule.by_minute;
  by_second = rule.by_second;
  by_set_pos = rule.by_set_pos;
}

module _ (line : ℕ) (kind : Kind) (rule : Rule) (v : IsValidRule kind rule) (one : IsOneEnd rule.end) (years : EndsInYears rule.end) where
  front_stated : IsRuleText line (codes "FREQ=" ++ freq_text rule.freq ++ end_text rule.end) (with_end rule.freq rule.end)
  front_stated =
      end_stated line (codes "FREQ=" ++ freq_text rule.freq) rule.freq rule.end one v.count years (freq_stated line rule.freq)

  interval_stated : (text : List ℕ) → IsRuleText line text (with_end rule.freq rule.end)
      → IsRuleText line (text ++ part_unless (rule.interval == 1) (codes "INTERVAL") (decimal rule.interval)) (with_interval rule)
  unfolding name_of part_named
  interval_stated text r =
      let small : rule.interval < 2 ^ 64 = omega (arith, v.interval_high) in
      let so_far = with_end rule.freq rule.end in
      let with_it : Bool → RuleParts = λ b. record so_far { interval = if b then None else Some rule.interval } in
      with_part_unless line text so_far r (rule.interval == 1) (codes "INTERVAL") (decimal rule.interval) part.Interval rule.interval (with_interval rule)
      (record { named = refl; words = refl }) (λ e. values-from_words (decimal rule.interval) (decimal-words rule.interval small))
      (λ e. number_up_to-written line 4_294_967_295 rule.interval small v.interval_low v.interval_high) refl
      (λ e. ap with_it (sym e)) (λ e. ap with_it (sym e))

  week_start_stated : (text : List ℕ) → IsRuleText line text (with_interval rule)
      → IsRuleText line (text ++ part_unless (rule.week_start == 0) (codes "WKST") (weekday_text rule.week_start)) (with_week_start rule)
  unfolding name_of part_named
  week_start_stated text r =
      let w = weekday-written rule.week_start v.week_start in
      let so_far = with_interval rule in
      let with_it : Bool → RuleParts = λ b. record so_far { week_start = if b then None else Some rule.week_start } in
      with_part_unless line text so_far r (rule.week_start == 0) (codes "WKST") (weekday_text rule.week_start) part.WeekStart rule.week_start
      (with_week_start rule) (record { named = refl; words = refl }) (λ e. values-from_words (weekday_text rule.week_start) w.words)
      (λ e. ap (λ o. ok_or o (BadRule line)) w.named) refl (λ e. ap with_it (sym e)) (λ e. ap with_it (sym e))

  numbers : (bounds : NumberBounds) (P : ℤ → Type 0) (zs : List ℤ) → ((z : ℤ) → P z → IsWithin bounds z) → All P zs → Rises int_lt zs
      → IsListText (join_with_byte 44 (map signed_decimal zs)) zs (numbers_of line bounds)
  numbers bounds P zs within all rises = numbers-written line bounds zs (all_within bounds P within zs all) rises

  -- the dates' parts
  abbrev with_dates : RuleParts
  with_dates = record (with_week_start rule) {
    by_month = rule.by_month;
    by_week_no = rule.by_week_no;
    by_year_day = rule.by_year_day;
    by_month_day = rule.by_month_day;
  }

  dates_stated : (text : List ℕ) → IsRuleText line text (with_week_start rule)
      → IsRuleText line (text ++ list_part (codes "BYMONTH") signed_decimal rule.by_month ++ list_part (codes "BYWEEKNO") signed_decimal rule.by_week_no
      ++ list_part (codes "BYYEARDAY") signed_decimal rule.by_year_day ++ list_part (codes "BYMONTHDAY") signed_decimal rule.by_month_day) with_dates
  unfolding name_of part_named
  dates_stated text r =
      let p = with_week_start rule in
      let months = numbers (unsigned_bounds 1 12) _ rule.by_month (within_unsigned 1 12 (omega arith)) v.months v.rising.months in
      let weeks = numbers (signed_bounds 53) _ rule.by_week_no (within_signed 53 (omega arith)) v.week_numbers v.rising.week_numbers in
      let year_days = numbers (signed_bounds 366) _ rule.by_year_day (within_signed 366 (omega arith)) v.year_days v.rising.year_days in
      let month_days = numbers (signed_bounds 31) _ rule.by_month_day (within_signed 31 (omega arith)) v.month_days v.rising.month_days in
      let a = with_list_part line text p r (codes "BYMONTH") signed_decimal rule.by_month part.ByMonth rule.by_month
      (λ (l : List ℤ). record p { by_month = l }) (record { named = refl; words = refl }) months.bytes months.value refl refl refl in
      let q = record p { by_month = rule.by_month } in
      let b = with_list_part line _ q a (codes "BYWEEKNO") signed_decimal rule.by_week_no part.ByWeekNo rule.by_week_no
      (λ (l : List ℤ). record q { by_week_no = l }) (record { named = refl; words = refl }) weeks.bytes weeks.value refl refl refl in
      let s = record q { by_week_no = rule.by_week_no } in
      let c = with_list_part line _ s b (codes "BYYEARDAY") signed_decimal rule.by_year_day part.ByYearDay rule.by_year_day
      (λ (l : List ℤ). record s { by_year_day = l }) (record { named = refl; words = refl }) year_days.bytes year_days.value refl refl refl in
      let t = record s { by_year_day = rule.by_year_day } in
      with_list_part line _ t c (codes "BYMONTHDAY") signed_decimal rule.by_month_day part.ByMonthDay rule.by_month_day
      (λ (l : List ℤ). record t { by_month_day = l }) (record { named = refl; words = refl }) month_days.bytes month_days.value refl refl refl

  -- the days and the times
  times_stated : (text : List ℕ) → IsRuleText line text with_dates
      → IsRuleText line (text ++ list_part (codes "BYDAY") day_item_text rule.by_day ++ list_part (codes "BYHOUR") signed_decimal rule.by_hour
      ++ list_part (codes "BYMINUTE") signed_decimal rule.by_minute ++ list_part (codes "BYSECOND") signed_decimal rule.by_second
      ++ list_part (codes "BYSETPOS") signed_decimal rule.by_set_pos) (all_parts rule)
  unfolding name_of part_named
  times_stated text r =
      let p = with_dates in
      let items = items-written line rule.by_day (recursion_from_All IsDayItem rule.by_day v.days) v.rising.days in
      let hours = numbers (unsigned_bounds 0 23) _ rule.by_hour (within_unsigned 0 23 (omega arith)) v.hours v.rising.hours in
      let minutes = numbers (unsigned_bounds 0 59) _ rule.by_minute (within_unsigned 0 59 (omega arith)) v.minutes v.rising.minutes in
      let second_values = numbers second_bounds _ rule.by_second within_seconds v.seconds v.rising.seconds in
      let positions = numbers (signed_bounds 366) _ rule.by_set_pos (within_signed 366 (omega arith)) v.set_positions v.rising.set_positions in
      let a = with_list_part line text p r (codes "BYDAY") day_item_text rule.by_day part.ByDay rule.by_day
      (λ (l : List DayItem). record p { by_day = l }) (record { named = refl; words = refl }) items.bytes items.value refl refl refl in
      let q = record p { by_day = rule.by_day } in
      let b = with_list_part line _ q a (codes "BYHOUR") signed_decimal rule.by_hour part.ByHour rule.by_hour
      (λ (l : List ℤ). record q { by_hour = l }) (record { named = refl; words = refl }) hours.bytes hours.value refl refl refl in
      let s = record q { by_hour = rule.by_hour } in
      let c = with_list_part line _ s b (codes "BYMINUTE") signed_decimal rule.by_minute part.ByMinute rule.by_minute
      (λ (l : List ℤ). record s { by_minute = l }) (record { named = refl; words = refl }) minutes.bytes minutes.value refl refl refl in
      let t = record s { by_minute = rule.by_minute } in
      let d = with_list_part line _ t c (codes "BYSECOND") signed_decimal rule.by_second part.BySecond rule.by_second
      (λ (l : List ℤ). record t { by_second = l }) (record { named = refl; words = refl }) second_values.bytes second_values.value refl refl refl in
      let u = record t { by_second = rule.by_second } in
      with_list_part line _ u d (codes "BYSETPOS") signed_decimal rule.by_set_pos part.BySetPos rule.by_set_pos
      (λ (l : List ℤ). record u { by_set_pos = l }) (record { named = refl; words = refl }) positions.bytes positions.value refl refl refl

  rule_text-parts : IsRuleText line (rule_text rule) (all_parts rule)
  unfolding rule_text
  rule_text-parts = times_stated _ (dates_stated _ (week_start_stated _ (interval_stated _ front_stated)))

  rule_parts-written : rule_parts line (rule_text rule) ≡ Ok (all_parts rule)
  rule_parts-written =
      let t = rule_text-parts in
      ap (rule_parts line) t.joined ∙ rule_parts-join line t.first t.texts t.are_parts ∙ ap (with_parts line no_parts) t.capitals ∙ t.read

  end_of-written : (end : End) → IsOneEnd end → end_of (until_of end) (count_of end) ≡ Ok end
  end_of-written Never h = refl
  end_of-written (Until kind at) h = refl
  end_of-written (Count n) h = refl
  end_of-written (Both kind at n) h = absurd h

  rule_with-written : rule_with rule.freq rule.end (all_parts rule) ≡ rule
  rule_with-written =
      ap (λ n. record rule { interval = n; week_start = unwrap_or (unless_usual 0 rule.week_start) 0 }) (unwrap-unless 1 rule.interval)
      ∙ ap (λ d. record rule { week_start = d }) (unwrap-unless 0 rule.week_start)

  rule_of-written : rule_of line (all_parts rule) ≡ Ok rule
  unfolding rule_of
  rule_of-written =
      ap (λ (m : Result End Refusal). m >>= judged) (end_of-written rule.end one)
      ∙ ap (λ (x : Rule). if is_allowed x then Ok x else Err NotAllowed) rule_with-written
      ∙ ap (λ (b : Bool). if b then Ok rule else Err NotAllowed) v.parts
    where
      judged : End → Result Rule Refusal
      judged end = if is_allowed (rule_with rule.freq end (all_parts rule)) then Ok (rule_with rule.freq end (all_parts rule)) else Err NotAllowed

  -- A written rule is read back, with its UNTIL beside it.
  pub stated_rule-written : stated_rule line (rule_text rule) ≡ Ok (record { rule = rule; until = until_of rule.end })
  unfolding stated_rule
  stated_rule-written =
      ap (λ (m : Result RuleParts Refusal). m >>= λ parts. rule_of line parts >>= λ x. Ok (record { rule = x; until = parts.until })) rule_parts-written
      ∙ ap (λ (m : Result Rule Refusal). m >>= λ x. Ok (record { rule = x; until = until_of rule.end })) rule_of-written

  -- its bytes stand in a line
  pub rule_text-bytes : list_all is_line_byte (rule_text rule) ≡ true
  rule_text-bytes = rule_text-parts.bytes
