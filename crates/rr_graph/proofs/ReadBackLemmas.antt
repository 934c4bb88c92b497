-- What is written for a pattern and a range is read back (Microsoft Graph, recurrencePattern, recurrenceRange).
use Rattle.std.proofs.Common.{◌≡◌, ℕ, zero, suc, ◌<◌, ◌≤◌, ◌==◌, ◌&&◌, nat_le, bit_or, cond, Bool, true, false, List, [], ◌∷◌, map}
use Rattle.std.proofs.Common.{Option, Some, Result, Ok, option_and_then, refl, sym, ap, ◌∙◌, inl, inr, ℤ, pos, negsuc, arith}
use Rattle.std.specs.Prelude.{codes, ok_or}
use Rattle.std.specs.List.{AllByRecursion, filter}
use Rattle.std.proofs.lemmas.Bool.{le-leb, and_parts}
use Rattle.std.proofs.lemmas.Bool.Decides.{nat_tests}
use Rattle.std.proofs.lemmas.Int.{ints}
use Rattle.serde_json.specs.Data.{Data, Items, no_items, item, string}
use Rattle.serde_json.specs.View.{items_of}
use Rattle.rr_model.specs.Moment.Years.{HasFourDigitYear}
use Rattle.rr_model.specs.Text.RuleValues.{◌>>=◌}
use Rattle.rr_model.specs.Graph.Counterpart.{has_weekday}
use Rattle.rr_model.specs.Graph.Members.{object_in, text_in, number_in, number_in_bounds, form_named, day_named, index_named}
use Rattle.rr_model.specs.Graph.Reading.{if_used, form_in, interval_within, interval_in, days_after, days_of_names, days_in, first_day_in, index_in, pattern_of}
use Rattle.rr_model.specs.Graph.Reading.{EndType, no_end, end_date, numbered, end_type_named, date_in, end_in, range_of, Recurrence, recurrence_of}
use Rattle.rr_model.specs.Graph.Text.{form_text, day_text, index_text, day_names, pattern_data, range_data, recurrence_data}
use Rattle.rr_model.specs.Graph.Uses.{bit_of, uses_days, uses_first_day, uses_index, uses_day_of_month, uses_month, most_interval}
use Rattle.rr_model.specs.Graph.Validity.{LiesIfUsed, IsIndex, IsValidPattern, IsRangeEnd}
use Rattle.rr_model.specs.declared.graph.Form.{Form}
use Rattle.rr_model.specs.declared.graph.Form.TheVariants.{Daily, Weekly, AbsoluteMonthly, RelativeMonthly, AbsoluteYearly, RelativeYearly}
use Rattle.rr_model.specs.declared.graph.Pattern.{Pattern}
use Rattle.rr_model.specs.declared.graph.Range.{Range}
use Rattle.rr_model.specs.declared.graph.RangeEnd.{RangeEnd}
use Rattle.rr_model.specs.declared.graph.RangeEnd.TheVariants.{NoEnd, EndDate, Numbered}
use Rattle.rr_model.specs.declared.refusal.Member.{Member}
use Rattle.rr_model.specs.declared.refusal.Member.TheVariants as of
use Rattle.rr_model.specs.declared.refusal.Refusal.{Refusal}
use Rattle.rr_model.specs.declared.refusal.Refusal.TheVariants.{BadMember}
use Rattle.rr_text.proofs.WrittenExtendedLemmas.{extended_date-written}
use Rattle.rr_text.proofs.StepLemmas.{result_ok}

-- ---- steps

pub next : {A B : Type 0} (m : Result A Refusal) (x : A) (f : A → Result B Refusal) (r : Result B Refusal) → m ≡ Ok x → f x ≡ r → m >>= f ≡ r
next {A} m x f r e h = ap (λ (o : Result A Refusal). o >>= f) e ∙ h

abbrev some_or : {A : Type 0} → Member → Option A → Result A Refusal
some_or member o = ok_or o (BadMember member)

-- ---- numbers

within-ok : (member : Member) (least most n : ℕ) → least ≤ n → n ≤ most → number_in_bounds member least most (Some n) ≡ Ok n
within-ok member least most n l h = rw (le-leb least n l, le-leb n most h) refl

interval-ok : (form : Form) (n : ℕ) → 1 ≤ n → n ≤ most_interval form → interval_within form (Some n) ≡ Ok n
interval-ok form n l h =
    let some : nat_le n 0 ≡ false = grind (arith, nat_tests, l) in
    rw (some, le-leb n (most_interval form) h) refl

-- ---- days

pub day_named-day_text : (weekday : ℕ) → weekday < 7 → day_named (day_text weekday) ≡ Some weekday
unfolding day_named day_text
day_named-day_text zero h = refl
day_named-day_text (suc zero) h = refl
day_named-day_text (suc (suc zero)) h = refl
day_named-day_text (suc (suc (suc zero))) h = refl
day_named-day_text (suc (suc (suc (suc zero)))) h = refl
day_named-day_text (suc (suc (suc (suc (suc zero))))) h = refl
day_named-day_text (suc (suc (suc (suc (suc (suc zero)))))) h = refl
day_named-day_text (suc (suc (suc (suc (suc (suc (suc k))))))) h = absurd (omega arith)

-- the sum with the days of these weekdays
abbrev summed : ℕ → List ℕ → ℕ
summed sum [] = sum
summed sum (weekday ∷ weekdays) = summed (bit_or sum (bit_of weekday)) weekdays

abbrev IsWeekday : ℕ → Type 0
IsWeekday weekday = weekday < 7

-- the names of weekdays give their sum
days_after-names : (sum : ℕ) (weekdays : List ℕ) → AllByRecursion IsWeekday weekdays
    → days_after sum (items_of (map string (map day_text weekdays))) ≡ Some (summed sum weekdays)
days_after-names sum [] h = refl
days_after-names sum (weekday ∷ weekdays) h =
    ap (option_and_then (λ (day : ℕ). days_after (bit_or sum (bit_of day)) (items_of (map string (map day_text weekdays)))))
    (day_named-day_text weekday h.0)
    ∙ days_after-names (bit_or sum (bit_of weekday)) weekdays h.1

few-filter : (test : ℕ → Bool) (weekdays : List ℕ) → AllByRecursion IsWeekday weekdays → AllByRecursion IsWeekday (filter test weekdays)
few-filter test [] h = tt
few-filter test (weekday ∷ weekdays) h =
    elim (test weekday) as (λ (b : Bool). AllByRecursion IsWeekday (cond b (weekday ∷ filter test weekdays) (filter test weekdays))) [
      | true ↦ (h.0, few-filter test weekdays h.1)
      | false ↦ few-filter test weekdays h.1
    ]

abbrev all_weekdays : List ℕ
all_weekdays = 6 ∷ 0 ∷ 1 ∷ 2 ∷ 3 ∷ 4 ∷ 5 ∷ []

-- the weekdays of a sum of days have that sum
abbrev is_their_sum : ℕ → Bool
is_their_sum days = summed 0 (filter (has_weekday days) all_weekdays) == days

-- each number below a bound passes
abbrev all_below : (ℕ → Bool) → ℕ → Bool
all_below test zero = true
all_below test (suc n) = test n && all_below test n

below-passes : (test : ℕ → Bool) (n k : ℕ) → all_below test n ≡ true → k < n → test k ≡ true
below-passes test zero k h l = absurd (omega arith)
below-passes test (suc n) k h l =
    let p = and_parts (test n) (all_below test n) h in
    elim (k == n) as (λ (b : Bool). (k == n) ≡ b → test k ≡ true) [
      | true ↦ λ e. (let same : k ≡ n = grind (arith, nat_tests, e) in ap test same ∙ p.0)
      | false ↦ λ e. below-passes test n k p.1 (grind (arith, nat_tests, e, l))
    ] refl

summed-weekdays : (days : ℕ) → days ≤ 127 → summed 0 (filter (has_weekday days) all_weekdays) ≡ days
summed-weekdays days h =
    let passes : is_their_sum days ≡ true = below-passes is_their_sum 128 days refl (omega (arith, h)) in
    grind (arith, nat_tests, passes)

some-names : (names : Items) (n : ℕ) → 1 ≤ n → days_after 0 names ≡ Some n → days_of_names names ≡ Some n
some-names no_items n l h =
    let same : 0 ≡ n = cc in
    absurd (omega (arith, l, same))
some-names (item name names) n l h = h

-- a sum of days is read back from its names
pub day_names-read : (days : ℕ) → 1 ≤ days → days ≤ 127 → days_of_names (items_of (map string (day_names days))) ≡ Some days
day_names-read days l h =
    let all : AllByRecursion IsWeekday all_weekdays = (
      omega arith,
      (omega arith, (omega arith, (omega arith, (omega arith, (omega arith, (omega arith, tt)))))),
    ) in
    some-names (items_of (map string (day_names days))) days l
    (days_after-names 0 (filter (has_weekday days) all_weekdays) (few-filter (has_weekday days) all_weekdays all) ∙ ap Some (summed-weekdays days h))

-- ---- the index

pub index_named-index_text : (index : ℤ) → IsIndex true index → index_named (index_text index) ≡ Some index
unfolding index_named index_text
index_named-index_text (pos zero) (inl h) = absurd (omega (arith, ints, h.0))
index_named-index_text (pos zero) (inr e) = absurd (omega (arith, ints, e))
index_named-index_text (pos (suc zero)) h = refl
index_named-index_text (pos (suc (suc zero))) h = refl
index_named-index_text (pos (suc (suc (suc zero)))) h = refl
index_named-index_text (pos (suc (suc (suc (suc zero))))) h = refl
index_named-index_text (pos (suc (suc (suc (suc (suc n)))))) (inl h) = absurd (omega (arith, ints, h.1))
index_named-index_text (pos (suc (suc (suc (suc (suc n)))))) (inr e) = absurd (omega (arith, ints, e))
index_named-index_text (negsuc zero) h = refl
index_named-index_text (negsuc (suc n)) (inl h) = absurd (omega (arith, ints, h.0))
index_named-index_text (negsuc (suc n)) (inr e) = absurd (omega (arith, ints, e))

-- ---- the members of a pattern

abbrev pub made : Form → ℕ → ℕ → ℕ → ℕ → ℕ → ℤ → Pattern
made form n day month days first index =
    record { form = form; interval = n; day_of_month = day; month = month; days = days; first_day = first; index = index }

module _ (n day month days first : ℕ) (index : ℤ) where
  form-read : (form : Form) → form_in (pattern_data (made form n day month days first index)) ≡ Ok form
  unfolding form_in form_named form_text
  form-read Daily = refl
  form-read Weekly = refl
  form-read AbsoluteMonthly = refl
  form-read RelativeMonthly = refl
  form-read AbsoluteYearly = refl
  form-read RelativeYearly = refl

  interval-read : (form : Form) → 1 ≤ n → n ≤ most_interval form → interval_in form (pattern_data (made form n day month days first index)) ≡ Ok n
  unfolding interval_in
  interval-read Daily l h = interval-ok Daily n l h
  interval-read Weekly l h = interval-ok Weekly n l h
  interval-read AbsoluteMonthly l h = interval-ok AbsoluteMonthly n l h
  interval-read RelativeMonthly l h = interval-ok RelativeMonthly n l h
  interval-read AbsoluteYearly l h = interval-ok AbsoluteYearly n l h
  interval-read RelativeYearly l h = interval-ok RelativeYearly n l h

  days-read : (form : Form) → LiesIfUsed (uses_days form) 1 127 0 days
      → if_used (uses_days form) 0 (days_in (pattern_data (made form n day month days first index))) ≡ Ok days
  unfolding days_in
  days-read Daily h = ap result_ok (sym h)
  days-read Weekly h = ap (some_or of.DaysOfWeek) (day_names-read days h.0 h.1)
  days-read AbsoluteMonthly h = ap result_ok (sym h)
  days-read RelativeMonthly h = ap (some_or of.DaysOfWeek) (day_names-read days h.0 h.1)
  days-read AbsoluteYearly h = ap result_ok (sym h)
  days-read RelativeYearly h = ap (some_or of.DaysOfWeek) (day_names-read days h.0 h.1)

  first_day-read : (form : Form) → LiesIfUsed (uses_first_day form) 0 6 6 first
      → if_used (uses_first_day form) 6 (first_day_in (pattern_data (made form n day month days first index))) ≡ Ok first
  unfolding first_day_in
  first_day-read Daily h = ap result_ok (sym h)
  first_day-read Weekly h = ap (some_or of.FirstDayOfWeek) (day_named-day_text first (omega (arith, h.1)))
  first_day-read AbsoluteMonthly h = ap result_ok (sym h)
  first_day-read RelativeMonthly h = ap result_ok (sym h)
  first_day-read AbsoluteYearly h = ap result_ok (sym h)
  first_day-read RelativeYearly h = ap result_ok (sym h)

  index-read : (form : Form) → IsIndex (uses_index form) index
      → if_used (uses_index form) (pos 1) (index_in (pattern_data (made form n day month days first index))) ≡ Ok index
  unfolding index_in
  index-read Daily h = ap result_ok (sym h)
  index-read Weekly h = ap result_ok (sym h)
  index-read AbsoluteMonthly h = ap result_ok (sym h)
  index-read RelativeMonthly h = ap (some_or of.Index) (index_named-index_text index h)
  index-read AbsoluteYearly h = ap result_ok (sym h)
  index-read RelativeYearly h = ap (some_or of.Index) (index_named-index_text index h)

  day-read : (form : Form) → LiesIfUsed (uses_day_of_month form) 1 31 0 day
      → if_used (uses_day_of_month form) 0
      (number_in_bounds of.DayOfMonth 1 31 (number_in (codes "dayOfMonth") (pattern_data (made form n day month days first index)))) ≡ Ok day
  day-read Daily h = ap result_ok (sym h)
  day-read Weekly h = ap result_ok (sym h)
  day-read AbsoluteMonthly h = within-ok of.DayOfMonth 1 31 day h.0 h.1
  day-read RelativeMonthly h = ap result_ok (sym h)
  day-read AbsoluteYearly h = within-ok of.DayOfMonth 1 31 day h.0 h.1
  day-read RelativeYearly h = ap result_ok (sym h)

  month-read : (form : Form) → LiesIfUsed (uses_month form) 1 12 0 month
      → if_used (uses_month form) 0 (number_in_bounds of.Month 1 12 (number_in (codes "month") (pattern_data (made form n day month days first index)))) ≡ Ok month
  month-read Daily h = ap result_ok (sym h)
  month-read Weekly h = ap result_ok (sym h)
  month-read AbsoluteMonthly h = ap result_ok (sym h)
  month-read RelativeMonthly h = ap result_ok (sym h)
  month-read AbsoluteYearly h = within-ok of.Month 1 12 month h.0 h.1
  month-read RelativeYearly h = within-ok of.Month 1 12 month h.0 h.1

-- a pattern is what its members are
pattern-members : (value : Data) (p : Pattern) → form_in value ≡ Ok p.form → interval_in p.form value ≡ Ok p.interval
    → if_used (uses_days p.form) 0 (days_in value) ≡ Ok p.days
    → if_used (uses_first_day p.form) 6 (first_day_in value) ≡ Ok p.first_day
    → if_used (uses_index p.form) (pos 1) (index_in value) ≡ Ok p.index
    → if_used (uses_day_of_month p.form) 0 (number_in_bounds of.DayOfMonth 1 31 (number_in (codes "dayOfMonth") value)) ≡ Ok p.day_of_month
    → if_used (uses_month p.form) 0 (number_in_bounds of.Month 1 12 (number_in (codes "month") value)) ≡ Ok p.month
    → pattern_of value ≡ Ok p
unfolding pattern_of
pattern-members value p form interval days first index day month =
    next (form_in value) p.form _ (Ok p) form (next (interval_in p.form value) p.interval _ (Ok p) interval
    (next (if_used (uses_days p.form) 0 (days_in value)) p.days _ (Ok p) days
    (next (if_used (uses_first_day p.form) 6 (first_day_in value)) p.first_day _ (Ok p) first
    (next (if_used (uses_index p.form) (pos 1) (index_in value)) p.index _ (Ok p) index
    (next (if_used (uses_day_of_month p.form) 0 (number_in_bounds of.DayOfMonth 1 31 (number_in (codes "dayOfMonth") value))) p.day_of_month _ (Ok p) day
    (next (if_used (uses_month p.form) 0 (number_in_bounds of.Month 1 12 (number_in (codes "month") value))) p.month _ (Ok p) month refl))))))

-- A valid pattern is read back.
pub pattern-written : (p : Pattern) → IsValidPattern p → pattern_of (pattern_data p) ≡ Ok p
pattern-written p v =
    pattern-members (pattern_data p) p (form-read p.interval p.day_of_month p.month p.days p.first_day p.index p.form)
    (interval-read p.interval p.day_of_month p.month p.days p.first_day p.index p.form v.interval_low v.interval_high)
    (days-read p.interval p.day_of_month p.month p.days p.first_day p.index p.form v.days)
    (first_day-read p.interval p.day_of_month p.month p.days p.first_day p.index p.form v.first_day)
    (index-read p.interval p.day_of_month p.month p.days p.first_day p.index p.form v.index)
    (day-read p.interval p.day_of_month p.month p.days p.first_day p.index p.form v.day_of_month)
    (month-read p.interval p.day_of_month p.month p.days p.first_day p.index p.form v.month)

-- ---- the range

-- a range is what its members are
range-members : (value : Data) (type : EndType) (range : Range)
    → ok_or (option_and_then end_type_named (text_in (codes "type") value)) (BadMember of.RangeType) ≡ Ok type
    → date_in of.StartDate (codes "startDate") value ≡ Ok range.start_day
    → end_in type value ≡ Ok range.end
    → range_of value ≡ Ok range
unfolding range_of
range-members value type range named start end =
    next (ok_or (option_and_then end_type_named (text_in (codes "type") value)) (BadMember of.RangeType)) type _ (Ok range) named
    (next (date_in of.StartDate (codes "startDate") value) range.start_day _ (Ok range) start (next (end_in type value) range.end _ (Ok range) end refl))

abbrev ending : RangeEnd → ℤ → Range
ending end day = record { start_day = day; end = end }

-- A valid range is read back.
pub range-written : (end : RangeEnd) (day : ℤ) → HasFourDigitYear day → IsRangeEnd end
    → range_of (range_data end day) ≡ Ok (record { start_day = day; end = end })
unfolding end_type_named
range-written NoEnd day h e =
    range-members (range_data NoEnd day) no_end (ending NoEnd day) refl (ap (some_or of.StartDate) (extended_date-written day h)) refl
range-written (EndDate last) day h e =
    let value = range_data (EndDate last) day in
    let found : end_in end_date value ≡ Ok (EndDate last) =
    next (date_in of.EndDate (codes "endDate") value) last (λ (d : ℤ). Ok (EndDate d)) (Ok (EndDate last))
    (ap (some_or of.EndDate) (extended_date-written last e)) refl in
    range-members value end_date (ending (EndDate last) day) refl (ap (some_or of.StartDate) (extended_date-written day h)) found
range-written (Numbered n) day h e =
    let value = range_data (Numbered n) day in
    let found : end_in numbered value ≡ Ok (Numbered n) =
    next (number_in_bounds of.NumberOfOccurrences 1 18_446_744_073_709_551_615 (number_in (codes "numberOfOccurrences") value)) n (λ (m : ℕ). Ok (Numbered m))
    (Ok (Numbered n)) (within-ok of.NumberOfOccurrences 1 18_446_744_073_709_551_615 n e.0 e.1) refl in
    range-members value numbered (ending (Numbered n) day) refl (ap (some_or of.StartDate) (extended_date-written day h)) found

-- ---- both

range-found : (pattern : Pattern) (end : RangeEnd) (day : ℤ)
    → object_in of.Range (codes "range") (recurrence_data pattern (record { start_day = day; end = end })) ≡ Ok (range_data end day)
range-found pattern NoEnd day = refl
range-found pattern (EndDate last) day = refl
range-found pattern (Numbered n) day = refl

-- a recurrence is what its members are
recurrence-members : (value pattern range : Data) (whole : Recurrence) → object_in of.Pattern (codes "pattern") value ≡ Ok pattern
    → object_in of.Range (codes "range") value ≡ Ok range
    → pattern_of pattern ≡ Ok whole.pattern
    → range_of range ≡ Ok whole.range
    → recurrence_of value ≡ Ok whole
unfolding recurrence_of
recurrence-members value pattern range whole p r pattern_is range_is =
    next (object_in of.Pattern (codes "pattern") value) pattern _ (Ok whole) p
    (next (object_in of.Range (codes "range") value) range _ (Ok whole) r
    (next (pattern_of pattern) whole.pattern _ (Ok whole) pattern_is (next (range_of range) whole.range _ (Ok whole) range_is refl)))

-- A valid pattern and a valid range are read back.
pub recurrence-written : (pattern : Pattern) (range : Range) → IsValidPattern pattern → HasFourDigitYear range.start_day → IsRangeEnd range.end
    → recurrence_of (recurrence_data pattern range) ≡ Ok (record { pattern = pattern; range = range })
recurrence-written pattern range v h e =
    recurrence-members (recurrence_data pattern range) (pattern_data pattern) (range_data range.end range.start_day)
    (record { pattern = pattern; range = range }) refl (range-found pattern range.end range.start_day) (pattern-written pattern v)
    (range-written range.end range.start_day h e)
