-- The data that is written for a pattern and a range: it has no floats, and its text can be read back.
use Rattle.std.proofs.Common.{◌≡◌, ℕ, ◌^◌, ◌<◌, ◌≤◌, ◌==◌, Bool, true, false, if◌then◌else◌, ℤ, pos, negsuc, List, [], ◌∷◌, map, refl, arith}
use Rattle.std.specs.Prelude.{codes}
use Rattle.std.specs.Str.{IsUtf8}
use Rattle.std.proofs.lemmas.Str.{IsUtf8-from_ascii}
use Rattle.json.proofs.Printed.Utf8.{IsUtf8-are_ascii}
use Rattle.serde_json.specs.Data.{string, depth, items_depth}
use Rattle.serde_json.specs.View.{items_of}
use Rattle.serde_json.specs.Written.{has_float, items_have_float}
use Rattle.rr_model.specs.Moment.Years.{HasFourDigitYear, IsInYears}
use Rattle.rr_model.specs.Text.Moments.{extended_text}
use Rattle.rr_model.specs.Graph.Text.{form_text, day_text, index_text, day_names, pattern_data, range_data, recurrence_data, event_data}
use Rattle.rr_model.specs.Graph.Uses.{uses_day_of_month, uses_month, most_interval}
use Rattle.rr_model.specs.Graph.Validity.{LiesIfUsed, IsValidPattern, IsRangeEnd}
use Rattle.rr_model.specs.declared.graph.Form.{Form}
use Rattle.rr_model.specs.declared.graph.Form.TheVariants.{Daily, Weekly, AbsoluteMonthly, RelativeMonthly, AbsoluteYearly, RelativeYearly}
use Rattle.rr_model.specs.declared.graph.Pattern.{Pattern}
use Rattle.rr_model.specs.declared.graph.Range.{Range}
use Rattle.rr_model.specs.declared.graph.RangeEnd.{RangeEnd}
use Rattle.rr_model.specs.declared.graph.RangeEnd.TheVariants.{NoEnd, EndDate, Numbered}
use Rattle.rr_model.specs.declared.kind.Kind.{Kind}
use Rattle.rr_model.specs.declared.kind.Kind.TheVariants.{Days, Moments}
use Rattle.rr_text.proofs.WrittenExtendedLemmas.{IsAscii-extended_date_text, IsAscii-extended_text}
use Rattle.rr_graph.proofs.JsonTextLemmas.{IsWritable, AreWritableItems}
use Rattle.rr_graph.proofs.ReadBackLemmas.{made}

-- ---- floats

-- texts hold no float
has_float-strings : (names : List (List ℕ)) → items_have_float (items_of (map string names)) ≡ false
has_float-strings [] = refl
has_float-strings (name ∷ names) = has_float-strings names

has_float-made : (n day month days first : ℕ) (index : ℤ) (form : Form) → has_float (pattern_data (made form n day month days first index)) ≡ false
has_float-made n day month days first index Daily = refl
has_float-made n day month days first index Weekly = rw (has_float-strings (day_names days)) refl
has_float-made n day month days first index AbsoluteMonthly = refl
has_float-made n day month days first index RelativeMonthly = rw (has_float-strings (day_names days)) refl
has_float-made n day month days first index AbsoluteYearly = refl
has_float-made n day month days first index RelativeYearly = rw (has_float-strings (day_names days)) refl

has_float-pattern_data : (p : Pattern) → has_float (pattern_data p) ≡ false
has_float-pattern_data p = has_float-made p.interval p.day_of_month p.month p.days p.first_day p.index p.form

has_float-range_data : (end : RangeEnd) (day : ℤ) → has_float (range_data end day) ≡ false
has_float-range_data NoEnd day = refl
has_float-range_data (EndDate last) day = refl
has_float-range_data (Numbered n) day = refl

has_float-recurrence_data : (pattern : Pattern) (range : Range) → has_float (recurrence_data pattern range) ≡ false
has_float-recurrence_data pattern range = rw (has_float-pattern_data pattern, has_float-range_data range.end range.start_day) refl

pub has_float-event_data : (kind : Kind) (start : ℤ) (pattern : Pattern) (range : Range) → has_float (event_data kind start pattern range) ≡ false
has_float-event_data Days start pattern range = has_float-recurrence_data pattern range
has_float-event_data Moments start pattern range = rw (has_float-recurrence_data pattern range) refl

-- ---- texts

one_of : (b : Bool) (x y : List ℕ) → IsUtf8 x → IsUtf8 y → IsUtf8 (if b then x else y)
one_of true x y h k = h
one_of false x y h k = k

IsUtf8-day_text : (day : ℕ) → IsUtf8 (day_text day)
unfolding day_text
IsUtf8-day_text day =
    one_of (day == 0) _ _ (IsUtf8-are_ascii (codes "monday") refl) (one_of (day == 1) _ _ (IsUtf8-are_ascii (codes "tuesday") refl)
    (one_of (day == 2) _ _ (IsUtf8-are_ascii (codes "wednesday") refl) (one_of (day == 3) _ _ (IsUtf8-are_ascii (codes "thursday") refl)
    (one_of (day == 4) _ _ (IsUtf8-are_ascii (codes "friday") refl) (one_of (day == 5) _ _ (IsUtf8-are_ascii (codes "saturday") refl)
    (IsUtf8-are_ascii (codes "sunday") refl))))))

IsUtf8-index_text : (index : ℤ) → IsUtf8 (index_text index)
unfolding index_text
IsUtf8-index_text (pos n) =
    one_of (n == 1) _ _ (IsUtf8-are_ascii (codes "first") refl) (one_of (n == 2) _ _ (IsUtf8-are_ascii (codes "second") refl)
    (one_of (n == 3) _ _ (IsUtf8-are_ascii (codes "third") refl) (IsUtf8-are_ascii (codes "fourth") refl)))
IsUtf8-index_text (negsuc n) = IsUtf8-are_ascii (codes "last") refl

IsUtf8-form_text : (form : Form) → IsUtf8 (form_text form)
unfolding form_text
IsUtf8-form_text Daily = IsUtf8-are_ascii (codes "daily") refl
IsUtf8-form_text Weekly = IsUtf8-are_ascii (codes "weekly") refl
IsUtf8-form_text AbsoluteMonthly = IsUtf8-are_ascii (codes "absoluteMonthly") refl
IsUtf8-form_text RelativeMonthly = IsUtf8-are_ascii (codes "relativeMonthly") refl
IsUtf8-form_text AbsoluteYearly = IsUtf8-are_ascii (codes "absoluteYearly") refl
IsUtf8-form_text RelativeYearly = IsUtf8-are_ascii (codes "relativeYearly") refl

names_writable : (days : List ℕ) → AreWritableItems (items_of (map string (map day_text days)))
names_writable [] = tt
names_writable (day ∷ days) = (IsUtf8-day_text day, names_writable days)

-- ---- names of members

name_day_of_month : IsUtf8 (codes "dayOfMonth")
name_day_of_month = IsUtf8-are_ascii (codes "dayOfMonth") refl

name_days : IsUtf8 (codes "daysOfWeek")
name_days = IsUtf8-are_ascii (codes "daysOfWeek") refl

name_first : IsUtf8 (codes "firstDayOfWeek")
name_first = IsUtf8-are_ascii (codes "firstDayOfWeek") refl

name_index : IsUtf8 (codes "index")
name_index = IsUtf8-are_ascii (codes "index") refl

name_interval : IsUtf8 (codes "interval")
name_interval = IsUtf8-are_ascii (codes "interval") refl

name_month : IsUtf8 (codes "month")
name_month = IsUtf8-are_ascii (codes "month") refl

name_type : IsUtf8 (codes "type")
name_type = IsUtf8-are_ascii (codes "type") refl

-- ---- the pattern

module _ (n day month days first : ℕ) (index : ℤ) (fits : n < 2 ^ 64) where
  made_writable : (form : Form) → day < 2 ^ 64 → month < 2 ^ 64 → IsWritable (pattern_data (made form n day month days first index))
  made_writable Daily hd hm = (tt, name_interval, fits, ((refl, tt), name_type, IsUtf8-form_text Daily, tt))
  made_writable Weekly hd hm = (
    tt,
    name_days,
    names_writable _,
    (
      (refl, tt),
      name_first,
      IsUtf8-day_text first,
      ((refl, (refl, tt)), name_interval, fits, ((refl, (refl, (refl, tt))), name_type, IsUtf8-form_text Weekly, tt)),
    ),
  )
  made_writable AbsoluteMonthly hd hm =
      (tt, name_day_of_month, hd, ((refl, tt), name_interval, fits, ((refl, (refl, tt)), name_type, IsUtf8-form_text AbsoluteMonthly, tt)))
  made_writable RelativeMonthly hd hm = (
    tt,
    name_days,
    names_writable _,
    (
      (refl, tt),
      name_index,
      IsUtf8-index_text index,
      ((refl, (refl, tt)), name_interval, fits, ((refl, (refl, (refl, tt))), name_type, IsUtf8-form_text RelativeMonthly, tt)),
    ),
  )
  made_writable AbsoluteYearly hd hm = (
    tt,
    name_day_of_month,
    hd,
    (
      (refl, tt),
      name_interval,
      fits,
      ((refl, (refl, tt)), name_month, hm, ((refl, (refl, (refl, tt))), name_type, IsUtf8-form_text AbsoluteYearly, tt)),
    ),
  )
  made_writable RelativeYearly hd hm = (
    tt,
    name_days,
    names_writable _,
    (
      (refl, tt),
      name_index,
      IsUtf8-index_text index,
      (
        (refl, (refl, tt)),
        name_interval,
        fits,
        (
          (refl, (refl, (refl, tt))),
          name_month,
          hm,
          ((refl, (refl, (refl, (refl, tt)))), name_type, IsUtf8-form_text RelativeYearly, tt),
        ),
      ),
    ),
  )

small_interval : (form : Form) (n : ℕ) → n ≤ most_interval form → n < 2 ^ 64
small_interval Daily n h = omega (arith, h)
small_interval Weekly n h = omega (arith, h)
small_interval AbsoluteMonthly n h = omega (arith, h)
small_interval RelativeMonthly n h = omega (arith, h)
small_interval AbsoluteYearly n h = omega (arith, h)
small_interval RelativeYearly n h = omega (arith, h)

small_if_used : (b : Bool) (low high n : ℕ) → high < 2 ^ 64 → LiesIfUsed b low high 0 n → n < 2 ^ 64
small_if_used true low high n h lies = omega (arith, h, lies.1)
small_if_used false low high n h lies = omega (arith, lies)

pattern_writable : (p : Pattern) → IsValidPattern p → IsWritable (pattern_data p)
pattern_writable p v =
    made_writable p.interval p.day_of_month p.month p.days p.first_day p.index (small_interval p.form p.interval v.interval_high) p.form
    (small_if_used (uses_day_of_month p.form) 1 31 p.day_of_month (omega arith) v.day_of_month)
    (small_if_used (uses_month p.form) 1 12 p.month (omega arith) v.month)

-- ---- the range

name_start_date : IsUtf8 (codes "startDate")
name_start_date = IsUtf8-are_ascii (codes "startDate") refl

range_writable : (end : RangeEnd) (day : ℤ) → HasFourDigitYear day → IsRangeEnd end → IsWritable (range_data end day)
range_writable NoEnd day h e =
    (tt, name_start_date, IsUtf8-from_ascii _ (IsAscii-extended_date_text day h), ((refl, tt), name_type, IsUtf8-are_ascii (codes "noEnd") refl, tt))
range_writable (EndDate last) day h e = (
  tt,
  IsUtf8-are_ascii (codes "endDate") refl,
  IsUtf8-from_ascii _ (IsAscii-extended_date_text last e),
  (
    (refl, tt),
    name_start_date,
    IsUtf8-from_ascii _ (IsAscii-extended_date_text day h),
    ((refl, (refl, tt)), name_type, IsUtf8-are_ascii (codes "endDate") refl, tt),
  ),
)
range_writable (Numbered n) day h e = (
  tt,
  IsUtf8-are_ascii (codes "numberOfOccurrences") refl,
  omega (arith, e.1),
  (
    (refl, tt),
    name_start_date,
    IsUtf8-from_ascii _ (IsAscii-extended_date_text day h),
    ((refl, (refl, tt)), name_type, IsUtf8-are_ascii (codes "numbered") refl, tt),
  ),
)

-- ---- both, and the event

pub recurrence_writable : (pattern : Pattern) (range : Range) → IsValidPattern pattern → HasFourDigitYear range.start_day → IsRangeEnd range.end
    → IsWritable (recurrence_data pattern range)
recurrence_writable pattern range v h e = (
  tt,
  IsUtf8-are_ascii (codes "pattern") refl,
  pattern_writable pattern v,
  ((refl, tt), IsUtf8-are_ascii (codes "range") refl, range_writable range.end range.start_day h e, tt),
)

pub event_writable : (kind : Kind) (start : ℤ) (pattern : Pattern) (range : Range) → IsInYears kind start → IsValidPattern pattern
    → HasFourDigitYear range.start_day → IsRangeEnd range.end → IsWritable (event_data kind start pattern range)
event_writable Days start pattern range y v h e = recurrence_writable pattern range v h e
event_writable Moments start pattern range y v h e = (
  tt,
  IsUtf8-are_ascii (codes "isAllDay") refl,
  tt,
  (
    (refl, tt),
    IsUtf8-are_ascii (codes "recurrence") refl,
    recurrence_writable pattern range v h e,
    (
      (refl, (refl, tt)),
      IsUtf8-are_ascii (codes "start") refl,
      (tt, IsUtf8-are_ascii (codes "dateTime") refl, IsUtf8-from_ascii (extended_text Moments start) (IsAscii-extended_text Moments start y), tt),
      tt,
    ),
  ),
)

-- ---- nesting

depth-strings : (names : List (List ℕ)) → items_depth (items_of (map string names)) ≡ 0
depth-strings [] = refl
depth-strings (name ∷ names) = rw (depth-strings names) refl

depth-made : (n day month days first : ℕ) (index : ℤ) (form : Form) → depth (pattern_data (made form n day month days first index)) ≤ 2
depth-made n day month days first index Daily = omega arith
depth-made n day month days first index Weekly = omega (arith, depth-strings (day_names days))
depth-made n day month days first index AbsoluteMonthly = omega arith
depth-made n day month days first index RelativeMonthly = omega (arith, depth-strings (day_names days))
depth-made n day month days first index AbsoluteYearly = omega arith
depth-made n day month days first index RelativeYearly = omega (arith, depth-strings (day_names days))

depth-range_data : (end : RangeEnd) (day : ℤ) → depth (range_data end day) ≤ 1
depth-range_data NoEnd day = omega arith
depth-range_data (EndDate last) day = omega arith
depth-range_data (Numbered n) day = omega arith

depth-recurrence_data : (p : Pattern) (range : Range) → depth (recurrence_data p range) ≤ 3
depth-recurrence_data p range =
    let inner = depth-made p.interval p.day_of_month p.month p.days p.first_day p.index p.form in
    omega (arith, inner, depth-range_data range.end range.start_day)

pub depth-event_data : (kind : Kind) (start : ℤ) (pattern : Pattern) (range : Range) → depth (event_data kind start pattern range) ≤ 127
depth-event_data Days start pattern range = omega (arith, depth-recurrence_data pattern range)
depth-event_data Moments start pattern range = omega (arith, depth-recurrence_data pattern range)
