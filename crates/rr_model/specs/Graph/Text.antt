-- What is written for a Graph pattern and range: compact JSON, member names in rising order of their bytes, and a line feed
-- (Microsoft Graph, recurrencePattern, recurrenceRange, event).
use Rattle.std.specs.Prelude.{ℕ, ◌==◌, Bool, true, false, if◌then◌else◌, ℤ, pos, negsuc, List, [], ◌∷◌, ◌++◌, codes, map}
use Rattle.std.specs.List.{filter}
use Rattle.serde_json.specs.Data.{Data, boolean, number, string, array, object, unsigned, Members, no_members, member}
use Rattle.serde_json.specs.View.{items_of}
use Rattle.serde_json.specs.Written.{compact_text}
use Rattle.rr_model.specs.Text.Moments.{extended_date_text, extended_text}
use Rattle.rr_model.specs.declared.kind.Kind.{Kind}
use Rattle.rr_model.specs.declared.kind.Kind.TheVariants.{Days, Moments}
use Rattle.rr_model.specs.Graph.Counterpart.{has_weekday}
use Rattle.rr_model.specs.Graph.Uses.{uses_days, uses_first_day, uses_index, uses_day_of_month, uses_month}
use Rattle.rr_model.specs.declared.graph.Form.{Form}
use Rattle.rr_model.specs.declared.graph.Form.TheVariants.{Daily, Weekly, AbsoluteMonthly, RelativeMonthly, AbsoluteYearly, RelativeYearly}
use Rattle.rr_model.specs.declared.graph.Pattern.{Pattern}
use Rattle.rr_model.specs.declared.graph.Range.{Range}
use Rattle.rr_model.specs.declared.graph.RangeEnd.TheVariants.{NoEnd, EndDate, Numbered}
use Rattle.rr_model.specs.declared.graph.RangeEnd.{RangeEnd}

-- the type of a pattern as it is written
unfoldable pub form_text : Form → List ℕ
form_text Daily = codes "daily"
form_text Weekly = codes "weekly"
form_text AbsoluteMonthly = codes "absoluteMonthly"
form_text RelativeMonthly = codes "relativeMonthly"
form_text AbsoluteYearly = codes "absoluteYearly"
form_text RelativeYearly = codes "relativeYearly"

-- a weekday, from 0 for Monday
unfoldable pub day_text : ℕ → List ℕ
day_text d =
    if d == 0 then codes "monday" else (if d == 1 then codes "tuesday" else (if d == 2 then codes "wednesday"
    else (if d == 3 then codes "thursday" else (if d == 4 then codes "friday" else (if d == 5 then codes "saturday" else codes "sunday")))))

-- an index as it is written
unfoldable pub index_text : ℤ → List ℕ
index_text (pos n) = if n == 1 then codes "first" else (if n == 2 then codes "second" else (if n == 3 then codes "third" else codes "fourth"))
index_text (negsuc n) = codes "last"

-- the names of the days, from Sunday to Saturday
abbrev pub day_names : ℕ → List (List ℕ)
day_names days = map day_text (filter (has_weekday days) (6 ∷ 0 ∷ 1 ∷ 2 ∷ 3 ∷ 4 ∷ 5 ∷ []))

-- a member before others, if it is written
abbrev pub member_if : Bool → List ℕ → Data → Members → Members
member_if true name value members = member name value members
member_if false name value members = members

-- a pattern with the members that its type uses, by name
abbrev pub pattern_data : Pattern → Data
pattern_data p = object
    (member_if (uses_day_of_month p.form) (codes "dayOfMonth") (number (unsigned p.day_of_month))
    (member_if (uses_days p.form) (codes "daysOfWeek") (array (items_of (map string (day_names p.days))))
    (member_if (uses_first_day p.form) (codes "firstDayOfWeek") (string (day_text p.first_day))
    (member_if (uses_index p.form) (codes "index") (string (index_text p.index))
    (member (codes "interval") (number (unsigned p.interval))
    (member_if (uses_month p.form) (codes "month") (number (unsigned p.month))
    (member (codes "type") (string (form_text p.form)) no_members)))))))

-- the members that every range has: `startDate` and `type`
abbrev pub start_and_type : ℤ → List ℕ → Members
start_and_type day type = member (codes "startDate") (string (extended_date_text day)) (member (codes "type") (string type) no_members)

-- a range with the members that its type uses, by name
abbrev pub range_data : RangeEnd → ℤ → Data
range_data NoEnd day = object (start_and_type day (codes "noEnd"))
range_data (EndDate last) day = object (member (codes "endDate") (string (extended_date_text last)) (start_and_type day (codes "endDate")))
range_data (Numbered n) day = object (member (codes "numberOfOccurrences") (number (unsigned n)) (start_and_type day (codes "numbered")))

-- a pattern and its range
abbrev pub recurrence_data : Pattern → Range → Data
recurrence_data pattern range =
    object (member (codes "pattern") (pattern_data pattern) (member (codes "range") (range_data range.end range.start_day) no_members))

-- a series of dates is the bare recurrence, and one of moments an event
abbrev pub event_data : Kind → ℤ → Pattern → Range → Data
event_data Days start pattern range = recurrence_data pattern range
event_data Moments start pattern range = object
    (member (codes "isAllDay") (boolean false) (member (codes "recurrence") (recurrence_data pattern range)
    (member (codes "start") (object (member (codes "dateTime") (string (extended_text Moments start)) no_members)) no_members)))

-- the text that is written, in one line
unfoldable pub graph_written : Kind → ℤ → Pattern → Range → List ℕ
graph_written kind start pattern range = compact_text (event_data kind start pattern range) ++ 10 ∷ []
