-- The JSON of each type of pattern, its members by name (Microsoft Graph, recurrencePattern), and of the start of an event.
use Rattle.std.specs.Prelude.{ℕ, ℤ, List, codes, map}
use Rattle.serde_json.specs.Data.{Data, Members, array, member, no_members, number, object, string, unsigned}
use Rattle.serde_json.specs.View.{items_of}
use Rattle.rr_model.specs.Graph.Text.{day_names, day_text, index_text}

-- ---- members, each before others

-- a member that is a number, before other members
abbrev pub number_member : List ℕ → ℕ → Members → Members
number_member name n members = member name (number (unsigned n)) members

-- a member that is a text, before other members
abbrev pub text_member : List ℕ → List ℕ → Members → Members
text_member name text members = member name (string text) members

-- the member `interval`, before other members
abbrev pub interval_member : ℕ → Members → Members
interval_member interval members = number_member (codes "interval") interval members

-- the member `daysOfWeek`, the names in a sum of days, before other members
abbrev pub days_member : ℕ → Members → Members
days_member days members = member (codes "daysOfWeek") (array (items_of (map string (day_names days)))) members

-- the member `type`, the last one
abbrev pub type_member : List ℕ → Members
type_member type = text_member (codes "type") type no_members

-- ---- patterns

-- a pattern of the type `daily`: days by their interval
abbrev pub daily_json : ℕ → Data
daily_json interval = object (interval_member interval (type_member (codes "daily")))

-- a pattern of the type `weekly`: days of the week, whose first day is given
abbrev pub weekly_json : ℕ → ℕ → ℕ → Data
weekly_json interval days first_day = object
    (days_member days (text_member (codes "firstDayOfWeek") (day_text first_day) (interval_member interval (type_member (codes "weekly")))))

-- a pattern of the type `absoluteMonthly`: a day of the month
abbrev pub absolute_monthly_json : ℕ → ℕ → Data
absolute_monthly_json interval day = object
    (number_member (codes "dayOfMonth") day (interval_member interval (type_member (codes "absoluteMonthly"))))

-- a pattern of the type `relativeMonthly`: the first, second, third, fourth or last of days of the week in a month
abbrev pub relative_monthly_json : ℕ → ℕ → ℤ → Data
relative_monthly_json interval days index = object
    (days_member days (text_member (codes "index") (index_text index) (interval_member interval (type_member (codes "relativeMonthly")))))

-- a pattern of the type `absoluteYearly`: a day of a month of the year
abbrev pub absolute_yearly_json : ℕ → ℕ → ℕ → Data
absolute_yearly_json interval day month = object
    (number_member (codes "dayOfMonth") day (interval_member interval (number_member (codes "month") month (type_member (codes "absoluteYearly")))))

-- a pattern of the type `relativeYearly`: the first, second, third, fourth or last of days of the week in a month of the year
abbrev pub relative_yearly_json : ℕ → ℕ → ℤ → ℕ → Data
relative_yearly_json interval days index month = object
    (days_member days (text_member (codes "index") (index_text index) (interval_member interval
    (number_member (codes "month") month (type_member (codes "relativeYearly"))))))

-- ---- the start of an event

-- the start of an event, in local time
abbrev pub start_json : Data → Data
start_json moment = object (member (codes "dateTime") moment no_members)
