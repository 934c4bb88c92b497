-- Which members a type of pattern uses, and the power of 2 of a weekday (Microsoft Graph, recurrencePattern).
use Rattle.std.specs.Prelude.{ℕ, ◌+◌, ◌^◌, ◌%◌, Bool, true, false}
use Rattle.rr_model.specs.declared.graph.Form.{Form}
use Rattle.rr_model.specs.declared.graph.Form.TheVariants.{Daily, Weekly, AbsoluteMonthly, RelativeMonthly, AbsoluteYearly, RelativeYearly}

-- the power of 2 that stands for a weekday: 1 for Sunday, 2 for Monday, up to 64 for Saturday
abbrev pub bit_of : ℕ → ℕ
bit_of weekday = 2 ^ ((weekday + 1) % 7)

-- daysOfWeek is used
abbrev pub uses_days : Form → Bool
uses_days Weekly = true
uses_days RelativeMonthly = true
uses_days RelativeYearly = true
uses_days form = false

-- firstDayOfWeek is used
abbrev pub uses_first_day : Form → Bool
uses_first_day Weekly = true
uses_first_day form = false

-- index is used
abbrev pub uses_index : Form → Bool
uses_index RelativeMonthly = true
uses_index RelativeYearly = true
uses_index form = false

-- dayOfMonth is used
abbrev pub uses_day_of_month : Form → Bool
uses_day_of_month AbsoluteMonthly = true
uses_day_of_month AbsoluteYearly = true
uses_day_of_month form = false

-- month is used
abbrev pub uses_month : Form → Bool
uses_month AbsoluteYearly = true
uses_month RelativeYearly = true
uses_month form = false

-- the greatest interval of a type
abbrev pub most_interval : Form → ℕ
most_interval Daily = 999
most_interval Weekly = 999
most_interval form = 99
