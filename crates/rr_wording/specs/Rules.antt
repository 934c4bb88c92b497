-- A rule in English (RFC 5545, section 3.3.10).
use Rattle.std.specs.Prelude.{ℕ, Bool, true, false, not, ◌&&◌, ◌||◌, ◌==◌, nat_lt, if◌then◌else◌, ℤ, List, [], ◌++◌, codes}
use Rattle.rr_model.specs.Calendar.{day_of_month, weekday_of}
use Rattle.rr_model.specs.Moment.{day_part}
use Rattle.rr_model.specs.Moment.Units.{is_whole_days}
use Rattle.rr_model.specs.Rule.Validity.{is_absent}
use Rattle.rr_model.specs.declared.kind.Kind.{Kind}
use Rattle.rr_model.specs.declared.kind.Kind.TheVariants.{Days, Moments}
use Rattle.rr_model.specs.declared.rule.End.{End}
use Rattle.rr_model.specs.declared.rule.End.TheVariants.{Never, Until, Count, Both}
use Rattle.rr_model.specs.declared.rule.Freq.{Freq}
use Rattle.rr_model.specs.declared.rule.Freq.TheVariants.{Secondly, Minutely, Hourly, Daily, Weekly, Monthly, Yearly}
use Rattle.rr_model.specs.declared.rule.Rule.{Rule}
use Rattle.rr_wording.specs.Dates.{at_time, day_and_month, moment_words, weekday_name}
use Rattle.rr_wording.specs.Days.{day_words, is_yearly}
use Rattle.rr_wording.specs.Numbers.{counted, ordinal}
use Rattle.rr_wording.specs.Parts.{part_words}
use Rattle.rr_wording.specs.declared.part.Part.{Part}
use Rattle.rr_wording.specs.declared.part.Part.TheVariants as part

-- ---- how often

-- a unit
unfoldable pub unit_word : Freq → List ℕ
unit_word Secondly = codes "second"
unit_word Minutely = codes "minute"
unit_word Hourly = codes "hour"
unit_word Daily = codes "day"
unit_word Weekly = codes "week"
unit_word Monthly = codes "month"
unit_word Yearly = codes "year"

-- FREQ and INTERVAL: every week, every 2 weeks
unfoldable pub every_words : Freq → ℕ → List ℕ
every_words freq interval =
    codes "every " ++ (if interval == 1 then unit_word freq else counted interval (unit_word freq))

-- ---- on which days

-- no part names a day
unfoldable pub is_plain : Rule → Bool
is_plain rule =
    is_absent rule.by_month && is_absent rule.by_week_no && is_absent rule.by_year_day && is_absent rule.by_month_day && is_absent rule.by_day

-- the day that a rule without such parts takes from its start
unfoldable pub day_of_start : Freq → ℤ → List ℕ
day_of_start Weekly day = codes " on " ++ weekday_name (weekday_of day)
day_of_start Monthly day = codes " on the " ++ ordinal (day_of_month day)
day_of_start Yearly day = codes " on " ++ day_and_month day
day_of_start freq day = []

-- BYMONTHDAY names days of each month, limits the days that BYYEARDAY names, or names days of the months that are said
unfoldable pub month_day_part : Rule → Part
month_day_part rule =
    if not (is_absent rule.by_year_day) then part.OnlyMonthDay
    else (if is_yearly rule.freq && is_absent rule.by_month then part.EveryMonthDay else part.MonthDay)

-- the days of a rule with such parts
unfoldable pub days_by_parts : Rule → List ℕ
days_by_parts rule =
    part_words part.Month rule.by_month ++ part_words part.Week rule.by_week_no ++ part_words part.YearDay rule.by_year_day
    ++ part_words (month_day_part rule) rule.by_month_day ++ day_words rule

-- the days of a rule
unfoldable pub days_words : Rule → ℤ → List ℕ
days_words rule day = if is_plain rule then day_of_start rule.freq day else days_by_parts rule

-- ---- at which times

-- some part names a time
unfoldable pub has_time_part : Rule → Bool
has_time_part rule = not (is_absent rule.by_hour && is_absent rule.by_minute && is_absent rule.by_second)

-- the start's time is the only one of each day, and is said with the rule
unfoldable pub says_time : Rule → Bool
says_time rule = is_whole_days rule.freq && not (has_time_part rule)

-- BYHOUR, BYMINUTE and BYSECOND
unfoldable pub times_by_parts : Rule → List ℕ
times_by_parts rule = part_words part.Hour rule.by_hour ++ part_words part.Minute rule.by_minute ++ part_words part.Second rule.by_second

-- the times of a rule; dates have none, whatever the rule says
unfoldable pub times_words : Rule → Kind → ℤ → List ℕ
times_words rule Days start = []
times_words rule Moments start = if says_time rule then at_time Moments start else times_by_parts rule

-- ---- the whole rule

-- a rule of weeks
unfoldable pub is_weekly : Freq → Bool
is_weekly Weekly = true
is_weekly freq = false

-- it matters on which weekday weeks begin: weeks are numbered, passed over, or have positions
unfoldable pub has_week_start : Rule → Bool
has_week_start rule =
    not (is_absent rule.by_week_no) || (is_weekly rule.freq && (nat_lt 1 rule.interval || not (is_absent rule.by_set_pos)))

-- on which weekday weeks begin
unfoldable pub weeks_from : ℕ → List ℕ
weeks_from weekday = codes ", weeks beginning on " ++ weekday_name weekday

-- WKST, if it matters
unfoldable pub week_start_words : Rule → List ℕ
week_start_words rule = if has_week_start rule then weeks_from rule.week_start else []

-- a rule without its end
unfoldable pub rule_words : Rule → Kind → ℤ → List ℕ
rule_words rule kind start =
    every_words rule.freq rule.interval ++ days_words rule (day_part kind start) ++ times_words rule kind start
    ++ part_words part.Position rule.by_set_pos ++ week_start_words rule

-- UNTIL
unfoldable pub until_words : Kind → ℤ → List ℕ
until_words kind at = codes ", until " ++ moment_words kind at

-- UNTIL and COUNT
unfoldable pub end_words : End → List ℕ
end_words Never = []
end_words (Until kind at) = until_words kind at
end_words (Count n) = codes ", " ++ counted n (codes "time")
end_words (Both kind at n) = until_words kind at ++ codes ", at most " ++ counted n (codes "time")
