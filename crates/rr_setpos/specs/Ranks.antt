-- The rank of a moment among the candidates of its unit, counted over days and times (RFC 5545, section 3.3.10, BYSETPOS).
use Rattle.std.specs.Prelude.{◌≡◌, ℕ, ◌+◌, ◌-◌, ◌*◌, ◌/◌, ◌%◌, Bool, true, ◌&&◌, ◌||◌, IsTrue, if◌then◌else◌, ℤ, pos, neg_ℤ, nat_abs, ◌+ℤ◌, ◌-ℤ◌}
use Rattle.rr_model.specs.Whole.Count.{count_from}
use Rattle.rr_model.specs.Moment.{day_part, second_part}
use Rattle.rr_model.specs.Moment.Units.{unit_number, unit_start, is_whole_days, unit_seconds}
use Rattle.rr_model.specs.Rule.Filled.{filled_rule, wants_hour, wants_minute, wants_second}
use Rattle.rr_model.specs.Rule.Validity.{is_absent, takes_start}
use Rattle.rr_model.specs.Rule.Candidate.{lists, date_parts_hold, is_candidate}
use Rattle.rr_model.specs.Rule.Chosen.{unit_begin, unit_end, position_from_front, position_from_back, by_set_pos_holds}
use Rattle.rr_model.specs.declared.kind.Kind.{Kind}
use Rattle.rr_model.specs.declared.kind.Kind.TheVariants.{Days}
use Rattle.rr_model.specs.declared.rule.Rule.{Rule}
use Rattle.rr_model.specs.Rule.DaysAndTimes.{seconds_of, time_holds}
use Rattle.rr_model.specs.Sets.Counting.{count_seconds}
use Rattle.rr_parts.specs.Numbers.{number_allowed}
use Rattle.rr_parts.specs.declared.moment.Moment.{Moment}
use Rattle.rr_parts.specs.declared.times.Time.{Time}

-- how many seconds of a day below n the time parts allow
abbrev pub times_before : Rule → Kind → ℤ → ℕ → ℕ
times_before rule kind start n = count_seconds (λ s. time_holds rule kind start s) n

-- how many times a day has: the seconds that the time parts allow
abbrev pub times_per_day : Rule → Kind → ℤ → ℕ
times_per_day rule kind start = times_before rule kind start (seconds_of kind)

-- how many of n days from the first on the date parts allow
abbrev pub days_among : Rule → ℤ → ℤ → ℕ → ℕ
days_among rule start_day first n = count_from (λ d. date_parts_hold (filled_rule rule Days start_day) d) first n

-- the first day of the unit of a day
abbrev pub first_of_unit : Rule → ℤ → ℤ
first_of_unit rule day = unit_start rule.freq rule.week_start Days (unit_number rule.freq rule.week_start Days day)

-- the first day of the unit after the unit of a day
abbrev pub next_of_unit : Rule → ℤ → ℤ
next_of_unit rule day = unit_start rule.freq rule.week_start Days (unit_number rule.freq rule.week_start Days day +ℤ pos 1)

-- how many days that the date parts allow lie in the day's unit before it
abbrev pub days_before : Rule → ℤ → ℤ → ℕ
days_before rule start_day day = days_among rule start_day (first_of_unit rule day) (nat_abs (day -ℤ first_of_unit rule day))

-- how many days that the date parts allow lie in the day's whole unit
abbrev pub days_of_unit : Rule → ℤ → ℤ → ℕ
days_of_unit rule start_day day = days_among rule start_day (first_of_unit rule day) (nat_abs (next_of_unit rule day -ℤ first_of_unit rule day))

-- how many candidates of its unit come before a candidate
abbrev pub rank_in_unit : Rule → Kind → ℤ → ℤ → ℕ
rank_in_unit rule kind start t = count_from (is_candidate rule kind start) (unit_begin rule kind t) (nat_abs (t -ℤ unit_begin rule kind t))

-- how many candidates the unit has
abbrev pub size_of_unit : Rule → Kind → ℤ → ℤ → ℕ
size_of_unit rule kind start t = count_from (is_candidate rule kind start) (unit_begin rule kind t) (nat_abs (unit_end rule kind t -ℤ unit_begin rule kind t))

-- the second of a day at which the unit of a second begins, if units are shorter than a day
abbrev pub begin_in_day : Rule → ℕ → ℕ
begin_in_day rule second = second / unit_seconds rule.freq * unit_seconds rule.freq

-- how many candidates of its unit come before a moment; in a unit of whole days those on the days before, each with all its
-- times, and those before it on its own day
abbrev pub rank_by_parts : Rule → Kind → ℤ → ℤ → ℕ
rank_by_parts rule kind start t =
    if is_whole_days rule.freq
    then days_before rule (day_part kind start) (day_part kind t) * times_before rule kind start (seconds_of kind)
    + times_before rule kind start (second_part kind t)
    else times_before rule kind start (second_part kind t) - times_before rule kind start (begin_in_day rule (second_part kind t))

-- how many candidates the unit has, by days and by times
abbrev pub size_by_parts : Rule → Kind → ℤ → ℤ → ℕ
size_by_parts rule kind start t =
    if is_whole_days rule.freq
    then days_of_unit rule (day_part kind start) (day_part kind t) * times_before rule kind start (seconds_of kind)
    else times_before rule kind start (begin_in_day rule (second_part kind t) + unit_seconds rule.freq) - times_before rule kind start
    (begin_in_day rule (second_part kind t))

-- BYSETPOS is absent, or lists the position of a candidate with this rank among `size`, from the front or from the back
abbrev pub is_rank_listed : Rule → ℕ → ℕ → Bool
is_rank_listed rule rank size = is_absent rule.by_set_pos || lists rule.by_set_pos (pos (rank + 1)) || lists rule.by_set_pos (neg_ℤ (pos (size - rank)))

-- BYSETPOS is absent, or lists the rank of a candidate among those of its unit, from the front or from the back
abbrev pub set_positions_hold : Rule → Kind → ℤ → ℤ → Bool
set_positions_hold rule kind start t = is_rank_listed rule (rank_by_parts rule kind start t) (size_by_parts rule kind start t)

-- ---- the rank of a moment in its unit, and the unit's size, by the moment's own day and second

-- in a unit of whole days: the days before, each with all times of a day, and the times before on its own day
abbrev pub rank_over_days : Rule → Moment → Moment → ℕ
rank_over_days rule start moment =
    days_before rule start.day.number moment.day.number * times_per_day rule start.kind start.at
    + times_before rule start.kind start.at (second_part moment.kind moment.at)

-- the candidates of such a unit: its days, each with all times of a day
abbrev pub size_over_days : Rule → Moment → Moment → ℕ
size_over_days rule start moment = days_of_unit rule start.day.number moment.day.number * times_per_day rule start.kind start.at

-- how many times of the moment's day come before its unit, which is shorter than a day
abbrev pub times_before_unit : Rule → Moment → Moment → ℕ
times_before_unit rule start moment = times_before rule start.kind start.at (begin_in_day rule (second_part moment.kind moment.at))

-- in a unit shorter than a day: the times before on its day that do not come before the unit
abbrev pub rank_within_day : Rule → Moment → Moment → ℕ
rank_within_day rule start moment =
    times_before rule start.kind start.at (second_part moment.kind moment.at) - times_before_unit rule start moment

-- the candidates of such a unit: the times before its end that do not come before the unit
abbrev pub size_within_day : Rule → Moment → Moment → ℕ
size_within_day rule start moment =
    times_before rule start.kind start.at (begin_in_day rule (second_part moment.kind moment.at) + unit_seconds rule.freq)
    - times_before_unit rule start moment

-- The positions of a candidate, counted over all numbers of its unit, are those by days and times.
abbrev pub PositionsAreByParts : Type 0
PositionsAreByParts = (rule : Rule) (kind : Kind) (start t : ℤ) → IsTrue (takes_start rule.freq kind) → is_candidate rule kind start t ≡ true
    → (position_from_front rule kind start t ≡ rank_by_parts rule kind start t + 1)
    × (position_from_back rule kind start t ≡ size_by_parts rule kind start t - rank_by_parts rule kind start t)

-- BYSETPOS holds of a candidate exactly if its position from the front or from the back, counted by days and times, is listed.
abbrev pub SetPositionsAreByParts : Type 0
SetPositionsAreByParts = (rule : Rule) (kind : Kind) (start t : ℤ) → IsTrue (takes_start rule.freq kind) → is_candidate rule kind start t ≡ true
    → by_set_pos_holds rule kind start t ≡ set_positions_hold rule kind start t

-- the minute and the second of a second of an hour are allowed
abbrev pub hour_second_allowed : Rule → ℕ → ℕ → ℕ → Bool
hour_second_allowed rule minute second s = number_allowed (wants_minute rule.freq) rule.by_minute minute (s / 60) && number_allowed
    (wants_second rule.freq) rule.by_second second (s % 60)

-- the hour, the minute and the second of a second of a day are allowed
abbrev pub day_second_allowed : Rule → ℕ → ℕ → ℕ → ℕ → Bool
day_second_allowed rule hour minute second s =
    number_allowed (wants_hour rule.freq) rule.by_hour hour (s / 3_600) && number_allowed (wants_minute rule.freq) rule.by_minute minute (s / 60 % 60)
    && number_allowed (wants_second rule.freq) rule.by_second second (s % 60)

-- ---- counts over a day, an hour and a minute, if a time of the start fills the parts

-- how many seconds of a day before this one the time parts allow
abbrev pub before_in_day : Rule → Time → ℕ → ℕ
before_in_day rule own second = count_seconds (λ s. day_second_allowed rule own.hour own.minute own.second s) second

-- how many seconds of an hour before this one have a minute and a second that are allowed
abbrev pub before_in_hour : Rule → Time → ℕ → ℕ
before_in_hour rule own second = count_seconds (λ s. hour_second_allowed rule own.minute own.second s) second

-- how many seconds of a minute before this one are allowed
abbrev pub before_in_minute : Rule → Time → ℕ → ℕ
before_in_minute rule own second = count_seconds (λ s. number_allowed (wants_second rule.freq) rule.by_second own.second s) second
