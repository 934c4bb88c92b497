-- Candidates by their days and by their seconds of a day (RFC 5545, section 3.3.10).
use Rattle.std.specs.Prelude.{◌≡◌, ℕ, ◌<◌, Bool, true, ◌&&◌, IsTrue, ℤ, pos}
use Rattle.rr_model.specs.Moment.{day_part, moment_at}
use Rattle.rr_model.specs.Moment.Units.{is_whole_days, unit_number}
use Rattle.rr_model.specs.Rule.Filled.{filled_rule}
use Rattle.rr_model.specs.Rule.Candidate.{interval_holds, date_parts_hold, time_parts_hold, is_candidate}
use Rattle.rr_model.specs.declared.kind.Kind.{Kind}
use Rattle.rr_model.specs.declared.kind.Kind.TheVariants.{Days, Moments}
use Rattle.rr_model.specs.declared.rule.Rule.{Rule}

-- the seconds of a day from midnight that the kind has: a date has midnight alone
abbrev pub seconds_of : Kind → ℕ
seconds_of Days = 1
seconds_of Moments = 86_400

-- the time parts of the rule, filled from its start, hold of the second of a day
abbrev pub time_holds : Rule → Kind → ℤ → ℕ → Bool
time_holds rule kind start second = time_parts_hold (filled_rule rule kind start) kind (moment_at kind (pos 0) second)

-- a second of each candidate day
abbrev pub IsCandidateTime : Rule → Kind → ℤ → ℕ → Type 0
IsCandidateTime rule kind start second = (second < seconds_of kind) × IsTrue (time_holds rule kind start second)

-- the interval from the start's day fits the day, and the date parts of the rule, filled from there, hold of it
abbrev pub day_holds : Rule → ℤ → ℤ → Bool
day_holds rule start_day day = interval_holds rule Days start_day day && date_parts_hold (filled_rule rule Days start_day) day

-- a candidate day of the unit
abbrev pub IsCandidateDay : Rule → ℤ → ℤ → ℤ → Type 0
IsCandidateDay rule start_day unit day = (unit_number rule.freq rule.week_start Days day ≡ unit) × IsTrue (day_holds rule start_day day)

-- At each second of each day, a rule of whole days has a candidate exactly if the day and the second are candidates.
abbrev pub CandidatesAreDaysAndTimes : Type 0
CandidatesAreDaysAndTimes = (rule : Rule) (kind : Kind) (start day : ℤ) (second : ℕ) → is_whole_days rule.freq ≡ true → second < seconds_of kind
    → is_candidate rule kind start (moment_at kind day second) ≡ (day_holds rule (day_part kind start) day && time_holds rule kind start second)
