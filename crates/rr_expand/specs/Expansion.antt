-- The candidates of one unit of a rule: its days, and the seconds of a day (RFC 5545, section 3.3.10).
use Rattle.std.specs.Prelude.{ℕ, ◌<◌, IsTrue, ℤ, pos, neg_ℤ, ◌+ℤ◌, ◌≤ℤ◌, ◌<ℤ◌}
use Rattle.rr_model.specs.Moment.{moment_at}
use Rattle.rr_model.specs.Rule.Filled.{filled_rule}
use Rattle.rr_model.specs.Rule.Candidate.{interval_holds, date_parts_hold, is_candidate}
use Rattle.rr_model.specs.Rule.DaysAndTimes.{time_holds}
use Rattle.rr_model.specs.declared.kind.Kind.TheVariants.{Days, Moments}
use Rattle.rr_model.specs.declared.rule.Rule.{Rule}

-- a candidate second of the day
abbrev pub IsCandidateSecond : Rule → ℤ → ℤ → ℕ → Type 0
IsCandidateSecond rule start day second = (second < 86_400) × IsTrue (is_candidate rule Moments start (moment_at Moments day second))

-- a day of a stretch of n days at which the date parts hold
abbrev pub IsAllowedDay : Rule → ℤ → ℤ → ℕ → ℤ → Type 0
IsAllowedDay rule start_day first count day = (first ≤ℤ day) × (day <ℤ (first +ℤ pos count)) × IsTrue (date_parts_hold (filled_rule rule Days start_day) day)

-- a second of the day in a unit that fits the interval from the start's, at which the time parts hold
abbrev pub IsFittingSecond : Rule → ℤ → ℤ → ℕ → Type 0
IsFittingSecond rule start day second =
    IsTrue (interval_holds rule Moments start (moment_at Moments day second)) × (second < 86_400) × IsTrue (time_holds rule Moments start second)

-- no call's unit is farther from 0
abbrev pub IsUnitNear : ℤ → Type 0
IsUnitNear unit = (neg_ℤ (pos 1_000_000_000_000_000_000) ≤ℤ unit) × (unit ≤ℤ pos 1_000_000_000_000_000_000)
