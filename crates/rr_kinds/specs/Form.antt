-- Series of one endless rule whose days are told by the kind of each year (RFC 5545, section 3.3.10).
use Rattle.std.specs.Prelude.{◌≡◌, ◌⊎◌, true, [], length, get_or, ℤ, ⊤}
use Rattle.rr_model.specs.Calendar.{IsDayWithin}
use Rattle.rr_model.specs.Moment.{day_part}
use Rattle.rr_model.specs.Rule.Validity.{is_absent}
use Rattle.rr_model.specs.Series.Limits.{IsCountedTooFar, IsTooManyMoments}
use Rattle.rr_model.specs.declared.rule.End.TheVariants.{Never}
use Rattle.rr_model.specs.declared.rule.Freq.TheVariants.{Monthly, Yearly}
use Rattle.rr_model.specs.declared.rule.Rule.{Rule}
use Rattle.rr_model.specs.declared.rule.Series.{Series}
use Rattle.rr_model.specs.declared.verdict.Verdict.{Verdict}
use Rattle.rr_model.specs.declared.verdict.Verdict.TheVariants.{Yes, No}

-- a rule of each month or each year, without BYWEEKNO and BYSETPOS
pub record LeavesNoUnitOut (rule : Rule) : Type 0 where
  pub freq : (rule.freq ≡ Monthly) ⊎ (rule.freq ≡ Yearly)
  pub interval : rule.interval ≡ 1
  pub weeks : is_absent rule.by_week_no ≡ true
  pub positions : is_absent rule.by_set_pos ≡ true

-- each day has the time of the start alone
pub record HasOwnTime (rule : Rule) : Type 0 where
  pub hours : is_absent rule.by_hour ≡ true
  pub minutes : is_absent rule.by_minute ≡ true
  pub seconds : is_absent rule.by_second ≡ true

-- the kind of a year tells which of its days the rule chooses
pub record ChoosesByKind (rule : Rule) : Type 0 where
  pub endless : rule.end ≡ Never
  pub units : LeavesNoUnitOut rule
  pub time : HasOwnTime rule

-- one rule, and neither excluded rules nor dates beside the start
pub record HasOneRuleAlone (series : Series) : Type 0 where
  pub one : length series.rules ≡ 1
  pub excluded : series.excluded ≡ []
  pub plus : series.plus ≡ []
  pub minus : series.minus ≡ []

-- one rule alone, and each of its days is told by the kind of its year
pub record GoesByKinds (series : Series) : Type 0 where
  pub rule : Rule
  pub is_rule : get_or series.rules 0 rule ≡ rule
  pub alone : HasOneRuleAlone series
  pub chooses : ChoosesByKind rule

-- both go by kinds, and have one start
pub record GoByKindsTogether (a b : Series) : Type 0 where
  pub first : GoesByKinds a
  pub second : GoesByKinds b
  pub kind : a.kind ≡ b.kind
  pub start : a.start ≡ b.start

-- a no names an occurrence on a day that the calls take
abbrev pub NamesNearDay : Verdict → Type 0
NamesNearDay Yes = ⊤
NamesNearDay (No kind at side) = IsDayWithin 0 (day_part kind at)

-- two rules have one frequency and the same date parts, but for BYWEEKNO
pub record HaveSameParts (a b : Rule) : Type 0 where
  pub freq : a.freq ≡ b.freq
  pub months : a.by_month ≡ b.by_month
  pub year_days : a.by_year_day ≡ b.by_year_day
  pub month_days : a.by_month_day ≡ b.by_month_day
  pub days : a.by_day ≡ b.by_day

-- A series that goes by kinds does not go beyond the limits of counts and of moments.
abbrev pub NoLimitRefuses : Type 0
NoLimitRefuses = (series : Series) → GoesByKinds series → (IsCountedTooFar series → ⊥) × ((settled : ℤ) → IsTooManyMoments series settled → ⊥)
