-- What occurs in a series whose rule says what becomes of a day which a month lacks (RFC 7529, section 4).
use Rattle.std.specs.Prelude.{◌≡◌, ℕ, IsTrue, ⊤, Option, None, Some, ℤ, pos, nat_abs, ◌+ℤ◌, ◌-ℤ◌, ◌≤ℤ◌, ◌<ℤ◌}
use Rattle.rr_model.specs.Moment.{day_part}
use Rattle.rr_model.specs.Whole.Count.{count_from}
use Rattle.rr_model.specs.Rule.Member.{IsWithinEnd}
use Rattle.rr_model.specs.Series.Cycle.{endless_cycle}
use Rattle.rr_model.specs.declared.kind.Kind.{Kind}
use Rattle.rr_model.specs.declared.limits.TheConstants.{MAX_SPAN_DAYS}
use Rattle.rr_model.specs.declared.rule.End.{End}
use Rattle.rr_model.specs.declared.rule.End.TheVariants.{Count, Both}
use Rattle.rr_skip.specs.Months.{is_skip_chosen}
use Rattle.rr_skip.specs.declared.series.SkipRule.{SkipRule}
use Rattle.rr_skip.specs.declared.series.SkipSeries.{SkipSeries}

-- how many chosen moments lie from the start to t, both included
abbrev pub skip_members_to : SkipRule → Kind → ℤ → ℤ → ℕ
skip_members_to rule kind start t = count_from (is_skip_chosen rule kind start) start (nat_abs ((t -ℤ start) +ℤ pos 1))

-- t is a member of the rule with this start
pub record IsSkipMember (rule : SkipRule) (kind : Kind) (start t : ℤ) : Type 0 where
  pub chosen : IsTrue (is_skip_chosen rule kind start t)
  pub not_before : start ≤ℤ t
  pub within_end : IsWithinEnd rule.rule.end kind t (skip_members_to rule kind start t)

-- a member of the rule, and without one the start
abbrev pub IsGivenBy : Option SkipRule → Kind → ℤ → ℤ → Type 0
IsGivenBy None kind start t = t ≡ start
IsGivenBy (Some rule) kind start t = IsSkipMember rule kind start t

-- the series, with the skips of its rule, has this occurrence
pub record OccursSkipping (series : SkipSeries) (k : Kind) (t : ℤ) : Type 0 where
  pub kind : k ≡ series.kind
  pub given : IsGivenBy series.rule series.kind series.start t

-- ---- limits

-- what a rule adds to the cycle of its series: its own cycle if it is endless
abbrev pub cycle_by : Option SkipRule → ℕ
cycle_by None = 1
cycle_by (Some rule) = endless_cycle rule.rule.end rule.rule

-- the cycle of a series, in days
abbrev pub skip_cycle : SkipSeries → ℕ
skip_cycle series = cycle_by series.rule

-- the end has a COUNT
abbrev pub HasCount : End → Type 0
HasCount (Count count) = ⊤
HasCount (Both kind at count) = ⊤
HasCount end = ⊥

-- a rule with COUNT has a member more than MAX_SPAN_DAYS days after its start's day
abbrev pub SkipsTooFar : Option SkipRule → Kind → ℤ → Type 0
SkipsTooFar None kind start = ⊥
SkipsTooFar (Some rule) kind start =
    HasCount rule.rule.end × ((t : ℤ) × ((day_part kind start +ℤ pos MAX_SPAN_DAYS) <ℤ day_part kind t) × IsSkipMember rule kind start t)

-- the rule of a series has such a member
abbrev pub IsSkippedTooFar : SkipSeries → Type 0
IsSkippedTooFar series = SkipsTooFar series.rule series.kind series.start
