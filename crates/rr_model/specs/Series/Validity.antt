-- Which series are valid (RFC 5545, section 3.8.5).
use Rattle.std.specs.Prelude.{◌≡◌, ◌+◌, ◌≤◌, false, [], length, All, pos, int_lt}
use Rattle.rr_model.specs.Moment.Years.{IsInYears}
use Rattle.rr_model.specs.Rising.{Rises}
use Rattle.rr_model.specs.Rule.Validity.{IsValidRule, EndsInYears}
use Rattle.rr_model.specs.declared.kind.Kind.TheVariants.{Days}
use Rattle.rr_model.specs.declared.limits.TheConstants.{MAX_RULES, MAX_DATES}
use Rattle.rr_model.specs.declared.rule.Series.{Series}

-- the data of an empty list of dates: kind Days, start 0, and nothing beside it
abbrev pub IsEmptySeries : Series → Type 0
IsEmptySeries series = (series.kind ≡ Days) × (series.start ≡ pos 0) × (series.rules ≡ []) × (series.excluded ≡ []) × (series.plus ≡ []) × (series.minus ≡ [])

-- the rules and the excluded rules are valid beside the start, the moments lie in the years 1 to 9999, and the dates rise without repeats
pub record IsValidSeries (series : Series) : Type 0 where
  pub start : IsInYears series.kind series.start
  pub start_counts : series.start_counts ≡ false → IsEmptySeries series
  pub rules : All (IsValidRule series.kind) series.rules
  pub excluded : All (IsValidRule series.kind) series.excluded
  pub few_rules : length series.rules + length series.excluded ≤ MAX_RULES
  pub ends : All (λ rule. EndsInYears rule.end) series.rules
  pub excluded_ends : All (λ rule. EndsInYears rule.end) series.excluded
  pub plus : All (IsInYears series.kind) series.plus
  pub minus : All (IsInYears series.kind) series.minus
  pub plus_rises : Rises int_lt series.plus
  pub minus_rises : Rises int_lt series.minus
  pub few_dates : length series.plus + length series.minus ≤ MAX_DATES
