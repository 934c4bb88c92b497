-- Which vCalendar 1.0 rules and series are valid (basic recurrence rule grammar).
use Rattle.std.specs.Prelude.{◌+◌, ◌≤◌, nat_abs, length, All}
use Rattle.rr_model.specs.declared.vcal.FamilyKind.{FamilyKind}
use Rattle.rr_model.specs.declared.vcal.FamilyKind.TheVariants as family
use Rattle.rr_model.specs.declared.item.Item.{Item}
use Rattle.rr_model.specs.declared.item.Item.TheVariants.{Every, Weekday, MonthDay, Place, Month, YearDay}
use Rattle.rr_model.specs.declared.vcal.VRule.{VRule}
use Rattle.rr_model.specs.declared.vcal.VSeries.{VSeries}
use Rattle.rr_model.specs.Moment.Years.{IsInYears}
use Rattle.rr_model.specs.Rule.Validity.{HasCountInRange, EndsInYears}
use Rattle.rr_model.specs.declared.limits.TheConstants.{MAX_RULES, MAX_DATES}

-- the item is one of a rule of this kind, and its numbers lie in their ranges
abbrev pub IsItemOf : FamilyKind → Item → Type 0
IsItemOf family.D Every = Unit {0}
IsItemOf family.W (Weekday k) = k ≤ 6
IsItemOf family.MD (MonthDay n) = (1 ≤ nat_abs n) × (nat_abs n ≤ 31)
IsItemOf family.MP (Place n k) = (1 ≤ nat_abs n) × (nat_abs n ≤ 5) × (k ≤ 6)
IsItemOf family.YM (Month m) = (1 ≤ m) × (m ≤ 12)
IsItemOf family.YD (YearDay k) = (1 ≤ k) × (k ≤ 366)
IsItemOf family item = ⊥

-- the interval and the items lie in their ranges, and there is an item
pub record IsValidVRule (rule : VRule) : Type 0 where
  pub interval_low : 1 ≤ rule.interval
  pub interval_high : rule.interval ≤ 4_294_967_295
  pub items : All (IsItemOf rule.family) rule.items
  pub some_item : 1 ≤ length rule.items
  pub count : HasCountInRange rule.end

-- the rules and the excluded rules are valid, and the moments lie in the years 1 to 9999
pub record IsValidVSeries (series : VSeries) : Type 0 where
  pub start : IsInYears series.kind series.start
  pub rules : All IsValidVRule series.rules
  pub excluded : All IsValidVRule series.excluded
  pub few_rules : length series.rules + length series.excluded ≤ MAX_RULES
  pub ends : All (λ rule. EndsInYears rule.end) series.rules
  pub excluded_ends : All (λ rule. EndsInYears rule.end) series.excluded
  pub plus : All (IsInYears series.kind) series.plus
  pub minus : All (IsInYears series.kind) series.minus
  pub few_dates : length series.plus + length series.minus ≤ MAX_DATES
