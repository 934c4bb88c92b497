-- What holds of the values of a list as far as they are read (RFC 5545, section 3.8.5).
use Rattle.std.specs.Prelude.{◌≡◌, ◌≤◌, ℤ, int_lt, List, [], length, All, Option, None, Some}
use Rattle.rr_model.specs.Moment.Years.{IsInYears}
use Rattle.rr_model.specs.Rising.{Rises}
use Rattle.rr_model.specs.declared.limits.TheConstants.{MAX_DATES}
use Rattle.rr_ical.specs.declared.listed.ListedDates.{ListedDates}
use Rattle.rr_model.specs.declared.stamp.Stamp.{Stamp}

-- the first value and the values after it lie in the years 1 to 9999, and no value comes before the first
abbrev pub AreInYears : Option Stamp → List ℤ → Type 0
AreInYears None plus = plus ≡ []
AreInYears (Some first) plus = IsInYears first.kind first.at × All (IsInYears first.kind) plus

-- the values lie in the years 1 to 9999 and rise, and there are at most 10,000
pub record IsValidListed (so_far : ListedDates) : Type 0 where
  pub in_years : AreInYears so_far.first so_far.plus
  pub rises : Rises int_lt so_far.plus
  pub counted : length so_far.plus ≤ so_far.count
  pub few : so_far.count ≤ MAX_DATES
