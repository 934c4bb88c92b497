-- What the parts of the search for a first moment answer (RFC 5545, section 3.3.10).
use Rattle.std.specs.Prelude.{◌≡◌, ◌⊎◌, ℕ, ◌+◌, ◌<◌, ◌≤◌, true, IsTrue, Option, None, Some, [], length, ℤ, ◌≤ℤ◌, ◌<ℤ◌}
use Rattle.rr_model.specs.Moment.Years.{IsFromYearOne, IsInYears}
use Rattle.rr_model.specs.Sets.Tree.{Tree, stands_at}
use Rattle.rr_model.specs.declared.kind.Kind.{Kind}
use Rattle.rr_model.specs.declared.limits.TheConstants.{MAX_DATES}
use Rattle.rr_model.specs.declared.rule.End.{End}
use Rattle.rr_model.specs.declared.rule.Rule.{Rule}
use Rattle.rr_model.specs.declared.rule.Series.{Series}
use Rattle.rr_start.specs.Start.{IsFirstChosen, IsStartOff, ReachesUncounted}
use Rattle.rr_start.specs.declared.first_second.SecondOfDay.{SecondOfDay}

-- the series has one rule, no excluded one, a start that counts, and room for one date more
pub record IsOpen (series : Series) : Type 0 where
  pub counts : series.start_counts ≡ true
  pub one_rule : length series.rules ≡ 1
  pub no_excluded : series.excluded ≡ []
  pub room : length series.plus + length series.minus < MAX_DATES

-- the first moment after a start that is off; None if it is not off
abbrev pub IsFirstOfOff : Series → Option ℤ → Type 0
IsFirstOfOff series (Some first) = IsStartOff series first
IsFirstOfOff series None = (first : ℤ) → IsStartOff series first → ⊥

-- the first moment after the start that the rule chooses; None if it is after the last moment
abbrev pub IsFirstUpTo : Rule → Kind → ℤ → ℤ → Option ℤ → Type 0
IsFirstUpTo rule kind start last (Some t) = IsFirstChosen rule kind start t × (t ≤ℤ last)
IsFirstUpTo rule kind start last None = (t : ℤ) → IsFirstChosen rule kind start t → last <ℤ t

-- the end reaches exactly the moments of the years 1 to 9999 that are not after the last one; None if it reaches none
abbrev pub IsLastOfEnd : Kind → End → Option ℤ → Type 0
IsLastOfEnd kind end (Some last) =
    IsInYears kind last × ((t : ℤ) → t ≤ℤ last → ReachesUncounted kind t end) × ((t : ℤ) → IsInYears kind t → ReachesUncounted kind t end → t ≤ℤ last)
IsLastOfEnd kind end None = (t : ℤ) → ReachesUncounted kind t end → ⊥

-- a second of a day is not after another
abbrev pub IsNotAfter : ℤ → ℕ → ℤ → ℕ → Type 0
IsNotAfter day second other later = (day <ℤ other) ⊎ ((day ≡ other) × (second ≤ later))

-- the first second from 0001-01-01 on at which something stands in the tree; None if it is on a day after the last one
abbrev pub IsFirstSecond : Tree → ℤ → Option SecondOfDay → Type 0
IsFirstSecond tree to (Some found) =
    (found.day ≤ℤ to) × IsFromYearOne found.day × IsTrue (stands_at tree found.day found.second)
    × ((day : ℤ) (second : ℕ) → IsFromYearOne day → IsTrue (stands_at tree day second) → IsNotAfter found.day found.second day second)
IsFirstSecond tree to None = (day : ℤ) (second : ℕ) → IsFromYearOne day → IsTrue (stands_at tree day second) → to <ℤ day
