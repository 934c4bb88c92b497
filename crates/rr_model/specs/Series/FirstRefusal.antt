-- Which refusal a command gives for a series that was read: the first in one order for all commands (RFC 5545, section 3.8.5).
use Rattle.std.specs.Prelude.{◌≡◌, ◌⊎◌, ◌<◌, Bool, IsTrue, Option, None, Some, ℤ}
use Rattle.rr_model.specs.Series.Cycle.{series_cycle}
use Rattle.rr_model.specs.Series.Limits.{IsCountedTooFar, IsTooManyMoments}
use Rattle.rr_model.specs.Series.Settled.{IsSettledDay}
use Rattle.rr_model.specs.Series.Soundness.{first_refusal}
use Rattle.rr_model.specs.declared.limits.TheConstants.{MAX_CYCLE_DAYS}
use Rattle.rr_model.specs.declared.refusal.Refusal.{Refusal}
use Rattle.rr_model.specs.declared.refusal.Refusal.TheVariants.{CycleTooLong, CountedTooFar, TooManyMoments}
use Rattle.rr_model.specs.declared.rule.Series.{Series}

-- which limits a command judges of a sound series
pub record Limits : Type 0 where
  pub cycle : Bool
  pub counts : Bool
  pub moments : Bool

-- the refusal that is there already, otherwise what comes next
abbrev pub IsRefusalOr : Option Refusal → (Option Refusal → Type 0) → Option Refusal → Type 0
IsRefusalOr (Some refusal) next x = x ≡ Some refusal
IsRefusalOr None next x = next x

-- the given refusal if the condition holds, otherwise what comes next
abbrev pub IsRefusalWhere : Type 0 → Refusal → (Option Refusal → Type 0) → Option Refusal → Type 0
IsRefusalWhere P refusal next x = (P × (x ≡ Some refusal)) ⊎ ((P → ⊥) × next x)

-- the cycle is judged, and is longer than the most days
abbrev pub IsCycleOver : Limits → Series → Type 0
IsCycleOver limits series = IsTrue limits.cycle × (MAX_CYCLE_DAYS < series_cycle series)

-- counts are judged, and a rule counts too far
abbrev pub IsCountOver : Limits → Series → Type 0
IsCountOver limits series = IsTrue limits.counts × IsCountedTooFar series

-- moments are judged, and up to the settled day and one cycle there are too many
abbrev pub AreMomentsOver : Limits → Series → Type 0
AreMomentsOver limits series = IsTrue limits.moments × ((settled : ℤ) × IsSettledDay series settled × IsTooManyMoments series settled)

-- the refusal by the limits alone, or None
abbrev pub IsLimitRefusal : Limits → Series → Option Refusal → Type 0
IsLimitRefusal limits series =
    IsRefusalWhere (IsCycleOver limits series) CycleTooLong
    (IsRefusalWhere (IsCountOver limits series) CountedTooFar (IsRefusalWhere (AreMomentsOver limits series) TooManyMoments (λ x. x ≡ None)))

-- First the rules beside the start, then each limit that the command judges; None if nothing is refused.
abbrev pub IsFirstRefusal : Limits → Series → Option Refusal → Type 0
IsFirstRefusal limits series = IsRefusalOr (first_refusal series) (IsLimitRefusal limits series)

-- A series has one first refusal, or none.
abbrev pub FirstRefusalIsOne : Type 0
FirstRefusalIsOne = (limits : Limits) (series : Series) (x y : Option Refusal) → IsFirstRefusal limits series x → IsFirstRefusal limits series y → x ≡ y
