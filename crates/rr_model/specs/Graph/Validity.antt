-- Which Graph patterns, ranges and events are valid (Microsoft Graph, recurrencePattern, recurrenceRange, event).
use Rattle.std.specs.Prelude.{◌≡◌, ◌⊎◌, ℕ, ◌≤◌, Bool, true, false, ⊤, ℤ, pos, neg_ℤ, ◌≤ℤ◌, Some}
use Rattle.rr_model.specs.Moment.{day_part}
use Rattle.rr_model.specs.Moment.Years.{IsInYears}
use Rattle.rr_model.specs.declared.kind.Kind.TheVariants.{Days}
use Rattle.rr_model.specs.Graph.Occurrences.{first_repeat_day}
use Rattle.rr_model.specs.Graph.Uses.{uses_days, uses_first_day, uses_index, uses_day_of_month, uses_month, most_interval}
use Rattle.rr_model.specs.declared.graph.GraphEvent.{GraphEvent}
use Rattle.rr_model.specs.declared.graph.Pattern.{Pattern}
use Rattle.rr_model.specs.declared.graph.RangeEnd.{RangeEnd}
use Rattle.rr_model.specs.declared.graph.RangeEnd.TheVariants.{NoEnd, EndDate, Numbered}
use Rattle.rr_model.specs.declared.graph.Repeat.{Repeat}
use Rattle.rr_model.specs.declared.graph.Repeat.TheVariants as repeat

-- a member that is used lies from one number up to another, and one that is not used has its one value
abbrev pub LiesIfUsed : Bool → ℕ → ℕ → ℕ → ℕ → Type 0
LiesIfUsed true low high otherwise n = (low ≤ n) × (n ≤ high)
LiesIfUsed false low high otherwise n = n ≡ otherwise

-- an index that a pattern may have: 1 to 4, or -1 for the last; always 1 if it is not used
abbrev pub IsIndex : Bool → ℤ → Type 0
IsIndex true index = ((pos 1 ≤ℤ index) × (index ≤ℤ pos 4)) ⊎ (index ≡ neg_ℤ (pos 1))
IsIndex false index = index ≡ pos 1

-- members that are used lie in their ranges, and the others have their one value
pub record IsValidPattern (pattern : Pattern) : Type 0 where
  pub interval_low : 1 ≤ pattern.interval
  pub interval_high : pattern.interval ≤ most_interval pattern.form
  pub days : LiesIfUsed (uses_days pattern.form) 1 127 0 pattern.days
  pub first_day : LiesIfUsed (uses_first_day pattern.form) 0 6 6 pattern.first_day
  pub index : IsIndex (uses_index pattern.form) pattern.index
  pub day_of_month : LiesIfUsed (uses_day_of_month pattern.form) 1 31 0 pattern.day_of_month
  pub month : LiesIfUsed (uses_month pattern.form) 1 12 0 pattern.month

-- an endDate lies in the years 1 to 9999, and a count is at least 1
abbrev pub IsRangeEnd : RangeEnd → Type 0
IsRangeEnd NoEnd = ⊤
IsRangeEnd (EndDate day) = IsInYears Days day
IsRangeEnd (Numbered n) = (1 ≤ n) × (n ≤ 18_446_744_073_709_551_615)

-- an event that does not repeat, or repeats from its start's day on and has an occurrence in the years 1 to 9999
abbrev pub IsRepeatFrom : ℤ → Repeat → Type 0
IsRepeatFrom day repeat.Once = ⊤
IsRepeatFrom day (repeat.Pattern pattern range) =
    IsValidPattern pattern × IsRangeEnd range.end × (range.start_day ≡ day) × ((first : ℤ) × (first_repeat_day pattern range ≡ Some first))

-- the event's pattern and range are valid, and it has an occurrence
pub record IsValidGraphEvent (event : GraphEvent) : Type 0 where
  pub start : IsInYears event.kind event.start
  pub repeats : IsRepeatFrom (day_part event.kind event.start) event.repeat
