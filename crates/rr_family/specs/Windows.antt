-- What the searches for a rule or a pattern know of a set: its one second, its first two days, and where it ends or how it repeats.
use Rattle.std.specs.Prelude.{◌≡◌, true, false, Option, Some, None, ℤ, ◌<ℤ◌}
use Rattle.rr_family.specs.DaySets.{IsOneSecond, IsLastDay, window_days}
use Rattle.rr_family.specs.Lasting.{is_occupied}
use Rattle.rr_family.specs.declared.window.Window.{Window}
use Rattle.rr_family.specs.declared.window.WindowEnd.{WindowEnd}
use Rattle.rr_family.specs.declared.window.WindowEnd.TheVariants.{Last, Cycle}
use Rattle.rr_model.specs.Moment.{day_part, second_part, moment_at}
use Rattle.rr_model.specs.Moment.Years.{IsInYears}
use Rattle.rr_model.specs.Sets.Least.{IsEndless, IsLeastPeriod, IsLeastStart}
use Rattle.rr_model.specs.Sets.Sketch.{times_on}
use Rattle.rr_model.specs.Whole.Count.{count_from}
use Rattle.rr_model.specs.declared.kind.Kind.{Kind}
use Rattle.rr_model.specs.declared.sketch.Sketch.{Sketch}

-- the occupied day after the first one, if there is one
abbrev pub IsSecondDay : Sketch → ℤ → Option ℤ → Type 0
IsSecondDay s first None = (d : ℤ) → first <ℤ d → is_occupied s d ≡ false
IsSecondDay s first (Some second) = (first <ℤ second) × (is_occupied s second ≡ true) × ((d : ℤ) → first <ℤ d → d <ℤ second → is_occupied s d ≡ false)

-- the last day with the number of occupied days, or of an endless set the least period and the least start
abbrev pub IsWindowEnd : Sketch → ℤ → WindowEnd → Type 0
IsWindowEnd s first (Last day many) = IsLastDay s day × (many ≡ count_from (is_occupied s) first (window_days first day))
IsWindowEnd s first (Cycle period start) = IsEndless s × IsLeastPeriod (times_on s) period × IsLeastStart (times_on s) first period start

-- the set has one second on each of its days and begins in the years 1 to 9999, and this is what is known of it
pub record HasWindow (s : Sketch) (w : Window) : Type 0 where
  pub one_second : IsOneSecond s w.kind w.second w.first
  pub years : IsInYears w.kind (moment_at w.kind w.first w.second)
  pub next : IsSecondDay s w.first w.next
  pub end : IsWindowEnd s w.first w.end

-- what is known of the set: its window; None if it is empty, has two seconds, or does not begin in the years 1 to 9999
abbrev pub IsWindowOf : Sketch → Option Window → Type 0
IsWindowOf s None = (kind : Kind) (start : ℤ) → IsInYears kind start → IsOneSecond s kind (second_part kind start) (day_part kind start) → ⊥
IsWindowOf s (Some w) = HasWindow s w
