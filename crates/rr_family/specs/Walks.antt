-- What walks over the days of a set find, and how far they reach.
use Rattle.std.specs.Prelude.{◌≡◌, ℕ, ◌≤◌, Bool, true, false, ⊤, Option, Some, None, ℤ, pos, ◌+ℤ◌, ◌≤ℤ◌, ◌<ℤ◌}
use Rattle.rr_model.specs.Bounds.{longest_period}
use Rattle.rr_family.specs.DaySets.{IsOneSecond}
use Rattle.rr_family.specs.Lasting.{at_second, is_occupied}
use Rattle.rr_family.specs.declared.window.Window.{Window}
use Rattle.rr_family.specs.declared.window.WindowEnd.{WindowEnd}
use Rattle.rr_family.specs.declared.window.WindowEnd.TheVariants.{Last, Cycle}
use Rattle.rr_model.specs.Calendar.{IsDayWithin}
use Rattle.rr_model.specs.Sets.Sketch.{IsNearDay, times_on}
use Rattle.rr_model.specs.declared.sketch.Sketch.{Sketch}

-- the first day that passes of n from q on, if there is one
abbrev pub IsNextWithin : (ℤ → Bool) → ℤ → ℕ → Option ℤ → Type 0
IsNextWithin test q days None = (d : ℤ) → q ≤ℤ d → d <ℤ (q +ℤ pos days) → test d ≡ false
IsNextWithin test q days (Some day) = (q ≤ℤ day) × (day <ℤ (q +ℤ pos days)) × (test day ≡ true) × ((d : ℤ) → q ≤ℤ d → d <ℤ day → test d ≡ false)

-- the day has this second alone, or nothing
abbrev pub IsAtSecond : Sketch → ℕ → ℤ → Type 0
IsAtSecond s second d = times_on s d ≡ at_second second (is_occupied s d)

-- the second that each occupied day has alone, or none if there is no such second
abbrev pub IsSecondOf : Sketch → ℤ → Option ℕ → Type 0
IsSecondOf s first None = (second : ℕ) → IsOneSecond s s.kind second first → ⊥
IsSecondOf s first (Some second) = IsOneSecond s s.kind second first

-- the last day of a finite set is near, and a period is at most 1,000,000,000
abbrev pub IsNearEnd : WindowEnd → Type 0
IsNearEnd (Last day many) = IsNearDay day
IsNearEnd (Cycle period start) = (1 ≤ period) × (period ≤ longest_period)

-- the day, if there is one, lies within 3,000,000,000,000
abbrev pub IsNearNext : Option ℤ → Type 0
IsNearNext None = ⊤
IsNearNext (Some day) = IsDayWithin 0 day

-- how far the days of a window reach
pub record IsNearWindow (w : Window) : Type 0 where
  pub first : IsNearDay w.first
  pub next : IsNearNext w.next
  pub end : IsNearEnd w.end
