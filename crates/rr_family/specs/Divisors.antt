-- By multiples of which numbers the occupied units of a set lie apart.
use Rattle.std.specs.Prelude.{◌≡◌, ◌⊎◌, ℕ, ◌<◌, Bool, true, ⊤, IsTrue, get_or, unsigned_abs, ℤ, pos, ◌+ℤ◌, ◌-ℤ◌, ◌≤ℤ◌, ◌<ℤ◌}
use Rattle.std.specs.Int.{◌∣◌, IsGcd}
use Rattle.rr_family.specs.DaySets.{window_days}
use Rattle.rr_family.specs.Lasting.{is_occupied}
use Rattle.rr_family.specs.declared.divisors.Divisors.{Divisors}
use Rattle.rr_family.specs.declared.window.Window.{Window}
use Rattle.rr_family.specs.declared.window.WindowEnd.{WindowEnd}
use Rattle.rr_family.specs.declared.window.WindowEnd.TheVariants.{Last, Cycle}
use Rattle.rr_model.specs.Moment.Units.{is_whole_days, unit_number}
use Rattle.rr_model.specs.declared.kind.Kind.TheVariants.{Days}
use Rattle.rr_model.specs.declared.rule.Freq.{Freq}
use Rattle.rr_model.specs.declared.rule.Freq.TheVariants as freq
use Rattle.rr_model.specs.declared.sketch.Sketch.{Sketch}

-- how many units the two days lie apart
abbrev pub units_apart : (ℤ → ℤ) → ℤ → ℤ → ℕ
units_apart unit first d = unsigned_abs (unit d -ℤ unit first)

-- the unit of each occupied day of the window lies a multiple of n from that of its first day
abbrev pub DividesEach : ℕ → (ℤ → ℤ) → (ℤ → Bool) → ℤ → ℕ → Type 0
DividesEach n unit occupied first days =
    (d : ℤ) → first ≤ℤ d → d <ℤ (first +ℤ pos days) → occupied d ≡ true → n ∣ units_apart unit first d

-- the greatest such number: each such number divides it
abbrev pub IsDivisor : ℕ → (ℤ → ℤ) → (ℤ → Bool) → ℤ → ℕ → Type 0
IsDivisor divisor unit occupied first days =
    DividesEach divisor unit occupied first days × ((n : ℕ) → DividesEach n unit occupied first days → n ∣ divisor)

-- the divisor of the units of a frequency, DAILY or coarser
abbrev pub divisor_of : Divisors → Freq → ℕ → ℕ
divisor_of divisors freq.Weekly w = get_or divisors.weeks w 0
divisor_of divisors freq.Monthly w = divisors.months
divisor_of divisors freq.Yearly w = divisors.years
divisor_of divisors freq w = divisors.days

-- the property of each unit of whole days
abbrev pub EachUnit : (Freq → ℕ → Type 0) → Type 0
EachUnit P = (freq : Freq) (w : ℕ) → IsTrue (is_whole_days freq) → w < 7 → P freq w

-- these are the divisors of the occupied days among the first `days` days from `first` on, one for each unit of whole days
abbrev pub AreDivisors : Divisors → (ℤ → Bool) → ℤ → ℕ → Type 0
AreDivisors divisors occupied first days =
    EachUnit (λ freq w. IsDivisor (divisor_of divisors freq w) (unit_number freq w Days) occupied first days)

-- one more occupied day enters the divisor of a frequency and a first weekday
abbrev pub IsJoinedAt : Divisors → Freq → ℕ → ℤ → ℤ → ℕ → Type 0
IsJoinedAt old freq w first d divisor = IsGcd (divisor_of old freq w) (units_apart (unit_number freq w Days) first d) divisor

-- one occupied day more enters the divisors of each unit of whole days
abbrev pub IsJoined : Divisors → ℤ → ℤ → Divisors → Type 0
IsJoined old first d new =
    EachUnit (λ freq w. IsJoinedAt old freq w first d (divisor_of new freq w))

-- the first `days` days from `first` on go up to the last day of a finite set; of an endless set nothing is asked
abbrev pub ReachesEnd : ℤ → WindowEnd → ℕ → Type 0
ReachesEnd first (Last day many) days = days ≡ window_days first day
ReachesEnd first (Cycle period start) days = ⊤

-- the divisors of the set's days, up to the last one of a finite set
pub record HasDivisors (s : Sketch) (w : Window) (divisors : Divisors) : Type 0 where
  pub days : ℕ
  pub reaches_end : ReachesEnd w.first w.end days
  pub are : AreDivisors divisors (is_occupied s) w.first days

-- ---- intervals

-- the window has a last day
abbrev pub IsFinite : WindowEnd → Type 0
IsFinite (Last day many) = ⊤
IsFinite (Cycle period start) = ⊥

-- the interval does not divide the divisor of its units; or all days of a finite set lie in one unit, and a lesser interval has them too
abbrev pub IsLeftOut : WindowEnd → ℕ → ℕ → Type 0
IsLeftOut end divisor interval = (interval ∣ divisor → ⊥) ⊎ ((divisor ≡ 0) × (1 < interval) × IsFinite end)
