-- What a window of an endless set tells for ever.
use Rattle.std.specs.Prelude.{◌≡◌, ℕ, ◌≤◌, Bool, true, false, not, List, [], ◌∷◌, Some, ℤ, ◌≤ℤ◌, ◌<ℤ◌}
use Rattle.std.specs.Int.{◌∣◌}
use Rattle.rr_model.specs.Whole.Periodic.{RepeatsFrom}
use Rattle.rr_model.specs.Rule.Validity.{is_absent}
use Rattle.rr_model.specs.Sets.Sketch.{IsFirstDay, times_on}
use Rattle.rr_model.specs.declared.sketch.Sketch.{Sketch}
use Rattle.rr_model.specs.Sets.Least.{IsLeastPeriod, IsLeastStart}
use Rattle.rr_family.specs.Shift.{RepeatsEverywhere}
use Rattle.rr_family.specs.Taking.{AgreeWithin, is_sound, some_gives, taken_places, AreAmong}

-- the day has an occurrence
abbrev pub is_occupied : Sketch → ℤ → Bool
is_occupied s d = not (is_absent (times_on s d))

-- this second alone if the day is occupied; no second if it is not
abbrev pub at_second : ℕ → Bool → List ℕ
at_second second true = second ∷ []
at_second second false = []

-- from the first day on the two are the same
abbrev pub AgreeForEver : (ℤ → Bool) → (ℤ → Bool) → ℤ → Type 0
AgreeForEver p q first = (d : ℤ) → first ≤ℤ d → p d ≡ q d

-- the set has exactly the days of the test from the first one on, each at the one second
pub record HasDaysOf (s : Sketch) (second : ℕ) (test : ℤ → Bool) (first : ℤ) : Type 0 where
  pub at_first : test first ≡ true
  pub before : (d : ℤ) → d <ℤ first → times_on s d ≡ []
  pub from_first : (d : ℤ) → first ≤ℤ d → times_on s d ≡ at_second second (test d)

-- what a set has whose days are those of a test that repeats after c days
pub record HasCycle (s : Sketch) (first : ℤ) (c : ℕ) : Type 0 where
  pub first_day : IsFirstDay s (Some first)
  pub repeats : RepeatsFrom (times_on s) first c
  pub period : (p : ℕ) → IsLeastPeriod (times_on s) p → p ∣ c
  pub start : (p : ℕ) (q : ℤ) → IsLeastPeriod (times_on s) p → IsLeastStart (times_on s) first p q → q ≡ first

-- If a set has the days of a test that repeats after c days, its least period divides c and its least start is its first day.
abbrev pub EndlessHasCycle : Type 0
EndlessHasCycle = (s : Sketch) (second : ℕ) (test : ℤ → Bool) (first : ℤ) (c : ℕ) → 1 ≤ c → RepeatsEverywhere test c → HasDaysOf s second test first
    → HasCycle s first c

-- the least period divides c, and the least start is the first occupied day
pub record FitsCycle (s : Sketch) (first : ℤ) (c : ℕ) : Type 0 where
  pub some : 1 ≤ c
  pub period : ℕ
  pub is_period : IsLeastPeriod (times_on s) period
  pub divides : period ∣ c
  pub start : IsLeastStart (times_on s) first period first

-- If they do, a place that is sound on one cycle from the first day on is sound for ever.
abbrev pub SoundLasts : Type 0
SoundLasts = (s : Sketch) (first : ℤ) (c : ℕ) (gives : ℕ → ℤ → Bool) (place : ℕ) → FitsCycle s first c → RepeatsEverywhere (gives place) c
    → is_sound gives (is_occupied s) first c place ≡ true → (d : ℤ) → first ≤ℤ d → gives place d ≡ true → is_occupied s d ≡ true

-- A test that agrees on one cycle agrees for ever.
abbrev pub AgreementOnCycleLasts : Type 0
AgreementOnCycleLasts = (s : Sketch) (first : ℤ) (c : ℕ) (test : ℤ → Bool) → FitsCycle s first c → RepeatsEverywhere test c
    → AgreeWithin test (is_occupied s) first c → AgreeForEver test (is_occupied s) first

-- If some list of places has the days for ever, the list that is taken on one cycle has them for ever.
abbrev pub TakingLosesNoEndless : Type 0
TakingLosesNoEndless = (s : Sketch) (first : ℤ) (c : ℕ) (gives : ℕ → ℤ → Bool) (places all : List ℕ) → FitsCycle s first c
    → ((place : ℕ) → RepeatsEverywhere (gives place) c) → AreAmong places all
    → AgreeForEver (some_gives gives places) (is_occupied s) first
    → AgreeForEver (some_gives gives (taken_places gives (is_occupied s) first c all)) (is_occupied s) first
