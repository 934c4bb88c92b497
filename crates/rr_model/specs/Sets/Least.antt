-- The least period and the least start of a sequence, and the least sketch of a set of occurrences.
use Rattle.std.specs.Prelude.{◌≡◌, ℕ, ◌≤◌, ◌⊎◌, List, [], Some, ℤ, pos, ◌-ℤ◌, ◌≤ℤ◌}
use Rattle.std.specs.Int.{◌∣◌}
use Rattle.rr_model.specs.Sets.Sketch.{IsValidSketch, IsFirstDay, StandsIn, times_on}
use Rattle.rr_model.specs.Sets.Verdict.{HaveEqualOccurrences}
use Rattle.rr_model.specs.Whole.Periodic.{RepeatsFrom}
use Rattle.rr_model.specs.declared.kind.Kind.TheVariants.{Days}
use Rattle.rr_model.specs.declared.sketch.Sketch.{Sketch}

-- ---- periods of a sequence

-- p is a period, of one place at least, from q on
pub record HasPeriodFrom {X : Type 0} (f : ℤ → X) (q : ℤ) (p : ℕ) : Type 0 where
  pub some : 1 ≤ p
  pub repeats : RepeatsFrom f q p

-- p is a period from some place on
abbrev pub IsEventualPeriod : {X : Type 0} → (ℤ → X) → ℕ → Type 0
IsEventualPeriod f p = (q : ℤ) × HasPeriodFrom f q p

-- p is the least number that is a period from some place on
pub record IsLeastPeriod {X : Type 0} (f : ℤ → X) (p : ℕ) : Type 0 where
  pub holds : IsEventualPeriod f p
  pub least : (r : ℕ) → IsEventualPeriod f r → p ≤ r

-- the least place, not before the first one, from which the period holds
pub record IsLeastStart {X : Type 0} (f : ℤ → X) (first : ℤ) (p : ℕ) (q : ℤ) : Type 0 where
  pub not_before : first ≤ℤ q
  pub repeats : RepeatsFrom f q p
  pub least : (r : ℤ) → first ≤ℤ r → RepeatsFrom f r p → q ≤ℤ r

-- A sequence has one least period at most.
abbrev pub LeastPeriodIsOne : Type 0
LeastPeriodIsOne = (f : ℤ → List ℕ) (p r : ℕ) → IsLeastPeriod f p → IsLeastPeriod f r → p ≡ r

-- A period has one least start at most.
abbrev pub LeastStartIsOne : Type 0
LeastStartIsOne = (f : ℤ → List ℕ) (first : ℤ) (p : ℕ) (q r : ℤ) → IsLeastStart f first p q → IsLeastStart f first p r → q ≡ r

-- The least period divides each, whatever stands at the places.
abbrev pub LeastPeriodDivides : Type 0
LeastPeriodDivides = (f : ℤ → List ℕ) (p r : ℕ) → IsLeastPeriod f p → IsEventualPeriod f r → p ∣ r

-- ---- the least sketch

-- after each day there is an occupied one
abbrev pub IsEndless : Sketch → Type 0
IsEndless s = (q : ℤ) → (d : ℤ) × (q ≤ℤ d) × (times_on s d ≡ [] → ⊥)

-- a sketch of an endless set with its least period, and with the least start from the first occupied day on
pub record IsLeastOfEndless (s : Sketch) : Type 0 where
  pub endless : IsEndless s
  pub first : ℤ
  pub is_first : IsFirstDay s (Some first)
  pub period : IsLeastPeriod (times_on s) s.period
  pub start : IsLeastStart (times_on s) first s.period s.settled

-- a sketch of a finite set: nothing repeats, and the settled day is the day after the last occupied one
pub record IsLeastOfFinite (s : Sketch) : Type 0 where
  pub period : s.period ≡ 1
  pub cycle : s.cycle ≡ []
  pub last : times_on s (s.settled -ℤ pos 1) ≡ [] → ⊥

-- a sketch of the empty set, which counts as one of dates
pub record IsLeastOfNone (s : Sketch) : Type 0 where
  pub kind : s.kind ≡ Days
  pub before : s.before ≡ []
  pub settled : s.settled ≡ pos 0
  pub period : s.period ≡ 1
  pub cycle : s.cycle ≡ []

-- the least sketch of the set for which it stands
pub record IsLeastSketch (s : Sketch) : Type 0 where
  pub valid : IsValidSketch s
  pub form : IsLeastOfNone s ⊎ (IsLeastOfFinite s ⊎ IsLeastOfEndless s)

-- A set has one least sketch at most.
abbrev pub LeastSketchIsOne : Type 0
LeastSketchIsOne = (s u : Sketch) → IsLeastSketch s → IsLeastSketch u → HaveEqualOccurrences (StandsIn s) (StandsIn u) → s ≡ u
