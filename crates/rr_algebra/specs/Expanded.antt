-- The sequence of the days that a descriptor states.
use Rattle.std.specs.Prelude.{◌≡◌, ◌≢◌, ℕ, ◌+◌, ◌-◌, ◌<◌, ◌≤◌, List, [], ◌++◌, All, drop, get_or, length, map, nat_abs, replicate, Option, Some, None, Result, Ok, Err, Vec, ⊤, ℤ, pos}
use Rattle.std.specs.Prelude.{◌-ℤ◌, ◌≤ℤ◌}
use Rattle.std.specs.Global.{Global}
use Rattle.rr_model.specs.Sets.Descriptor.{Run, Ending, Described}
use Rattle.rr_model.specs.Sets.Reading.{sketch_with, steps_of_runs}
use Rattle.rr_model.specs.Sets.Sketch.{IsTimeSet}
use Rattle.rr_model.specs.declared.kind.Kind.{Kind}
use Rattle.rr_model.specs.declared.limits.TheConstants.{MAX_CYCLE_DAYS, MAX_SECONDS}
use Rattle.rr_model.specs.declared.refusal.Fault.{Fault}
use Rattle.rr_model.specs.declared.refusal.Fault.TheVariants.{Refused, NoMemory}
use Rattle.rr_model.specs.declared.refusal.Refusal.TheVariants.{NotCanonical}
use Rattle.rr_model.specs.declared.sketch.Sketch.{Sketch}
use Rattle.rr_algebra.specs.Dense.{AreSteps, dense}
use Rattle.rr_algebra.specs.Found.{IsReadDay, run_in}
use Rattle.rr_algebra.specs.Items.{RefusedWhereNot}
use Rattle.rr_algebra.specs.Parts.{Parts}
use Rattle.rr_algebra.specs.declared.runs.Run.{Run as RunRead}

-- the empty set has number 0, and each other number has a time set
pub record HasSets (kind : Kind) (count : ℕ) (shapes : List (List ℕ)) : Type 0 where
  pub whole : length shapes ≡ count
  pub some : 1 ≤ count
  pub few : count ≤ MAX_SECONDS + 1
  pub empty : get_or shapes 0 [] ≡ []
  pub filled : (k : ℕ) → 1 ≤ k → k < length shapes → get_or shapes k [] ≢ []
  pub time_sets : All (λ t. t ≢ [] → IsTimeSet kind t) shapes

-- a period that a descriptor may state: from 1 day to `MAX_CYCLE_DAYS`
abbrev pub IsReadPeriod : ℕ → Type 0
IsReadPeriod period = (1 ≤ period) × (period ≤ MAX_CYCLE_DAYS)

-- the days of runs before the last day
abbrev pub AreFinite : ℕ → ℤ → List Run → Type 0
AreFinite count first before = AreSteps (nat_abs (pos 40_000_000 -ℤ first)) (count - 1) 0 0 (steps_of_runs before)

-- the days of runs before the settled day, and those of the first period
pub record AreEndless (count : ℕ) (first : ℤ) (before : List Run) (e : Ending) : Type 0 where
  pub settled : IsReadDay e.settled
  pub order : first ≤ℤ e.settled
  pub period : IsReadPeriod e.period
  pub before_steps : AreSteps (nat_abs (e.settled -ℤ first)) (count - 1) 0 0 (steps_of_runs before)
  pub cycle_steps : AreSteps e.period (count - 1) 0 0 (steps_of_runs e.cycle)

-- the runs of a set that ends, or of one that repeats, have their days in their places
abbrev pub AreEndlessIfSome : ℕ → ℤ → List Run → Option Ending → Type 0
AreEndlessIfSome count first before None = AreFinite count first before
AreEndlessIfSome count first before (Some e) = AreEndless count first before e

-- parts whose days lie in their places and within the bounds
pub record AreExpandable (count : ℕ) (p : Parts) : Type 0 where
  pub first : IsReadDay p.first
  pub days : AreEndlessIfSome count p.first p.before p.ending

-- what a descriptor with these parts says; the empty set of number 0 is left out
abbrev pub described_in : Kind → List (List ℕ) → ℤ → List Run → Option Ending → Described
described_in kind shapes first before ending =
    record { kind = kind; sets = drop 1 shapes; first = first; before = before; ending = ending }

-- the sequence is the one that the runs of a set that ends state
pub record IsFiniteExpanded (kind : Kind) (count : ℕ) (shapes : List (List ℕ)) (first : ℤ) (before : List RunRead) (s : Sketch) : Type 0 where
  pub same : s ≡ sketch_with (described_in kind shapes first (map run_in before) None) None
  pub steps : AreFinite count first (map run_in before)

-- the sequence is the one that the runs of a set that repeats state
pub record IsEndlessExpanded (kind : Kind) (count : ℕ) (shapes : List (List ℕ)) (first : ℤ) (before : List RunRead) (e : Ending) (s : Sketch) : Type 0 where
  pub same : s ≡ sketch_with (described_in kind shapes first (map run_in before) (Some e)) (Some e)
  pub steps : AreEndless count first (map run_in before) e

-- the sequence is the one that is stated
pub record IsExpanded (kind : Kind) (count : ℕ) (shapes : List (List ℕ)) (p : Parts) (s : Sketch) : Type 0 where
  pub same : s ≡ sketch_with (described_in kind shapes p.first p.before p.ending) p.ending
  pub expandable : AreExpandable count p

-- a refusal comes only if the runs of a set that ends leave their places
abbrev pub RefusedWhereNotFinite : {X : Type 0} → ℕ → ℤ → List RunRead → Result X Fault → Type 0
RefusedWhereNotFinite count first before result = RefusedWhereNot (AreFinite count first (map run_in before)) result

-- a refusal comes only if the runs of a set that repeats leave their places
abbrev pub RefusedWhereNotEndless : {X : Type 0} → ℕ → ℤ → List RunRead → Ending → Result X Fault → Type 0
RefusedWhereNotEndless count first before e result = RefusedWhereNot (AreEndless count first (map run_in before) e) result

-- a refusal comes only if days leave their places or the bounds
abbrev pub RefusedWhereNotExpandable : {X : Type 0} → ℕ → Parts → Result X Fault → Type 0
RefusedWhereNotExpandable count p result = RefusedWhereNot (AreExpandable count p) result

-- the numbers, and 0 for each further one of `days` days
abbrev pub padded_to : ℕ → List ℕ → List ℕ
padded_to days numbers = numbers ++ replicate (days - length numbers) 0

-- the runs before the settled day stay within `days` days, those of the cycle within `period` days, and each has one of the
-- first `sets` sets
abbrev pub AreBoth : ℕ → ℕ → ℕ → List RunRead → List RunRead → Type 0
AreBoth days period sets before cycle =
    AreSteps days sets 0 0 (steps_of_runs (map run_in before)) × AreSteps period sets 0 0 (steps_of_runs (map run_in cycle))

-- the numbers of the days before the settled day and of one period, or NotCanonical if a run leaves its places
abbrev pub NumbersEndless : ℕ → ℕ → ℕ → List RunRead → List RunRead → Result (Vec ℕ Global) Fault → Type 0
NumbersEndless days period sets before cycle (Ok numbers) =
    (numbers.items ≡ padded_to days (dense 0 0 (steps_of_runs (map run_in before))) ++ padded_to period (dense 0 0 (steps_of_runs (map run_in cycle))))
    × AreBoth days period sets before cycle
NumbersEndless days period sets before cycle (Err (Refused refusal)) = (refusal ≡ NotCanonical) × (AreBoth days period sets before cycle → ⊥)
NumbersEndless days period sets before cycle (Err NoMemory) = ⊤
