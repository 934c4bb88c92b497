-- The days of two sequences together, by the numbers of their time sets.
use Rattle.std.specs.Prelude.{◌≡◌, ◌≢◌, ◌⊎◌, ℕ, ◌<◌, ◌≤◌, List, [], ◌∷◌, All, AllPairs, get_or, length, Result, ℤ, pos, ◌+ℤ◌, ◌≤ℤ◌, ◌<ℤ◌}
use Rattle.std.specs.Int.{◌∣◌}
use Rattle.rr_model.specs.Answers.{RefusedExactlyWhere}
use Rattle.rr_model.specs.Sets.Sketch.{IsTimeSet, times_on}
use Rattle.rr_model.specs.Sets.Sizes.{total_size}
use Rattle.rr_model.specs.declared.kind.Kind.{Kind}
use Rattle.rr_model.specs.declared.limits.TheConstants.{MAX_SECONDS}
use Rattle.rr_model.specs.declared.refusal.Fault.{Fault}
use Rattle.rr_model.specs.declared.refusal.Refusal.TheVariants.{TooManyMoments}
use Rattle.rr_model.specs.declared.sketch.Sketch.{Sketch}
use Rattle.rr_days.specs.MadeSets.{AreKnown, IsMadeOf, IsNumberOf, IsOneTooMany}
use Rattle.rr_days.specs.declared.combined_sets.CombinedSets.{CombinedSets}
use Rattle.rr_days.specs.declared.op.Op.{Op}

-- ---- the set of a day

-- the time sets of a sequence, with none at the front
abbrev pub table : List (List ℕ) → List (List ℕ)
table sets = [] ∷ sets

-- each pair of numbers that is kept here has a 32-bit number whose set is made of the sets of the pair
abbrev pub KnowsPairs : Op → List (List ℕ) → List (List ℕ) → CombinedSets → Type 0
KnowsPairs op one other sets = AreKnown op (table one) (table other) sets.shapes sets.known

-- the set of this number is made of those of both sequences on a day
abbrev pub IsNumberOfDay : Op → Sketch → Sketch → ℤ → List (List ℕ) → ℕ → Type 0
IsNumberOfDay op s u day sets number = IsNumberOf op (times_on s day) (times_on u day) sets number

-- a day has no seconds, or those of a day of this kind
abbrev pub IsDaySet : Kind → List ℕ → Type 0
IsDaySet kind times = (times ≡ []) ⊎ IsTimeSet kind times

-- each set is one of a day of this kind, and the set of number 0 is empty
pub record AreDaySets (kind : Kind) (sets : List (List ℕ)) : Type 0 where
  pub some : 0 < length sets
  pub empty : get_or sets 0 [] ≡ []
  pub all : All (λ t. t ≢ [] → IsTimeSet kind t) sets

-- each number is that of its day, from the first one on
abbrev pub AreDayNumbers : Op → Sketch → Sketch → ℤ → List (List ℕ) → List ℕ → Type 0
AreDayNumbers op s u begin sets numbers =
    (k : ℕ) → k < length numbers → IsNumberOfDay op s u (begin +ℤ pos k) sets (get_or numbers k 0)

-- ---- all days

-- where two sequences are combined: from a day before which both have none, up to a common multiple past both settled days
pub record AreTogether (s u : Sketch) (begin settled : ℤ) (period : ℕ) : Type 0 where
  pub order : begin ≤ℤ settled
  pub some : 1 ≤ period
  pub first : s.settled ≤ℤ settled
  pub second : u.settled ≤ℤ settled
  pub of_first : s.period ∣ period
  pub of_second : u.period ∣ period
  pub none_first : (d : ℤ) → d <ℤ begin → times_on s d ≡ []
  pub none_second : (d : ℤ) → d <ℤ begin → times_on u d ≡ []

-- each day has what holds of both sequences on it
abbrev pub HasDaysOf : Op → Sketch → Sketch → Sketch → Type 0
HasDaysOf op s u c = (d : ℤ) → IsMadeOf op (times_on s d) (times_on u d) (times_on c d)

-- ---- too many seconds

-- the list is made of the sets of both on some day
pub record IsMadeOnDay (op : Op) (s u : Sketch) (times : List ℕ) : Type 0 where
  pub day : ℤ
  pub made : IsMadeOf op (times_on s day) (times_on u day) times

-- each list, but an empty one, is made so
abbrev pub AreMadeOnDays : Op → Sketch → Sketch → List (List ℕ) → Type 0
AreMadeOnDays op s u sets = All (λ times. times ≢ [] → IsMadeOnDay op s u times) sets

-- distinct ones have together more than 16,777,216 seconds
pub record HasTooManyMade (op : Op) (s u : Sketch) : Type 0 where
  pub sets : List (List ℕ)
  pub distinct : AllPairs (λ a b. a ≢ b) sets
  pub made : AreMadeOnDays op s u sets
  pub above : MAX_SECONDS < total_size sets

-- beside these distinct sets the one that is made of both sequences on a day would be too many
abbrev pub IsDayTooMany : Op → Sketch → Sketch → ℤ → List (List ℕ) → Type 0
IsDayTooMany op s u day sets = IsOneTooMany op (times_on s day) (times_on u day) sets

-- too many moments are refused exactly if the distinct sets of the days have more
abbrev pub RefusedWhereTooMany : {X : Type 0} → Op → Sketch → Sketch → Result X Fault → Type 0
RefusedWhereTooMany op s u result = RefusedExactlyWhere (HasTooManyMade op s u) TooManyMoments result
