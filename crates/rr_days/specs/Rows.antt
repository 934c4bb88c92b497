-- A folded series, as numbered days before the settled day and in the cycle, and its rows of numbers.
use Rattle.std.specs.Prelude.{◌≡◌, ℕ, suc, ◌+◌, ◌<◌, List, [], ◌∷◌, All, length, get_or, slice_get, Option, Some, None, ⊤, ℤ, pos, ◌+ℤ◌, ◌≤ℤ◌}
use Rattle.std.proofs.Props.{props}
use Rattle.rr_model.specs.Sets.Sketch.{times_on}
use Rattle.rr_model.specs.declared.kind.Kind.{Kind}
use Rattle.rr_model.specs.declared.sketch.DayShape.{DayShape}
use Rattle.rr_model.specs.declared.sketch.Sketch.{Sketch}
use Rattle.rr_word.specs.declared.numbered.NumberedDay.{NumberedDay}
use Rattle.rr_days.specs.Sketched.{with_day}

-- the occupied days of numbered days, whose numbers are one less than those of the sets
abbrev pub shapes_of_runs : List (List ℕ) → List NumberedDay → List DayShape
shapes_of_runs sets [] = []
shapes_of_runs sets (x ∷ xs) = with_day x.day (get_or sets (suc x.number) []) (shapes_of_runs sets xs)

-- the sketch of numbered days, whose numbers are one less than those of the sets
abbrev pub sketch_of_runs : Kind → List (List ℕ) → List NumberedDay → List NumberedDay → ℤ → ℕ → Sketch
sketch_of_runs kind sets before cycle settled period = record {
  kind = kind;
  before = shapes_of_runs sets before;
  settled = settled;
  period = period;
  cycle = shapes_of_runs sets cycle;
}

-- the set of number 0 is there, and is empty
abbrev pub HasEmptyFirst : List (List ℕ) → Type 0
HasEmptyFirst sets = (0 < length sets) × (get_or sets 0 [] ≡ [])

-- each day's number is one less than that of a set
abbrev pub AreWithin : List (List ℕ) → List NumberedDay → Type 0
AreWithin sets days = All (λ x. x.number + 1 < length sets) days

-- the days rise from this one on
abbrev pub AreRising : ℤ → List NumberedDay → Type 0
AreRising low [] = ⊤
AreRising low (x ∷ xs) = (low ≤ℤ x.day) × AreRising (x.day +ℤ pos 1) xs

pub AreRising-prop : (low : ℤ) (days : List NumberedDay) → IsProp (AreRising low days)
AreRising-prop low [] = hlevel props
AreRising-prop low (x ∷ xs) = hlevel (props, AreRising-prop (x.day +ℤ pos 1) xs)

-- the row has the numbers of the sets of the day and the days after it; if it has none the day has no seconds
pub record IsRowOn (sets : List (List ℕ)) (s : Sketch) (day : ℤ) (row : List ℕ) : Type 0 where
  pub none : row ≡ [] → times_on s day ≡ []
  pub of_days : (k : ℕ) → k < length row → slice_get sets (get_or row k 0) ≡ Some (times_on s (day +ℤ pos k))

-- the first number of a row
abbrev pub first_number : List ℕ → Option ℕ
first_number [] = None
first_number (n ∷ ns) = Some n
