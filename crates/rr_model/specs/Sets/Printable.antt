-- What can be printed so that it can be told apart again.
use Rattle.std.specs.Prelude.{◌≡◌, ◌↔◌, ℕ, ◌<◌, ◌≤◌, ◌^◌, List, [], ◌∷◌, Option, Some, None, ⊤, ℤ}
use Rattle.std.specs.List.{All}
use Rattle.rr_model.specs.Calendar.{IsDayWithin}
use Rattle.rr_model.specs.Moment.Years.{IsFromYearOne}
use Rattle.rr_model.specs.Rising.Sets.{IsSecondsOfDay}
use Rattle.rr_model.specs.Sets.Descriptor.{Run, Ending, Described, descriptor}
use Rattle.rr_model.specs.Sets.Least.{IsLeastSketch}
use Rattle.rr_model.specs.Sets.Reading.{sketch_described}
use Rattle.rr_model.specs.Sets.Sketch.{IsDaySequence, StandsIn, StandsFor, times_on}
use Rattle.rr_model.specs.Sets.Verdict.{HaveEqualOccurrences}
use Rattle.rr_model.specs.declared.kind.Kind.TheVariants.{Days, Moments}
use Rattle.rr_model.specs.declared.kind.Kind.{Kind}
use Rattle.rr_model.specs.declared.sketch.Sketch.{Sketch}

-- a day from 0001-01-01 on, within MAX_DAY
abbrev pub IsPrintedDay : ℤ → Type 0
IsPrintedDay d = IsFromYearOne d × IsDayWithin 0 d

-- a number that fits in 64 bits
abbrev pub IsPrintedNumber : ℕ → Type 0
IsPrintedNumber n = n < 2 ^ 64

-- the numbers of a run are numbers of 64 bits
pub record IsPrintedRun (run : Run) : Type 0 where
  pub gap : IsPrintedNumber run.gap
  pub set : IsPrintedNumber run.set
  pub count : IsPrintedNumber run.count

-- the settled day of an ending can be printed, and the period and the numbers of its runs are numbers of 64 bits
pub record IsPrintedEnding (ending : Ending) : Type 0 where
  pub settled : IsPrintedDay ending.settled
  pub period : IsPrintedNumber ending.period
  pub cycle : All IsPrintedRun ending.cycle

-- the time sets of dates are one, with the second 0 alone; those of moments are seconds of a day
abbrev pub ArePrintedSets : Kind → List (List ℕ) → Type 0
ArePrintedSets Days sets = sets ≡ (0 ∷ []) ∷ []
ArePrintedSets Moments sets = All IsSecondsOfDay sets

-- an ending, if there is one, can be printed
abbrev pub IsPrintedIfSome : Option Ending → Type 0
IsPrintedIfSome None = ⊤
IsPrintedIfSome (Some ending) = IsPrintedEnding ending

-- each part of what is said of a set can be printed
pub record IsPrintedSet (d : Described) : Type 0 where
  pub sets : ArePrintedSets d.kind d.sets
  pub first : IsPrintedDay d.first
  pub before : All IsPrintedRun d.before
  pub ending : IsPrintedIfSome d.ending

-- what is said of a set can be printed; of the empty set nothing is said
abbrev pub IsPrinted : Option Described → Type 0
IsPrinted None = ⊤
IsPrinted (Some d) = IsPrintedSet d

-- a byte that may stand in a line: a blank, or what is printed
abbrev pub IsInLine : ℕ → Type 0
IsInLine b = 32 ≤ b

-- A way to write time sets, each in a line: it begins with `t`, has no line feed, and different time sets have different lines.
pub record IsSetLine (set_line : List ℕ → List ℕ) : Type 0 where
  pub begins : (times : List ℕ) → (rest : List ℕ) × (set_line times ≡ 116 ∷ rest)
  pub in_line : (times : List ℕ) → IsSecondsOfDay times → All IsInLine (set_line times)
  pub only : (xs ys : List ℕ) → IsSecondsOfDay xs → IsSecondsOfDay ys → set_line xs ≡ set_line ys → xs ≡ ys

-- ---- sketches with a descriptor

-- no day before 0001-01-01 is occupied
abbrev pub HasNoneBeforeYearOne : Sketch → Type 0
HasNoneBeforeYearOne s = (d : ℤ) → (times_on s d ≡ [] → ⊥) → IsFromYearOne d

-- a least sketch that can be printed
pub record IsDescribable (s : Sketch) : Type 0 where
  pub least : IsLeastSketch s
  pub bounded : IsDaySequence s
  pub from_year_one : HasNoneBeforeYearOne s

-- ---- what a descriptor tells

-- Texts of two sets are equal exactly if the sets have equal occurrences.
abbrev pub TellsSetsApart : (Sketch → List ℕ) → Type 0
TellsSetsApart text = (s u : Sketch) → IsDescribable s → IsDescribable u → (text s ≡ text u) ↔ HaveEqualOccurrences (StandsIn s) (StandsIn u)

-- The bytes are the text of the least sketch of these occurrences.
pub record IsTextOf (text : Sketch → List ℕ) (P : Kind → ℤ → Type 0) (bytes : List ℕ) : Type 0 where
  pub sketch : Sketch
  pub describable : IsDescribable sketch
  pub stands : StandsFor sketch P
  pub text_is : bytes ≡ text sketch

-- What is said of a least sketch describes that sketch again.
abbrev pub DescriptorsReadBack : Type 0
DescriptorsReadBack = (s : Sketch) → IsLeastSketch s → sketch_described (descriptor s) ≡ s
