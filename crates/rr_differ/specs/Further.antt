-- How many occurrences that exactly one of two sets has come after the first of them, and until when.
use Rattle.std.specs.Prelude.{◌≡◌, ⊤, ℕ, ◌≤◌, ℤ, ◌≤ℤ◌, ◌<ℤ◌, List, [], ◌∷◌, ◌++◌, length, All, Contains}
use Rattle.rr_model.specs.Moment.{Occurrences, day_part}
use Rattle.rr_model.specs.Sets.Sketch.{StandsIn}
use Rattle.rr_model.specs.declared.sketch.Sketch.{Sketch}
use Rattle.rr_differ.specs.Differences.{AreFirstDifferences, AreInOrder, IsDifference, IsUpToMaxDay}
use Rattle.rr_differ.specs.declared.difference.Difference.{Difference}
use Rattle.rr_differ.specs.declared.further.Further.{Further}
use Rattle.rr_differ.specs.declared.further.Further.TheVariants.{NoMore, Until, Many, ForEver}

-- ---- whether they end

-- each difference lies before this day
abbrev pub EndBefore : Occurrences → Occurrences → ℤ → Type 0
EndBefore P Q day = (d : Difference) → IsDifference P Q d → day_part d.kind d.at <ℤ day

-- the differences end
abbrev pub End : Occurrences → Occurrences → Type 0
End P Q = (day : ℤ) × EndBefore P Q day

-- after each day there comes a difference
abbrev pub NeverEnd : Occurrences → Occurrences → Type 0
NeverEnd P Q = (day : ℤ) → (d : Difference) × (day <ℤ day_part d.kind d.at) × IsDifference P Q d

-- ---- how many come after the first

-- there is one difference at most
abbrev pub IsOneAtMost : Occurrences → Occurrences → Type 0
IsOneAtMost P Q = (d e : Difference) → IsDifference P Q d → IsDifference P Q e → d ≡ e

-- these are all the differences, in order
pub record AreAllDifferences (P Q : Occurrences) (ds : List Difference) : Type 0 where
  pub in_order : AreInOrder ds
  pub differ : All (IsDifference P Q) ds
  pub each : (d : Difference) → IsDifference P Q d → Contains ds d

-- All the differences are the first, and those after it: `count`, at most 9,999, of which this is the last.
pub record AreUntil (P Q : Occurrences) (count : ℕ) (last : Difference) : Type 0 where
  pub first : Difference
  pub between : List Difference
  pub all : AreAllDifferences P Q (first ∷ between ++ last ∷ [])
  pub counted : count ≡ length (between ++ last ∷ [])
  pub few : count ≤ 9_999

-- They end, and there are 10,001 at least, so that more than 9,999 come after the first.
pub record AreMany (P Q : Occurrences) : Type 0 where
  pub ends : End P Q
  pub some : List Difference
  pub in_order : AreInOrder some
  pub differ : All (IsDifference P Q) some
  pub many : length some ≡ 10_001

-- what comes after the first difference
abbrev pub IsFurther : Occurrences → Occurrences → Further → Type 0
IsFurther P Q NoMore = IsOneAtMost P Q
IsFurther P Q (Until count last) = AreUntil P Q count last
IsFurther P Q Many = AreMany P Q
IsFurther P Q ForEver = NeverEnd P Q

-- what comes after the first difference of any two sketches whose differences end, and of which these are the first 10,001
abbrev pub IsFurtherBy : List Difference → Further → Type 0
IsFurtherBy found further =
    (s u : Sketch) → End (StandsIn s) (StandsIn u) → AreFirstDifferences (StandsIn s) (StandsIn u) 10_001 found
    → IsFurther (StandsIn s) (StandsIn u) further

-- the day of the last, if it is told, is at most the greatest one that a call takes
abbrev pub LastIsUpToMaxDay : Further → Type 0
LastIsUpToMaxDay NoMore = ⊤
LastIsUpToMaxDay (Until count last) = IsUpToMaxDay last
LastIsUpToMaxDay Many = ⊤
LastIsUpToMaxDay ForEver = ⊤

-- ---- laws

-- There is one answer at most.
abbrev pub FurtherIsOne : Type 1
FurtherIsOne = (P Q : Occurrences) (one other : Further) → IsFurther P Q one → IsFurther P Q other → one ≡ other
