-- The first occurrences that exactly one of two sets has.
use Rattle.std.specs.Prelude.{◌≡◌, ◌⊎◌, ℕ, ◌≤◌, ⊤, ◌≤ℤ◌, List, [], ◌∷◌, length, All, Contains}
use Rattle.rr_model.specs.Bounds.{latest_taken}
use Rattle.rr_model.specs.Moment.{Before, Occurrences, day_part}
use Rattle.rr_model.specs.Sets.Verdict.{HoldsOnlyOf, IsEqualVerdict}
use Rattle.rr_model.specs.declared.verdict.Verdict.{Verdict}
use Rattle.rr_model.specs.declared.verdict.Verdict.TheVariants.{Yes, No}
use Rattle.rr_differ.specs.declared.difference.Difference.{Difference}

-- exactly one of the two sets has it, that of its side
abbrev pub IsDifference : Occurrences → Occurrences → Difference → Type 0
IsDifference P Q d = HoldsOnlyOf d.side (P d.kind d.at) (Q d.kind d.at)

-- the first comes before the second
abbrev pub ComesBefore : Difference → Difference → Type 0
ComesBefore d e = Before d.kind d.at e.kind e.at

-- each comes before the next
abbrev pub AreInOrder : List Difference → Type 0
AreInOrder [] = ⊤
AreInOrder (d ∷ []) = ⊤
AreInOrder (d ∷ e ∷ es) = ComesBefore d e × AreInOrder (e ∷ es)

-- The list is in order, has n at most, all in it are differences, and each difference is in it, or comes after n that are.
pub record AreFirstDifferences (P Q : Occurrences) (n : ℕ) (ds : List Difference) : Type 0 where
  pub in_order : AreInOrder ds
  pub few : length ds ≤ n
  pub differ : All (IsDifference P Q) ds
  pub first : (d : Difference) → IsDifference P Q d → Contains ds d ⊎ ((length ds ≡ n) × All (λ e. ComesBefore e d) ds)

-- the day is at most the greatest one that a call takes
abbrev pub IsUpToMaxDay : Difference → Type 0
IsUpToMaxDay d = day_part d.kind d.at ≤ℤ latest_taken

-- ---- laws

-- There is at most one list of the first n differences of two sets.
abbrev pub DifferencesAreOne : Type 1
DifferencesAreOne =
    (P Q : Occurrences) (n : ℕ) (ds es : List Difference) → AreFirstDifferences P Q n ds → AreFirstDifferences P Q n es → ds ≡ es

-- the verdict is yes and there are none, or it is no and names the first one
abbrev pub IsNamedBy : Verdict → List Difference → Type 0
IsNamedBy Yes ds = ds ≡ []
IsNamedBy (No kind at side) ds = (es : List Difference) × (ds ≡ record { kind = kind; at = at; side = side } ∷ es)

-- The verdict of equality names the first of the first n differences, if n is not 0.
abbrev pub EqualNamesTheFirst : Type 1
EqualNamesTheFirst =
    (P Q : Occurrences) (n : ℕ) (ds : List Difference) (verdict : Verdict) → 1 ≤ n → AreFirstDifferences P Q n ds → IsEqualVerdict P Q verdict
    → IsNamedBy verdict ds
