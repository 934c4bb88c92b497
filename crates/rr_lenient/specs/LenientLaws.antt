-- What is known of series that are read leniently (RFC 5545, sections 3.3.10 and 3.8.5.3).
use Rattle.std.specs.Prelude.{◌≡◌, ◌≢◌, Bool, true, false, None, Some}
use Rattle.rr_model.specs.Series.Occurrences.{Occurs}
use Rattle.rr_model.specs.Series.Soundness.{first_refusal}
use Rattle.rr_model.specs.Series.Validity.{IsValidSeries}
use Rattle.rr_model.specs.Sets.Verdict.{HaveEqualOccurrences}
use Rattle.rr_model.specs.declared.refusal.Refusal.TheVariants.{UntilKind}
use Rattle.rr_model.specs.declared.rule.Series.{Series}
use Rattle.rr_lenient.specs.Ends.{with_ends_of_kind}
use Rattle.rr_lenient.specs.Lenient.{IsLenient}

-- A series is read leniently in one way, with the same marks.
abbrev pub LenientIsOne : Type 0
LenientIsOne =
    (given read other : Series) (until late start off : Bool) → IsLenient given read until start → IsLenient given other late off
    → (read ≡ other) × (until ≡ late) × (start ≡ off)

-- A series that is not refused is read as it is, with no mark.
abbrev pub TakenIsAsGiven : Type 0
TakenIsAsGiven =
    (given read : Series) (until start : Bool) → first_refusal given ≡ None → IsLenient given read until start
    → (read ≡ given) × (until ≡ false) × (start ≡ false)

-- A valid series read leniently has the occurrences that it has with each UNTIL as one of the start's kind.
abbrev pub LenientOccurs : Type 0
LenientOccurs =
    (given read : Series) (until start : Bool) → IsValidSeries given → IsLenient given read until start
    → HaveEqualOccurrences (Occurs (with_ends_of_kind given)) (Occurs read)

-- A valid series read leniently is not refused for the kind of an UNTIL, and if its start was off not at all.
abbrev pub LenientIsTaken : Type 0
LenientIsTaken =
    (given read : Series) (until start : Bool) → IsValidSeries given → IsLenient given read until start
    → (first_refusal read ≢ Some UntilKind) × (start ≡ true → first_refusal read ≡ None)
