-- What is known of series that are restated (RFC 5545, section 3.8.5.3).
use Rattle.std.specs.Prelude.{◌≡◌, Bool, true, IsTrue, None, Some, ℤ}
use Rattle.rr_model.specs.Rule.Chosen.{is_chosen}
use Rattle.rr_model.specs.Rule.Validity.{IsValidRule}
use Rattle.rr_model.specs.Series.Occurrences.{Occurs}
use Rattle.rr_model.specs.Series.Soundness.{first_refusal}
use Rattle.rr_model.specs.Series.Validity.{IsValidSeries}
use Rattle.rr_model.specs.Sets.Verdict.{HaveEqualOccurrences}
use Rattle.rr_model.specs.declared.kind.Kind.{Kind}
use Rattle.rr_model.specs.declared.refusal.Refusal.TheVariants.{NotSynchronised}
use Rattle.rr_model.specs.declared.rule.Rule.{Rule}
use Rattle.rr_model.specs.declared.rule.Series.{Series}
use Rattle.rr_start.specs.Start.{IsReread, IsStartOff}

-- From each moment that it chooses a rule chooses what it chooses from its start.
abbrev pub LaterStartsChoose : Type 0
LaterStartsChoose =
    (rule : Rule) (kind : Kind) (start later t : ℤ) → IsValidRule kind rule → IsTrue (is_chosen rule kind start later)
    → is_chosen rule kind later t ≡ is_chosen rule kind start t

-- A valid series read anew has the same occurrences.
abbrev pub RereadOccurs : Type 0
RereadOccurs = (given read : Series) (off : Bool) → IsValidSeries given → IsReread given read off → HaveEqualOccurrences (Occurs given) (Occurs read)

-- A series is read anew in one way.
abbrev pub RereadIsOne : Type 0
RereadIsOne = (given read other : Series) (a b : Bool) → IsReread given read a → IsReread given other b → (read ≡ other) × (a ≡ b)

-- A valid series that is restated is not refused.
abbrev pub RereadIsTaken : Type 0
RereadIsTaken = (given read : Series) → IsValidSeries given → IsReread given read true → first_refusal read ≡ None

-- A series whose start is off is refused for its first rule, which does not choose the start.
abbrev pub OffIsNotSynchronised : Type 0
OffIsNotSynchronised = (series : Series) (first : ℤ) → IsStartOff series first → first_refusal series ≡ Some (NotSynchronised 1)

-- The start of a series that is not refused is never off.
abbrev pub TakenIsNotOff : Type 0
TakenIsNotOff = (series : Series) (first : ℤ) → first_refusal series ≡ None → IsStartOff series first → ⊥
