-- What is known of an UNTIL of another kind than the start (RFC 5545, section 3.3.10).
use Rattle.std.specs.Prelude.{◌≡◌, ◌≢◌, ◌↔◌, IsTrue, false, Some, ℤ, ◌≤ℤ◌}
use Rattle.rr_model.specs.Moment.{day_part, is_same_kind}
use Rattle.rr_model.specs.Series.Soundness.{first_refusal}
use Rattle.rr_model.specs.declared.kind.Kind.{Kind}
use Rattle.rr_model.specs.declared.refusal.Refusal.TheVariants.{UntilKind}
use Rattle.rr_model.specs.declared.rule.Series.{Series}
use Rattle.rr_lenient.specs.Ends.{has_other_end, until_of_kind, with_ends_of_kind}

-- A series with each UNTIL as one of the start's kind is not refused for the kind of an UNTIL.
abbrev pub NoOtherEndIsLeft : Type 0
NoOtherEndIsLeft = (series : Series) → first_refusal (with_ends_of_kind series) ≢ Some UntilKind

-- With each UNTIL as one of the start's kind a series is another exactly if one was of another kind.
abbrev pub OtherEndsChange : Type 0
OtherEndsChange = (series : Series) → IsTrue (has_other_end series) ↔ (with_ends_of_kind series ≢ series)

-- A series that is refused for the kind of an UNTIL has one of another kind than the start.
abbrev pub UntilKindIsOtherEnd : Type 0
UntilKindIsOtherEnd = (series : Series) → first_refusal series ≡ Some UntilKind → IsTrue (has_other_end series)

-- An UNTIL of another kind is read as the end of its day: an occurrence is not after it exactly if its day is not after that day.
abbrev pub EndIsReachedOnItsDay : Type 0
EndIsReachedOnItsDay =
    (kind other : Kind) (at t : ℤ) → is_same_kind kind other ≡ false → (t ≤ℤ until_of_kind kind other at) ↔ (day_part kind t ≤ℤ day_part other at)
