-- What the canonical texts of two series tell.
use Rattle.std.specs.Prelude.{◌≡◌, ◌↔◌, ℕ, List}
use Rattle.rr_model.specs.Series.Occurrences.{Occurs}
use Rattle.rr_model.specs.Sets.DescriptorText.{descriptor_text}
use Rattle.rr_model.specs.Sets.Printable.{IsTextOf}
use Rattle.rr_model.specs.Sets.Verdict.{HaveEqualOccurrences}
use Rattle.rr_model.specs.declared.rule.Series.{Series}

-- Texts of two series are equal exactly if the series have equal occurrences.
abbrev pub CanonIsEqualExactly : Type 0
CanonIsEqualExactly =
    (s u : Series) (a b : List ℕ) → IsTextOf descriptor_text (Occurs s) a → IsTextOf descriptor_text (Occurs u) b
    → (a ≡ b) ↔ HaveEqualOccurrences (Occurs s) (Occurs u)
