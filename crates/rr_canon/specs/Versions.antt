-- The two versions of a descriptor: their first lines, and how they write a time set.
use Rattle.std.specs.Prelude.{◌≡◌, ◌↔◌, ℕ, List, Option, codes}
use Rattle.rr_model.specs.Series.Occurrences.{Occurs}
use Rattle.rr_model.specs.Sets.Descriptor.{Described, descriptor}
use Rattle.rr_model.specs.Sets.DescriptorText.{lines_of, seconds_line, text_of}
use Rattle.rr_model.specs.Sets.Printable.{IsTextOf}
use Rattle.rr_model.specs.Sets.Stretches.{stretches_line}
use Rattle.rr_model.specs.Sets.Verdict.{HaveEqualOccurrences}
use Rattle.rr_model.specs.declared.rule.Series.{Series}
use Rattle.rr_model.specs.declared.sketch.Sketch.{Sketch}
use Rattle.rr_canon.specs.declared.version.Version.{Version}
use Rattle.rr_canon.specs.declared.version.Version.TheVariants.{First, Second}

-- the first line of a canonical text in this version
abbrev pub title_of : Version → List ℕ
title_of First = codes "rrcanon 1"
title_of Second = codes "rrcanon 2"

-- the line of a time set in this version
abbrev pub set_line_of : Version → List ℕ → List ℕ
set_line_of First times = seconds_line times
set_line_of Second times = stretches_line times

-- the lines after the first of what is said
abbrev pub lines_in : Version → Option Described → List (List ℕ)
lines_in version said = lines_of (set_line_of version) said

-- the descriptor of a least sketch
abbrev pub text_in : Version → Sketch → List ℕ
text_in version s = text_of (title_of version) (set_line_of version) (descriptor s)

-- Texts of two series in this version are equal exactly if the series have equal occurrences.
abbrev pub TextsAreEqualExactly : Version → Type 0
TextsAreEqualExactly version =
    (s u : Series) (a b : List ℕ) → IsTextOf (text_in version) (Occurs s) a → IsTextOf (text_in version) (Occurs u) b
    → (a ≡ b) ↔ HaveEqualOccurrences (Occurs s) (Occurs u)
