-- A law of the printed texts of dates and moments (ISO 8601).
use Rattle.std.specs.Prelude.{◌≡◌, ℤ}
use Rattle.rr_model.specs.Text.Moments.{extended_text}
use Rattle.rr_model.specs.declared.kind.Kind.{Kind}
use Rattle.rr_text.specs.Printed.{IsPrintableAt}

-- A printed text is the text of one date or moment alone.
abbrev pub PrintedTextsDiffer : Type 0
PrintedTextsDiffer =
    (kind : Kind) (t u : ℤ) → IsPrintableAt kind t → IsPrintableAt kind u → extended_text kind t ≡ extended_text kind u → t ≡ u
