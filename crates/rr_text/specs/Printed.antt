-- What is printed of a verdict: its side, and which dates and moments can be.
use Rattle.std.specs.Prelude.{ℕ, ℤ, List, codes, ⊤}
use Rattle.rr_model.specs.Calendar.{IsDayWithin}
use Rattle.rr_model.specs.Moment.{day_part}
use Rattle.rr_model.specs.Moment.Years.{IsFromYearOne}
use Rattle.rr_model.specs.declared.kind.Kind.{Kind}
use Rattle.rr_model.specs.declared.verdict.Side.{Side}
use Rattle.rr_model.specs.declared.verdict.Side.TheVariants.{A, B, Both}
use Rattle.rr_model.specs.declared.verdict.Verdict.{Verdict}
use Rattle.rr_model.specs.declared.verdict.Verdict.TheVariants.{Yes, No}

-- a side as it is printed
abbrev pub side_text : Side → List ℕ
side_text A = codes "A"
side_text B = codes "B"
side_text Both = codes "both"

-- the date or moment can be printed: its day is within the limit and does not lie before the year 1
abbrev pub IsPrintableAt : Kind → ℤ → Type 0
IsPrintableAt kind at = IsFromYearOne (day_part kind at) × IsDayWithin 0 (day_part kind at)

-- a no names a counterexample that can be printed
abbrev pub IsPrintable : Verdict → Type 0
IsPrintable Yes = ⊤
IsPrintable (No kind at side) = IsPrintableAt kind at
