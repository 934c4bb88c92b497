-- Occurrences that are not far from day 0.
use Rattle.std.specs.Prelude.{⊤, Bool, IsTrue, Option, MatchOption, ℤ, pos, neg_ℤ, ◌≤ℤ◌}
use Rattle.rr_model.specs.Bounds.{latest_taken}
use Rattle.rr_model.specs.Moment.{day_part}
use Rattle.rr_model.specs.Sets.Sketch.{IsEmptySketch, StandsIn}
use Rattle.rr_model.specs.declared.kind.Kind.{Kind}
use Rattle.rr_model.specs.declared.sketch.Sketch.{Sketch}
use Rattle.rr_model.specs.declared.verdict.Side.{Side}
use Rattle.rr_model.specs.declared.verdict.Side.TheVariants.{A, B}
use Rattle.rr_model.specs.declared.verdict.Verdict.{Verdict}
use Rattle.rr_model.specs.declared.verdict.Verdict.TheVariants.{Yes, No}
use Rattle.rr_decide.specs.Question.{IsFirstOccurrence, IsVerdictBy, ShareNothing}
use Rattle.rr_decide.specs.declared.occurrence.Occurrence.{Occurrence}

-- an occurrence's instant can be compared: its number lies within 100,000,000,000,000 of 0
abbrev pub IsNearOccurrence : Occurrence → Type 0
IsNearOccurrence o = (neg_ℤ (pos 100_000_000_000_000) ≤ℤ o.at) × (o.at ≤ℤ pos 100_000_000_000_000)

-- the day of the occurrence is at most the greatest one that a call takes
abbrev pub IsUpToMaxDay : Kind → ℤ → Type 0
IsUpToMaxDay kind at = day_part kind at ≤ℤ latest_taken

-- a No names an occurrence on a day that is at most the greatest one that a call takes
abbrev pub NamesUpToMaxDay : Verdict → Type 0
NamesUpToMaxDay Yes = ⊤
NamesUpToMaxDay (No kind at side) = IsUpToMaxDay kind at

-- the first occurrence of the sketch; none if it has none
abbrev pub IsFirstOrNone : Sketch → Option Occurrence → Type 0
IsFirstOrNone s first = MatchOption first (IsEmptySketch s) (λ o. IsFirstOccurrence s o.kind o.at)

-- the first occurrence of the sketch if it is asked for; none if it is not, or if the sketch is empty
abbrev pub IsFirstIf : Bool → Sketch → Option Occurrence → Type 0
IsFirstIf asked s first = MatchOption first (IsTrue asked → IsEmptySketch s) (λ o. IsTrue asked × IsFirstOccurrence s o.kind o.at)

-- the verdict on any two sketches with nothing in common that have these first occurrences, each given if an occurrence of its side shows no
abbrev pub IsVerdictApart : Option Occurrence → Option Occurrence → Verdict → Type 0
IsVerdictApart of_a of_b verdict =
    (shows : Side → Bool) (s u : Sketch) → ShareNothing s u → IsFirstIf (shows A) s of_a → IsFirstIf (shows B) u of_b
    → IsVerdictBy shows (StandsIn s) (StandsIn u) verdict
