-- Occurrences that last, and the seconds in which occurrences of two sets run.
use Rattle.std.specs.Prelude.{⊤, ◌≡◌, ◌≤◌, ℕ, ℤ, pos, ◌+ℤ◌, ◌≤ℤ◌, ◌<ℤ◌}
use Rattle.rr_model.specs.Bounds.{latest_taken}
use Rattle.rr_model.specs.Whole.{floor_div}
use Rattle.rr_model.specs.Moment.{Occurrences, day_part, instant_of}
use Rattle.rr_model.specs.Sets.Sketch.{StandsIn}
use Rattle.rr_model.specs.declared.kind.Kind.{Kind}
use Rattle.rr_model.specs.declared.kind.Kind.TheVariants.{Days, Moments}
use Rattle.rr_model.specs.declared.sketch.Sketch.{Sketch}
use Rattle.rr_overlap.specs.declared.clash.Clash.{Clash}
use Rattle.rr_overlap.specs.declared.clash.Clash.TheVariants.{Yes, No}

-- an occurrence that lasts `duration` seconds runs in this second: a date from its midnight on
pub record Runs (P : Occurrences) (duration : ℕ) (second : ℤ) : Type 0 where
  pub kind : Kind
  pub at : ℤ
  pub occurs : P kind at
  pub begun : instant_of kind at ≤ℤ second
  pub not_over : second <ℤ (instant_of kind at +ℤ pos duration)

-- an occurrence of each set runs in it
abbrev pub IsShared : Occurrences → ℕ → Occurrences → ℕ → ℤ → Type 0
IsShared P duration Q other second = Runs P duration second × Runs Q other second

-- the last occurrence of the set that does not begin after this second
pub record IsLastBegun (P : Occurrences) (second : ℤ) (kind : Kind) (at : ℤ) : Type 0 where
  pub occurs : P kind at
  pub begun : instant_of kind at ≤ℤ second
  pub last : (l : Kind) (u : ℤ) → P l u → instant_of l u ≤ℤ second → instant_of l u ≤ℤ instant_of kind at

-- the least shared second, and the last occurrence of each that does not begin after it
pub record IsFirstClash (P : Occurrences) (duration : ℕ) (Q : Occurrences) (other : ℕ) (k l : Kind) (second at_first at_second : ℤ) : Type 0 where
  pub shared : IsShared P duration Q other second
  pub least : (y : ℤ) → y <ℤ second → IsShared P duration Q other y → ⊥
  pub of_first : IsLastBegun P second k at_first
  pub of_second : IsLastBegun Q second l at_second

-- Yes if no second is shared; no with the first clash, its occurrences in the kinds of their sets.
abbrev pub IsClashVerdict : Occurrences → ℕ → Occurrences → ℕ → Kind → Kind → Clash → Type 0
IsClashVerdict P duration Q other k l Yes = (x : ℤ) → IsShared P duration Q other x → ⊥
IsClashVerdict P duration Q other k l (No x t u) = IsFirstClash P duration Q other k l x t u

-- the verdict on the occurrences of two sketches
abbrev pub IsClashVerdictOn : Sketch → ℕ → Sketch → ℕ → Clash → Type 0
IsClashVerdictOn s duration u other clash = IsClashVerdict (StandsIn s) duration (StandsIn u) other s.kind u.kind clash

-- a duration from 1 second to 366 days
abbrev pub IsDuration : ℕ → Type 0
IsDuration d = (1 ≤ d) × (d ≤ 31_622_400)

-- the number of the occurrence of this kind that begins at this second
abbrev pub occurrence_at : Kind → ℤ → ℤ
occurrence_at Days second = floor_div second 86_400
occurrence_at Moments second = second

-- the second of a no lies on a day up to the greatest one
abbrev pub NamesUpToMaxDay : Clash → Type 0
NamesUpToMaxDay Yes = ⊤
NamesUpToMaxDay (No at a b) = day_part Moments at ≤ℤ latest_taken

-- Two sets, each with a duration, have at most one verdict of a clash.
abbrev pub ClashIsOne : Type 0
ClashIsOne =
    (s u : Sketch) (d e : ℕ) (k l : Kind) (c f : Clash) → IsClashVerdict (StandsIn s) d (StandsIn u) e k l c
    → IsClashVerdict (StandsIn s) d (StandsIn u) e k l f
    → c ≡ f
