-- The lengths of the occurrences of one key, and where those of two part (RFC 5545, sections 3.6.1, 3.8.4.4 and 3.8.5.3).
use Rattle.std.specs.Prelude.{◌≡◌, if◌then◌else◌, List, [], ◌∷◌, ℤ, pos, neg_ℤ, ◌≤ℤ◌, ◌<ℤ◌, Option, None, Some}
use Rattle.std.specs.List.{All}
use Rattle.std.specs.Ordering.{int_eq}
use Rattle.rr_model.specs.Sets.Sketch.{StandsIn}
use Rattle.rr_model.specs.declared.sketch.Sketch.{Sketch}
use Rattle.rr_length.specs.Length.{longer_of}
use Rattle.rr_length.specs.declared.length.Length.{Length}
use Rattle.rr_length.specs.declared.lengths.Dated.{Dated}
use Rattle.rr_length.specs.declared.other.OtherLength.{OtherLength}

-- the lengths of the occurrences of a key: the usual one, and those of the occurrences that have one of their own
pub record Lengths : Type 0 where
  pub usual : Length
  pub dated : List Dated

-- ---- the length of an occurrence

-- the longer of a length and of another one, if there is another
abbrev pub longer_than : Length → Option Length → Length
longer_than l None = l
longer_than l (Some m) = longer_of l m

-- the longest of the dated lengths at a moment
abbrev pub longest_at : List Dated → ℤ → Option Length
longest_at [] t = None
longest_at (d ∷ ds) t = if int_eq d.at t then Some (longer_than d.length (longest_at ds t)) else longest_at ds t

-- a length, and the usual one if there is none
abbrev pub length_or : Length → Option Length → Length
length_or usual None = usual
length_or usual (Some l) = l

-- the longest of the dated lengths at a moment, otherwise the usual one
abbrev pub length_by : Length → List Dated → ℤ → Length
length_by usual dated t = length_or usual (longest_at dated t)

-- the length of the occurrence at a moment
abbrev pub length_at : Lengths → ℤ → Length
length_at lengths t = length_by lengths.usual lengths.dated t

-- ---- what is looked at

-- within 1,000,000,000,000 of 0: each moment and each date of the years 1 to 9999 is
abbrev pub IsNearDate : ℤ → Type 0
IsNearDate t = (neg_ℤ (pos 1_000_000_000_000) ≤ℤ t) × (t ≤ℤ pos 1_000_000_000_000)

-- dated lengths stand near
abbrev pub HasNearDates : List Dated → Type 0
HasNearDates dated = All (λ d. IsNearDate d.at) dated

-- ---- occurrences of two lengths

-- an occurrence of the sketch's own kind
abbrev pub occurs_in : Sketch → ℤ → Type 0
occurs_in s t = StandsIn s s.kind t

-- each occurrence has one length in both
abbrev pub AreEqualLengths : (ℤ → Type 0) → Lengths → Lengths → Type 0
AreEqualLengths P a b = (t : ℤ) → P t → length_at a t ≡ length_at b t

-- each occurrence before this moment has one length in both
abbrev pub AreEqualBefore : (ℤ → Type 0) → Lengths → Lengths → ℤ → Type 0
AreEqualBefore P a b at = (t : ℤ) → P t → t <ℤ at → length_at a t ≡ length_at b t

-- this is the first occurrence that has two lengths, with both
pub record IsFirstOther (P : ℤ → Type 0) (a b : Lengths) (other : OtherLength) : Type 0 where
  pub occurs : P other.at
  pub of_a : other.a ≡ length_at a other.at
  pub of_b : other.b ≡ length_at b other.at
  pub differs : other.a ≡ other.b → ⊥
  pub first : AreEqualBefore P a b other.at

-- this is the first occurrence that has two lengths, if there is one; if some dated length is not near, none is told
abbrev pub IsAnsweredOther : (ℤ → Type 0) → Lengths → Lengths → Option OtherLength → Type 0
IsAnsweredOther P a b None = HasNearDates a.dated → HasNearDates b.dated → AreEqualLengths P a b
IsAnsweredOther P a b (Some other) = HasNearDates a.dated × HasNearDates b.dated × IsFirstOther P a b other

-- ---- laws

-- There is one first occurrence with two lengths at most.
abbrev pub FirstOtherIsOne : Type 0
FirstOtherIsOne =
    (s : Sketch) (a b : Lengths) (one two : OtherLength) → IsFirstOther (occurs_in s) a b one → IsFirstOther (occurs_in s) a b two → one ≡ two
