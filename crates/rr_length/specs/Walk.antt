-- How the first occurrence with two lengths is looked for: from one dated length to the next.
use Rattle.std.specs.Prelude.{◌≡◌, ◌⊎◌, ⊤, if◌then◌else◌, List, [], ◌∷◌, map, ℤ, pos, ◌+ℤ◌, ◌≤ℤ◌, ◌<ℤ◌, int_le, int_lt, Option, None, Some}
use Rattle.std.specs.Ordering.{int_eq}
use Rattle.rr_model.specs.Bounds.{earliest_near}
use Rattle.rr_model.specs.Moment.{day_part}
use Rattle.rr_model.specs.Rising.{Rises}
use Rattle.rr_model.specs.declared.sketch.Sketch.{Sketch}
use Rattle.rr_next.specs.Next.{IsBelow}
use Rattle.rr_length.specs.Lengths.{Lengths, length_by, longest_at, occurs_in}
use Rattle.rr_length.specs.declared.length.Length.{Length}
use Rattle.rr_length.specs.declared.lengths.Dated.{Dated}
use Rattle.rr_length.specs.declared.other.OtherLength.{OtherLength}
use Rattle.rr_length.specs.declared.walk.Both.{Both}

-- these lengths
abbrev pub lengths_of : Length → List Dated → Lengths
lengths_of usual dated = record { usual = usual; dated = dated }

-- ---- dated lengths in order

-- when the occurrence of a dated length starts
abbrev pub at_of : Dated → ℤ
at_of dated = dated.at

-- dated lengths rise by their moments
abbrev pub HasRisingDates : List Dated → Type 0
HasRisingDates dated = Rises int_lt (map at_of dated)

-- no dated length stands before the one before it
abbrev pub HasOrderedDates : List Dated → Type 0
HasOrderedDates dated = Rises int_le (map at_of dated)

-- each moment has one longest dated length in both
abbrev pub HaveOneLongest : List Dated → List Dated → Type 0
HaveOneLongest ds es = (t : ℤ) → longest_at ds t ≡ longest_at es t

-- ---- dated lengths in turn

-- dated lengths in order begin at this moment or later
abbrev pub BeginFrom : ℤ → List Dated → Type 0
BeginFrom t [] = ⊤
BeginFrom t (d ∷ ds) = t ≤ℤ d.at

-- the first of two moments
abbrev pub earlier : ℤ → ℤ → ℤ
earlier t u = if int_lt u t then u else t

-- the moment behind a dated start, or the one that is looked at if it is later
pub record IsBehind (at date next : ℤ) : Type 0 where
  pub late : at ≤ℤ next
  pub after : date <ℤ next
  pub soon : (next ≡ (date +ℤ pos 1)) ⊎ (next ≡ at)

-- the first moment of two lists of rising dated lengths
abbrev pub first_date : List Dated → List Dated → Option ℤ
first_date [] [] = None
first_date (d ∷ ds) [] = Some d.at
first_date [] (e ∷ es) = Some e.at
first_date (d ∷ ds) (e ∷ es) = Some (earlier d.at e.at)

-- the first dated length stands at this moment
abbrev pub IsFirstAt : ℤ → List Dated → Type 0
IsFirstAt t [] = ⊥
IsFirstAt t (d ∷ ds) = d.at ≡ t

-- Of these dated lengths the occurrence at a moment has this length, those before it have the usual one, and those after it have the
-- lengths that the rest says.
pub record IsTaken (usual : Length) (dated : List Dated) (at : ℤ) (rest : List Dated) (here : Length) : Type 0 where
  pub before : (t : ℤ) → t <ℤ at → length_by usual dated t ≡ usual
  pub there : length_by usual dated at ≡ here
  pub after : (t : ℤ) → at <ℤ t → length_by usual dated t ≡ length_by usual rest t

-- ---- occurrences from a moment on

-- each occurrence from a moment on and below an end has one length in both
abbrev pub AreEqualFrom : (ℤ → Type 0) → (ℤ → Length) → (ℤ → Length) → ℤ → Option ℤ → Type 0
AreEqualFrom P f g at end = (t : ℤ) → P t → at ≤ℤ t → IsBelow end t → f t ≡ g t

-- this is the first occurrence from a moment on and below an end that has two lengths
pub record IsFirstOtherFrom (P : ℤ → Type 0) (f g : ℤ → Length) (at : ℤ) (end : Option ℤ) (other : OtherLength) : Type 0 where
  pub occurs : P other.at
  pub from : at ≤ℤ other.at
  pub below : IsBelow end other.at
  pub of_a : other.a ≡ f other.at
  pub of_b : other.b ≡ g other.at
  pub differs : other.a ≡ other.b → ⊥
  pub first : AreEqualFrom P f g at (Some other.at)

-- one length at a moment, and another one elsewhere
abbrev pub stepped : Length → Length → ℤ → ℤ → Length
stepped usual here date t = if int_eq t date then here else usual

-- no occurrence stands at the moment, or it has one length
abbrev pub IsNoOther : Sketch → ℤ → Both → Type 0
IsNoOther s at both = occurs_in s at → both.a ≡ both.b

-- the occurrence at the moment has two lengths
pub record IsOtherAt (s : Sketch) (at : ℤ) (both : Both) (other : OtherLength) : Type 0 where
  pub occurs : occurs_in s at
  pub is : other.at ≡ at
  pub of_a : other.a ≡ both.a
  pub of_b : other.b ≡ both.b
  pub differs : other.a ≡ other.b → ⊥

-- a moment from which on a sequence is asked
abbrev pub IsAsked : Sketch → ℤ → Type 0
IsAsked s at = (earliest_near ≤ℤ day_part s.kind at) × (day_part s.kind at ≤ℤ pos 2_400_000_000_000)
