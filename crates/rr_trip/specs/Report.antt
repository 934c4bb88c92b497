-- What is said of each key of two calendars.
use Rattle.std.specs.Prelude.{◌≡◌, ℕ, ◌+◌, ◌≤◌, Bool, true, false, if◌then◌else◌, All, List, [], ◌∷◌, length, slice_get, Option, None, Some}
use Rattle.rr_groups.specs.Groups.{AreGroups}
use Rattle.rr_groups.specs.declared.group.Group.{Group}
use Rattle.rr_seam.specs.Stated.{Stated}
use Rattle.rr_seam.specs.declared.key.Key.{Key}
use Rattle.rr_trip.specs.Found.{AreFoundIf}
use Rattle.rr_trip.specs.Parts.{ArePartsIf}
use Rattle.rr_trip.specs.Said.{IsPrintableSaid, IsSaid, marks_said}
use Rattle.rr_trip.specs.Zoned.{ZonedCalendar}
use Rattle.rr_trip.specs.declared.found.Found.{Found}
use Rattle.rr_trip.specs.declared.found.FoundAgain.{FoundAgain}
use Rattle.rr_trip.specs.declared.likeness.Likeness.{Likeness}
use Rattle.rr_trip.specs.declared.likeness.Likeness.TheVariants.{Moments, Times, Start, OtherTitle}
use Rattle.rr_trip.specs.declared.report.Partner.{Partner}
use Rattle.rr_trip.specs.declared.report.ReportLine.{ReportLine}

-- what the events of these indexes state together, if they are some
abbrev pub stated_in : (List ℕ → Stated) → List ℕ → Option Stated
stated_in stated [] = None
stated_in stated (i ∷ is) = Some (stated (i ∷ is))

-- the title of the first of these events in A, otherwise of the first of those in B, if there is one
abbrev pub title_by : (ℕ → List ℕ) → (ℕ → List ℕ) → List ℕ → List ℕ → Option (List ℕ)
title_by a b (i ∷ is) js = Some (a i)
title_by a b [] (j ∷ js) = Some (b j)
title_by a b [] [] = None

-- the title, if titles are asked for
abbrev pub title_if : Bool → Option (List ℕ) → Option (List ℕ)
title_if titles title = if titles then title else None

-- ---- what a line is of

-- what a line is of: a key with its events in A and in B, and the key of those in B if that is another one
pub record Subject : Type 0 where
  pub key : Key
  pub a : List ℕ
  pub b : List ℕ
  pub partner : Option Partner

-- the events were found again though their titles differ
abbrev pub has_other_title : Likeness → Bool
has_other_title Moments = false
has_other_title Times = false
has_other_title Start = false
has_other_title OtherTitle = true

-- a line of the events of one key in both calendars
pub record IsOwnSubject (groups : List Group) (n : ℕ) (subject : Subject) : Type 0 where
  pub group : Group
  pub at : slice_get groups n ≡ Some group
  pub is : subject ≡ record { key = group.key; a = group.a.items; b = group.b.items; partner = None }

-- a line of the events of a key in A, and of those of another in B under which they are found again
pub record IsPairSubject (groups : List Group) (n : ℕ) (found : Found) (subject : Subject) : Type 0 where
  pub group : Group
  pub other : Group
  pub at : slice_get groups n ≡ Some group
  pub other_at : slice_get groups found.index ≡ Some other
  pub is :
      subject
      ≡ record {
        key = group.key;
        a = group.a.items;
        b = other.b.items;
        partner = Some (record { key = other.key; has_other_title = has_other_title found.likeness });
      }

-- what the line of a group is of, by what it is found again as in B
abbrev pub IsSubject : List Group → ℕ → Option Found → Subject → Type 0
IsSubject groups n None subject = IsOwnSubject groups n subject
IsSubject groups n (Some found) subject = IsPairSubject groups n found subject

-- ---- lines

-- the line says what is so of its events, and how they are read, with their title if titles are asked for
pub record IsLineOf (titles : Bool) (a b : ZonedCalendar) (subject : Subject) (line : ReportLine) : Type 0 where
  pub of_key : line.key ≡ subject.key
  pub partner : line.partner ≡ subject.partner
  pub said : IsSaid a.means b.means (stated_in a.stated subject.a) (stated_in b.stated subject.b) line.said
  pub marked : line.marks ≡ marks_said (stated_in a.stated subject.a) (stated_in b.stated subject.b) line.said
  pub titled : line.title ≡ title_if titles (title_by a.titles b.titles subject.a subject.b)
  pub in_a : line.in_a.items ≡ subject.a
  pub in_b : line.in_b.items ≡ subject.b
  pub printable : IsPrintableSaid line.said

-- the line is that of the group at this index
pub record IsLineAt (titles : Bool) (a b : ZonedCalendar) (groups : List Group) (n : ℕ) (found : Option Found) (line : ReportLine) : Type 0 where
  pub subject : Subject
  pub is_subject : IsSubject groups n found subject
  pub is_line : IsLineOf titles a b subject line

-- The lines of groups, from this index on: one for each, but none for a group of B that is found again in A, whose events stand in the line
-- of that group.
pub data AreLinesFrom (titles : Bool) (a b : ZonedCalendar) (groups : List Group) (found : FoundAgain) : ℕ → List ReportLine → Type 0 where
  end : (n : ℕ) → length groups ≤ n → AreLinesFrom titles a b groups found n []
  passed : (n : ℕ) (in_a : Found) (lines : List ReportLine) → slice_get found.b.items n ≡ Some (Some in_a)
      → AreLinesFrom titles a b groups found (n + 1) lines → AreLinesFrom titles a b groups found n lines
  line : (n : ℕ) (in_b : Option Found) (line : ReportLine) (lines : List ReportLine) → slice_get found.b.items n ≡ Some None
      → slice_get found.a.items n ≡ Some in_b → IsLineAt titles a b groups n in_b line → AreLinesFrom titles a b groups found (n + 1) lines
      → AreLinesFrom titles a b groups found n (line ∷ lines)

-- Each key of either calendar is in one group, in their order, but one that is only a place in each file in two. Each group has one line, but
-- two groups that are found to be the same events have one together. Each line says what is so of its events, and how they are read, with
-- their title if titles are asked for. If events are to be found by their UID alone, none is found again under another key.
pub record IsReport (by_uid titles : Bool) (a b : ZonedCalendar) (lines : List ReportLine) : Type 0 where
  pub by_key : List Group
  pub groups : List Group
  pub found : FoundAgain
  pub are_by_key : AreGroups a.keys b.keys by_key
  pub are_groups : ArePartsIf by_uid by_key groups
  pub are_found : AreFoundIf by_uid a b groups found
  pub are_lines : AreLinesFrom titles a b groups found 0 lines
  pub printable : All (λ (line : ReportLine). IsPrintableSaid line.said) lines
