-- What occurs in an event some of whose instances are moved or cancelled (RFC 5545, sections 3.8.4.4 and 3.8.1.11).
use Rattle.std.specs.Prelude.{◌≡◌, ◌⊎◌, ◌↔◌, Bool, true, false, List, All, ℕ, ℤ, int_lt, Ok}
use Rattle.std.specs.List.{Contains}
use Rattle.rr_model.specs.Moment.{Occurrences}
use Rattle.rr_model.specs.Rising.Sets.{IsSetOf}
use Rattle.rr_model.specs.Series.Occurrences.{IsMemberOfSome, Occurs}
use Rattle.rr_model.specs.Series.Validity.{IsValidSeries}
use Rattle.rr_model.specs.declared.kind.Kind.{Kind}
use Rattle.rr_model.specs.declared.rule.Series.{Series}
use Rattle.rr_moved.specs.Moved.{Shifts, edited_series, series_of_starts}

-- the occurrences without these moments, and these starts
abbrev pub OccursWithInstances : Occurrences → Kind → List ℤ → List ℤ → Occurrences
OccursWithInstances P kind moments starts k t = ((k ≡ kind) × Contains starts t) ⊎ (P k t × (Contains moments t → ⊥))

-- the series with its instances as dates: their starts, which no excluded rule has, are added, and their moments are
-- taken out, unless something starts there
pub record IsWithInstances (series : Series) (moments starts : List ℤ) (edited : Series) : Type 0 where
  pub kind : edited.kind ≡ series.kind
  pub start : edited.start ≡ series.start
  pub start_counts : edited.start_counts ≡ series.start_counts
  pub rules : edited.rules ≡ series.rules
  pub excluded : edited.excluded ≡ series.excluded
  pub clear : All (λ t. IsMemberOfSome series.excluded series.kind series.start t → ⊥) starts
  pub plus : IsSetOf int_lt edited.plus (λ t. Contains series.plus t ⊎ Contains starts t)
  pub minus : IsSetOf int_lt edited.minus (λ t. (Contains series.minus t ⊎ Contains moments t) × (Contains starts t → ⊥))

-- A series with its instances as dates has the occurrences that are kept, and the starts.
abbrev pub InstancesAreDates : Type 0
InstancesAreDates =
    (series edited : Series) (moments starts : List ℤ) → IsWithInstances series moments starts edited
    → (k : Kind) (t : ℤ) → Occurs edited k t ↔ OccursWithInstances (Occurs series) series.kind moments starts k t

-- The series that an event states, edited by what its instances take out and put in, is the series with its instances as dates.
abbrev pub EditedHasInstances : Type 0
EditedHasInstances =
    (place : ℕ) (series edited : Series) (shifts : Shifts) → IsValidSeries series → edited_series place series shifts ≡ Ok edited
    → IsWithInstances series shifts.moments shifts.starts edited

-- ---- what occurs

-- A series of starts alone has these starts, and no other occurrence.
abbrev pub StartsOccur : Type 0
StartsOccur = (kind : Kind) (starts : List ℤ) (k : Kind) (t : ℤ) → Occurs (series_of_starts kind starts) k t ↔ ((k ≡ kind) × Contains starts t)

-- what occurs in a series with these instances: of one that is cancelled the starts of the instances alone
abbrev pub OccursShifted : Bool → Series → Shifts → Occurrences
OccursShifted true series shifts k t = (k ≡ series.kind) × Contains shifts.starts t
OccursShifted false series shifts k t = OccursWithInstances (Occurs series) series.kind shifts.moments shifts.starts k t
