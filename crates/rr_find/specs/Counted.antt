-- Counts by sort of the days of a window.
use Rattle.std.specs.Prelude.{◌≡◌, ◌⊎◌, ℕ, ◌+◌, ◌≤◌, ◌==◌, Bool, true, false, not, ◌&&◌, List, length, get_or, Option, None, Some, ℤ, pos, ◌+ℤ◌, ◌≤ℤ◌, ◌<ℤ◌}
use Rattle.rr_model.specs.Whole.Count.{one_if}
use Rattle.rr_model.specs.declared.vcal.FamilyKind.{FamilyKind}
use Rattle.rr_family.specs.Sorts.{sort_of_day}
use Rattle.rr_family.specs.Tally.{sort_passes, days_of_sort}
use Rattle.rr_find.specs.declared.tallies.Counts.{Counts}

-- the count of each sort, 0 for a sort that has none
abbrev pub count_in : List ℕ → ℕ → ℕ
count_in counts = λ sort. get_or counts sort 0

-- the count of this sort, if there is one, is one more if `counts` is true; each other count is as before
abbrev pub IsCountedOn : List ℕ → List ℕ → Option ℕ → Bool → Type 0
IsCountedOn old new sort counts = (length new ≡ length old) × ((k : ℕ)
    → get_or new k 0 ≡ get_or old k 0 + one_if (sort_passes (λ j. k == j) sort && counts))

-- the counts are those of the first n days of the window
abbrev pub AreCounts : List ℕ → (ℤ → Option ℕ) → (ℤ → Bool) → ℤ → ℕ → Type 0
AreCounts counts sort_of test first days = (k : ℕ) → get_or counts k 0 ≡ days_of_sort sort_of test first days k

-- the day has a sort
abbrev pub has_some_sort : Option ℕ → Bool
has_some_sort None = false
has_some_sort (Some sort) = true

-- each occupied day of the first `days` days from `first` on has a sort
abbrev pub AreSorted : (ℤ → Option ℕ) → (ℤ → Bool) → ℤ → ℕ → Type 0
AreSorted sort_of occupied first days = (d : ℤ) → first ≤ℤ d → d <ℤ (first +ℤ pos days) → occupied d ≡ true → has_some_sort (sort_of d) ≡ true

-- some occupied day of the first `days` days from `first` on has no sort
pub record HasUnsorted (sort_of : ℤ → Option ℕ) (occupied : ℤ → Bool) (first : ℤ) (days : ℕ) : Type 0 where
  pub day : ℤ
  pub not_before : first ≤ℤ day
  pub within : day <ℤ (first +ℤ pos days)
  pub occupied_day : occupied day ≡ true
  pub no_sort : has_some_sort (sort_of day) ≡ false

-- some sort has an occupied day and a free day among the first `days` days from `first` on
pub record HasMixed (sort_of : ℤ → Option ℕ) (occupied : ℤ → Bool) (first : ℤ) (days : ℕ) : Type 0 where
  pub sort : ℕ
  pub some_occupied : 1 ≤ days_of_sort sort_of occupied first days sort
  pub some_free : 1 ≤ days_of_sort sort_of (λ d. not (occupied d)) first days sort

-- of a day: if true, it has a sort if it is occupied; if false, it is occupied and has no sort, or some sort has an occupied
-- and a free day counted
abbrev pub IsDayResult : Bool → List ℕ → List ℕ → Option ℕ → Bool → Type 0
IsDayResult true occupied_counts free_counts sort occupied = occupied ≡ true → has_some_sort sort ≡ true
IsDayResult false occupied_counts free_counts sort occupied =
    ((occupied ≡ true) × (has_some_sort sort ≡ false)) ⊎ ((k : ℕ) × (1 ≤ get_or occupied_counts k 0) × (1 ≤ get_or free_counts k 0))

-- what a walk over n days has counted
pub record IsTallied (occupied_counts free_counts : List ℕ) (sort_of : ℤ → Option ℕ) (occupied : ℤ → Bool) (first : ℤ) (days : ℕ) : Type 0 where
  pub of_occupied : AreCounts occupied_counts sort_of occupied first days
  pub of_free : AreCounts free_counts sort_of (λ d. not (occupied d)) first days
  pub sorted : AreSorted sort_of occupied first days

-- a day is counted to its sort, in the lists of a family from a start day on, if it passes a test
abbrev pub IsDayCounted : (ℤ → Bool) → FamilyKind → ℕ → ℤ → ℤ → List ℕ → List ℕ → Type 0
IsDayCounted test kind interval start day old new = IsCountedOn old new (sort_of_day kind interval start day) (test day)

-- what the day does to the counts of occupied and of free days
abbrev pub GoesOnAfter : (ℤ → Bool) → FamilyKind → ℕ → ℤ → ℤ → List ℕ → List ℕ → Bool → Type 0
GoesOnAfter occupied kind interval start day occupied_counts free_counts goes_on =
    IsDayResult goes_on occupied_counts free_counts (sort_of_day kind interval start day) (occupied day)

-- each count is 0
abbrev pub IsNothingCounted : List ℕ → Type 0
IsNothingCounted counts = (k : ℕ) → get_or counts k 0 ≡ 0

-- the walk has counted the days, or two days tell that no list has those of the window
abbrev pub IsWalked : Bool → List ℕ → List ℕ → (ℤ → Option ℕ) → (ℤ → Bool) → ℤ → ℕ → Type 0
IsWalked true occupied_counts free_counts sort_of occupied first days = IsTallied occupied_counts free_counts sort_of occupied first days
IsWalked false occupied_counts free_counts sort_of occupied first days = HasUnsorted sort_of occupied first days ⊎ HasMixed sort_of occupied first days

-- the days of the window by sort, or none if two days tell that no list has them
abbrev pub IsTally : (ℤ → Option ℕ) → (ℤ → Bool) → ℤ → ℕ → Option Counts → Type 0
IsTally sort_of occupied first days None = HasUnsorted sort_of occupied first days ⊎ HasMixed sort_of occupied first days
IsTally sort_of occupied first days (Some counts) = IsTallied counts.occupied counts.free sort_of occupied first days

-- no sort has more days than a window can have
abbrev pub HasFewDays : List ℕ → Type 0
HasFewDays counts = (k : ℕ) → get_or counts k 0 ≤ 4_000_000_000
