-- Days of one kind told apart by which items have them, and how many of each sort a window has.
use Rattle.std.specs.Prelude.{◌≡◌, ℕ, zero, suc, ◌+◌, ◌<◌, ◌≤◌, ◌==◌, Bool, true, false, not, ◌&&◌, if◌then◌else◌, Option, None, Some, List, ℤ, pos}
use Rattle.std.specs.Prelude.{◌+ℤ◌, ◌≤ℤ◌, ◌<ℤ◌}
use Rattle.std.specs.List.{list_any}
use Rattle.rr_model.specs.Whole.Count.{count_from}
use Rattle.rr_family.specs.Taking.{AgreeWithin, some_gives, is_sound, further_days}

-- the sum of the first n numbers
unfoldable pub sum_below : ℕ → (ℕ → ℕ) → ℕ
sum_below zero number = 0
sum_below (suc n) number = sum_below n number + number n

-- a day's sort, if it has one, passes the test
abbrev pub sort_passes : (ℕ → Bool) → Option ℕ → Bool
sort_passes test None = false
sort_passes test (Some sort) = test sort

-- how many days of the window are of this sort and pass
abbrev pub days_of_sort : (ℤ → Option ℕ) → (ℤ → Bool) → ℤ → ℕ → ℕ → ℕ
days_of_sort sort_of test first days sort = count_from (λ d. sort_passes (λ k. sort == k) (sort_of d) && test d) first days

-- A place has a day exactly if it has the day's sort; sorts are numbered below `sorts`.
pub record AreSorts (gives : ℕ → ℤ → Bool) (sorts : ℕ) (sort_of : ℤ → Option ℕ) (has : ℕ → ℕ → Bool) : Type 0 where
  pub gives_sort : (place : ℕ) (d : ℤ) → gives place d ≡ sort_passes (λ sort. has sort place) (sort_of d)
  pub below : (d : ℤ) (sort : ℕ) → sort_of d ≡ Some sort → sort < sorts

-- A place is sound exactly if no sort that it has has a day that is not occupied.
abbrev pub SoundBySorts : Type 0
SoundBySorts = (gives : ℕ → ℤ → Bool) (sorts : ℕ) (sort_of : ℤ → Option ℕ) (has : ℕ → ℕ → Bool) (occupied : ℤ → Bool) (first : ℤ) (days place : ℕ)
    → AreSorts gives sorts sort_of has
    → is_sound gives occupied first days place
    ≡ (sum_below sorts (λ sort. if has sort place then days_of_sort sort_of (λ d. not (occupied d)) first days sort else 0) == 0)

-- The further days of a place are those of the sorts that it has and no taken place has.
abbrev pub FurtherBySorts : Type 0
FurtherBySorts =
    (gives : ℕ → ℤ → Bool) (sorts : ℕ) (sort_of : ℤ → Option ℕ) (has : ℕ → ℕ → Bool) (occupied : ℤ → Bool) (first : ℤ) (days : ℕ) (taken : List ℕ) (place : ℕ)
    → AreSorts gives sorts sort_of has
    → let further = λ (sort : ℕ). has sort place && not (list_any (λ other. has sort other) taken) in
    further_days gives occupied first days taken place
    ≡ sum_below sorts (λ sort. if further sort then days_of_sort sort_of occupied first days sort else 0)

-- An occupied day of the window that has no sort is in no list.
abbrev pub UnsortedHasNoList : Type 0
UnsortedHasNoList = (gives : ℕ → ℤ → Bool) (sorts : ℕ) (sort_of : ℤ → Option ℕ) (has : ℕ → ℕ → Bool) (occupied : ℤ → Bool) (first : ℤ) (days : ℕ)
    (places : List ℕ) (d : ℤ) → AreSorts gives sorts sort_of has
    → first ≤ℤ d → d <ℤ (first +ℤ pos days) → occupied d ≡ true → sort_of d ≡ None
    → AgreeWithin (some_gives gives places) occupied first days → ⊥

-- If a sort has an occupied day of the window and one that is not, no list has the window's days.
abbrev pub MixedHasNoList : Type 0
MixedHasNoList = (gives : ℕ → ℤ → Bool) (sorts : ℕ) (sort_of : ℤ → Option ℕ) (has : ℕ → ℕ → Bool) (occupied : ℤ → Bool) (first : ℤ) (days : ℕ)
    (places : List ℕ) (sort : ℕ) → AreSorts gives sorts sort_of has
    → 1 ≤ days_of_sort sort_of occupied first days sort → 1 ≤ days_of_sort sort_of (λ d. not (occupied d)) first days sort
    → AgreeWithin (some_gives gives places) occupied first days → ⊥
