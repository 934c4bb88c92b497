-- The sorts of days that each kind of rule tells apart: two days of one sort are in the same items.
use Rattle.std.specs.Prelude.{ℕ, ◌+◌, ◌-◌, ◌*◌, ◌/◌, ◌%◌, ◌==◌, Bool, true, ◌&&◌, ◌||◌, if◌then◌else◌, Option, None, Some, ℤ, ◌-ℤ◌}
use Rattle.rr_model.specs.Calendar.{weekday_of, day_of_month, month_of, day_of_year, year_of, days_in_month}
use Rattle.rr_model.specs.Whole.{divides}
use Rattle.rr_model.specs.Vcal.Members.{family_unit}
use Rattle.rr_model.specs.declared.vcal.FamilyKind.{FamilyKind}
use Rattle.rr_model.specs.declared.vcal.FamilyKind.TheVariants as family
use Rattle.rr_family.specs.Places.{place_has_day}
use Rattle.rr_family.specs.Tally.{AreSorts}

-- how many sorts a kind tells apart
abbrev pub many_sorts : FamilyKind → ℕ
many_sorts family.D = 1
many_sorts family.W = 7
many_sorts family.MD = 124
many_sorts family.MP = 175
many_sorts family.YM = 12
many_sorts family.YD = 366

-- how many days the month of a day has
abbrev pub days_in_month_of : ℤ → ℕ
days_in_month_of d = days_in_month (year_of d) (month_of d)

-- the sort of the k-th day of a month of n days: k and the month's length
abbrev pub month_day_sort : ℕ → ℕ → ℕ
month_day_sort k many = (k - 1) * 4 + (many - 28)

-- the sort of a weekday that is the k-th day of a month of n days: its rank from the front, from the back, and the weekday
abbrev pub place_sort : ℕ → ℕ → ℕ → ℕ
place_sort k many weekday = ((k - 1) / 7 * 5 + (many - k) / 7) * 7 + weekday

-- the sort of a day whose unit counts
abbrev pub sort_in_unit : FamilyKind → ℤ → ℤ → Option ℕ
sort_in_unit family.D start d = Some 0
sort_in_unit family.W start d = Some (weekday_of d)
sort_in_unit family.MD start d = Some (month_day_sort (day_of_month d) (days_in_month_of d))
sort_in_unit family.MP start d = Some (place_sort (day_of_month d) (days_in_month_of d) (weekday_of d))
sort_in_unit family.YM start d = if day_of_month d == day_of_month start then Some (month_of d - 1) else None
sort_in_unit family.YD start d = Some (day_of_year d - 1)

-- the sort of a day; none if its unit does not count
abbrev pub sort_of_day : FamilyKind → ℕ → ℤ → ℤ → Option ℕ
sort_of_day f interval start d = if divides interval (family_unit f d -ℤ family_unit f start) then sort_in_unit f start d else None

-- the item at the index has the days of the sort
abbrev pub has_sort : FamilyKind → ℕ → ℕ → Bool
has_sort family.D sort index = true
has_sort family.W sort index = index == sort
has_sort family.MD sort index = (index == sort / 4) || (index == 31 + (sort % 4 + 27 - sort / 4))
has_sort family.MP sort index = (index % 7 == sort % 7) && ((index / 7 == sort / 35) || (index / 7 == 5 + sort / 7 % 5))
has_sort family.YM sort index = index == sort
has_sort family.YD sort index = index == sort

-- Of each kind an item has a day exactly if it has the day's sort, and the sorts are numbered below `many_sorts`.
abbrev pub KindsHaveSorts : Type 0
KindsHaveSorts = (f : FamilyKind) (interval : ℕ) (start : ℤ)
    → AreSorts (place_has_day f interval start) (many_sorts f) (sort_of_day f interval start) (has_sort f)
