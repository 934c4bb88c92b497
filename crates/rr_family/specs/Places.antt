-- The items of each kind of rule, in the order in which they are tried and written.
use Rattle.std.specs.Prelude.{ℕ, ◌+◌, ◌-◌, ◌/◌, ◌%◌, nat_lt, Bool, if◌then◌else◌, ℤ, pos, neg_ℤ}
use Rattle.rr_model.specs.Vcal.Members.{item_has_day}
use Rattle.rr_model.specs.declared.vcal.FamilyKind.{FamilyKind}
use Rattle.rr_model.specs.declared.vcal.FamilyKind.TheVariants as family
use Rattle.rr_model.specs.declared.item.Item.{Item}
use Rattle.rr_model.specs.declared.item.Item.TheVariants.{Every, Weekday, MonthDay, Place, Month, YearDay}

-- how many different items a rule of this kind can list
abbrev pub many_items : FamilyKind → ℕ
many_items family.D = 1
many_items family.W = 7
many_items family.MD = 62
many_items family.MP = 70
many_items family.YM = 12
many_items family.YD = 366

-- 1 up to the most, then -1 down to the most from the back
abbrev pub from_both_ends : ℕ → ℕ → ℤ
from_both_ends most index = if nat_lt index most then pos (index + 1) else neg_ℤ (pos (index - most + 1))

-- the item that has this index among those of a kind of rule
abbrev pub item_at : FamilyKind → ℕ → Item
item_at family.D index = Every
item_at family.W index = Weekday index
item_at family.MD index = MonthDay (from_both_ends 31 index)
item_at family.MP index = Place (from_both_ends 5 (index / 7)) (index % 7)
item_at family.YM index = Month (index + 1)
item_at family.YD index = YearDay (index + 1)

-- the item of a place has the day
abbrev pub place_has_day : FamilyKind → ℕ → ℤ → ℕ → ℤ → Bool
place_has_day family interval start place d = item_has_day family interval start (item_at family place) d
