-- The items of a vCalendar 1.0 rule and their order.
use Rattle.std.specs.Prelude.{ℕ, ◌+◌, nat_lt, Bool, true, false, ◌&&◌, ◌||◌, ℤ, pos, negsuc, nat_abs}
use Rattle.std.proofs.Common.{rules}
use Rattle.std.specs.Cmp.{IsTotalOrder}
use Rattle.std.specs.Cmp.Rules.{comparing}
use Rattle.std.specs.Ordering.{int_eq, nat_cmp, on, then_cmp, eq_by_cmp}
use Rattle.std.specs.declared.cmp.Ordering.{Ordering}
use Rattle.rr_model.specs.declared.item.Item.{Item}
use Rattle.rr_model.specs.declared.item.Item.TheVariants.{Every, Weekday, MonthDay, Place, Month, YearDay}
use Rattle.rr_model.specs.declared.item.ItemKey.{ItemKey}

-- the rank of an item's variant
abbrev pub item_rank : Item → ℕ
item_rank Every = 0
item_rank (Weekday d) = 1
item_rank (MonthDay n) = 2
item_rank (Place n d) = 3
item_rank (Month m) = 4
item_rank (YearDay k) = 5

-- places from the front rise, and then places from the back, the last one first
abbrev pub is_place_before : ℤ → ℤ → Bool
is_place_before (pos a) (pos b) = nat_lt a b
is_place_before (pos a) (negsuc b) = true
is_place_before (negsuc a) (pos b) = false
is_place_before (negsuc a) (negsuc b) = nat_lt a b

-- the first of two items of one variant comes before the second
abbrev pub is_item_before : Item → Item → Bool
is_item_before (Weekday d) (Weekday e) = nat_lt d e
is_item_before (MonthDay n) (MonthDay m) = is_place_before n m
is_item_before (Place n d) (Place m e) = is_place_before n m || (int_eq n m && nat_lt d e)
is_item_before (Month m) (Month n) = nat_lt m n
is_item_before (YearDay k) (YearDay l) = nat_lt k l
is_item_before a b = false

-- the order in which items rise
abbrev pub item_lt : Item → Item → Bool
item_lt a b = nat_lt (item_rank a) (item_rank b) || is_item_before a b

-- ---- the same order by a key

-- the variant, and one more if its number counts from the back
abbrev pub group_of : ℕ → ℤ → ℕ
group_of group (pos n) = group
group_of group (negsuc n) = group + 1

-- what the order of items compares, field by field
abbrev pub item_key : Item → ItemKey
item_key Every = record { group = 0; number = 0; weekday = 0 }
item_key (Weekday d) = record { group = 1; number = d; weekday = 0 }
item_key (MonthDay n) = record { group = group_of 2 n; number = nat_abs n; weekday = 0 }
item_key (Place n d) = record { group = group_of 4 n; number = nat_abs n; weekday = d }
item_key (Month m) = record { group = 6; number = m; weekday = 0 }
item_key (YearDay k) = record { group = 7; number = k; weekday = 0 }

-- the order of items, by their keys
abbrev pub item_cmp : Item → Item → Ordering
item_cmp = on item_key (then_cmp (on (λ k. k.group) nat_cmp) (then_cmp (on (λ k. k.number) nat_cmp) (on (λ k. k.weekday) nat_cmp)))

-- two items are equal by the order of items
abbrev pub item_eq : Item → Item → Bool
item_eq = eq_by_cmp item_cmp

-- `item_cmp` is a total order
pub item_total : IsTotalOrder item_cmp
item_total = search (comparing, rules)
