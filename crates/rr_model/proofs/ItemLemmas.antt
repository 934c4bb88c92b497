-- The order of a vCalendar rule's items.
use Rattle.std.proofs.Common.{◌≡◌, arith}
use Rattle.std.specs.Prelude.{pos, negsuc}
use Rattle.std.specs.Ordering.{is_lt}
use Rattle.std.proofs.lemmas.Int.{ints}
use Rattle.std.proofs.lemmas.Bool.Decides.{nat_tests}
use Rattle.rr_model.specs.Vcal.Items.{item_cmp, item_lt}
use Rattle.rr_model.specs.declared.item.Item.{Item}
use Rattle.rr_model.specs.declared.item.Item.TheVariants.{Every, Weekday, MonthDay, Place, Month, YearDay}

pub item_same : (a b : Item) → is_lt (item_cmp a b) ≡ item_lt a b
item_same Every b = grind (arith, ints, nat_tests)
item_same (Weekday d) b = grind (arith, ints, nat_tests)
item_same (MonthDay (pos n)) b = grind (arith, ints, nat_tests)
item_same (MonthDay (negsuc n)) b = grind (arith, ints, nat_tests)
item_same (Place (pos n) d) b = grind (arith, ints, nat_tests)
item_same (Place (negsuc n) d) b = grind (arith, ints, nat_tests)
item_same (Month m) b = grind (arith, ints, nat_tests)
item_same (YearDay k) b = grind (arith, ints, nat_tests)
