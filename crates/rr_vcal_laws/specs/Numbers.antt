-- Numbers of items that a smaller type holds (vCalendar 1.0, basic recurrence rule grammar).
use Rattle.std.specs.Prelude.{◌≤◌}
use Rattle.rr_model.specs.declared.item.Item.{Item}
use Rattle.rr_model.specs.declared.item.Item.TheVariants.{YearDay}

-- an item that is a day of the year is at most the 366th day; any other item passes
abbrev pub HasDayOfYear : Item → Type 0
HasDayOfYear (YearDay k) = k ≤ 366
HasDayOfYear item = Unit {0}
