-- What a line, and one item of a rule, adds to a text (vCalendar 1.0, basic recurrence rule grammar).
use Rattle.std.specs.Prelude.{ℕ, ℤ, List, [], ◌++◌, codes, Option, None, Some}
use Rattle.std.specs.Fmt.{decimal}
use Rattle.rr_model.specs.Text.Written.{basic_text, weekday_text}
use Rattle.rr_model.specs.Vcal.Written.{month_day_text, place_text, vcal_line, vrule_text}
use Rattle.rr_model.specs.declared.kind.Kind.{Kind}
use Rattle.rr_model.specs.declared.vcal.VRule.{VRule}
use Rattle.rr_model.specs.declared.item.Item.{Item}
use Rattle.rr_model.specs.declared.item.Item.TheVariants.{Every, Weekday, MonthDay, Place, Month, YearDay}

-- a line with one date or moment
abbrev pub vcal_date_line : List ℕ → Kind → ℤ → List ℕ
vcal_date_line name kind at = vcal_line name (basic_text kind at)

-- a line with a rule
abbrev pub vcal_rule_line : List ℕ → VRule → List ℕ
vcal_rule_line name rule = vcal_line name (vrule_text rule)

-- the place of an item, if it has one
abbrev pub place_of_item : Item → Option ℤ
place_of_item (Place n k) = Some n
place_of_item item = None

-- an item as it is written after an item with this place, or with none; the same place is not written again
abbrev pub item_text : Option ℤ → Item → List ℕ
item_text place Every = []
item_text place (Weekday k) = codes " " ++ weekday_text k
item_text place (MonthDay n) = codes " " ++ month_day_text n
item_text place (Place n k) = place_text place n ++ codes " " ++ weekday_text k
item_text place (Month m) = codes " " ++ decimal m
item_text place (YearDay k) = codes " " ++ decimal k
