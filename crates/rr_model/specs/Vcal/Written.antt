-- The text that is written for a series of vCalendar 1.0 (basic recurrence rule grammar).
use Rattle.std.specs.Prelude.{ℕ, suc, ◌==◌, if◌then◌else◌, ℤ, pos, negsuc, List, [], ◌∷◌, ◌++◌, codes, Option, None, Some}
use Rattle.std.specs.Fmt.{decimal}
use Rattle.std.specs.Ordering.{int_eq}
use Rattle.rr_model.specs.declared.rule.End.{End}
use Rattle.rr_model.specs.declared.rule.End.TheVariants.{Never, Until, Count, Both}
use Rattle.rr_model.specs.declared.vcal.FamilyKind.{FamilyKind}
use Rattle.rr_model.specs.declared.vcal.FamilyKind.TheVariants as family
use Rattle.rr_model.specs.declared.item.Item.{Item}
use Rattle.rr_model.specs.declared.item.Item.TheVariants.{Every, Weekday, MonthDay, Place, Month, YearDay}
use Rattle.rr_model.specs.declared.vcal.VRule.{VRule}
use Rattle.rr_model.specs.declared.vcal.VSeries.{VSeries}
use Rattle.rr_model.specs.Text.Written.{basic_text, line_break, lines_of, weekday_text}

-- a kind as it is written
unfoldable pub family_text : FamilyKind → List ℕ
family_text family.D = codes "D"
family_text family.W = codes "W"
family_text family.MD = codes "MD"
family_text family.MP = codes "MP"
family_text family.YM = codes "YM"
family_text family.YD = codes "YD"

-- a place from the front with `+`, from the back with `-`
abbrev pub marked_text : ℤ → List ℕ
marked_text (pos n) = decimal n ++ codes "+"
marked_text (negsuc n) = decimal (suc n) ++ codes "-"

-- a day of the month; the last is LD
abbrev pub month_day_text : ℤ → List ℕ
month_day_text (pos n) = decimal n
month_day_text (negsuc n) = if n == 0 then codes "LD" else decimal (suc n) ++ codes "-"

-- a place, if it is not the one before it
abbrev pub place_text : Option ℤ → ℤ → List ℕ
place_text None n = codes " " ++ marked_text n
place_text (Some before) n = if int_eq before n then [] else codes " " ++ marked_text n

-- the items after each other, each after a blank; a place is written if the one before it differs
abbrev pub items_text : Option ℤ → List Item → List ℕ
items_text place [] = []
items_text place (Every ∷ items) = items_text None items
items_text place (Weekday k ∷ items) = codes " " ++ weekday_text k ++ items_text None items
items_text place (MonthDay n ∷ items) = codes " " ++ month_day_text n ++ items_text None items
items_text place (Place n k ∷ items) = place_text place n ++ codes " " ++ weekday_text k ++ items_text (Some n) items
items_text place (Month m ∷ items) = codes " " ++ decimal m ++ items_text None items
items_text place (YearDay k ∷ items) = codes " " ++ decimal k ++ items_text None items

-- `#m`, `#0` for no end, an end moment alone, or both
abbrev pub vcal_end_text : End → List ℕ
vcal_end_text Never = codes " #0"
vcal_end_text (Count m) = codes " #" ++ decimal m
vcal_end_text (Until kind at) = codes " " ++ basic_text kind at
vcal_end_text (Both kind at m) = codes " #" ++ decimal m ++ codes " " ++ basic_text kind at

-- a rule as it is written
unfoldable pub vrule_text : VRule → List ℕ
vrule_text rule = family_text rule.family ++ decimal rule.interval ++ items_text None rule.items ++ vcal_end_text rule.end

-- a line of a name and a value
abbrev pub vcal_line : List ℕ → List ℕ → List ℕ
vcal_line name value = name ++ codes ":" ++ value ++ line_break

-- what is written for a vCalendar series; lines are not folded
unfoldable pub vcal_written : VSeries → List ℕ
vcal_written series =
    vcal_line (codes "DTSTART") (basic_text series.kind series.start) ++ lines_of (λ rule. vcal_line (codes "RRULE") (vrule_text rule)) series.rules
    ++ lines_of (λ rule. vcal_line (codes "EXRULE") (vrule_text rule)) series.excluded
    ++ lines_of (λ at. vcal_line (codes "RDATE") (basic_text series.kind at)) series.plus
    ++ lines_of (λ at. vcal_line (codes "EXDATE") (basic_text series.kind at)) series.minus
