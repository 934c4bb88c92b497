-- The parts of a rule that list numbers (RFC 5545, section 3.3.10).
use Rattle.std.specs.Prelude.{ℕ, if◌then◌else◌, ℤ, pos, int_lt, nat_abs, List, [], ◌∷◌, ◌++◌, length, count_by, codes}
use Rattle.std.specs.Fmt.{decimal}
use Rattle.rr_wording.specs.Dates.{month_name}
use Rattle.rr_wording.specs.Lists.{said_in_order}
use Rattle.rr_wording.specs.Numbers.{numbered, place, place_from_back, plural_end}
use Rattle.rr_wording.specs.declared.part.Part.{Part}
use Rattle.rr_wording.specs.declared.part.Part.TheVariants.{Month, Week, YearDay, MonthDay, EveryMonthDay, OnlyMonthDay, Hour, Minute, Second}
use Rattle.rr_wording.specs.declared.part.Part.TheVariants.{Position}

-- a week of a year
unfoldable pub week_words : ℤ → List ℕ
week_words n = if int_lt n (pos 0) then codes "the " ++ place_from_back (nat_abs n) ++ codes " week" else codes "week " ++ decimal (nat_abs n)

-- a value of a part
unfoldable pub value_words : Part → ℤ → List ℕ
value_words Month n = month_name (nat_abs n)
value_words Week n = week_words n
value_words YearDay n = codes "the " ++ numbered n
value_words MonthDay n = numbered n
value_words EveryMonthDay n = numbered n
value_words OnlyMonthDay n = numbered n
value_words Hour n = decimal (nat_abs n)
value_words Minute n = decimal (nat_abs n)
value_words Second n = decimal (nat_abs n)
value_words Position n = codes "the " ++ place n

-- the word before the last of several values
unfoldable pub last_word : Part → List ℕ
last_word OnlyMonthDay = codes " or "
last_word part = codes " and "

-- what stands before the values
unfoldable pub lead_words : Part → List ℕ
lead_words Month = codes " in "
lead_words Week = codes " in "
lead_words YearDay = codes " on "
lead_words MonthDay = codes " on the "
lead_words EveryMonthDay = codes " on the "
lead_words OnlyMonthDay = codes " (if that is the "
lead_words Hour = codes " at the hour"
lead_words Minute = codes " at the minute"
lead_words Second = codes " at the second"
lead_words Position = codes " (of these "

-- the ending of what stands before n values, if it names what they count
unfoldable pub lead_end : Part → ℕ → List ℕ
lead_end Hour n = plural_end n ++ codes " "
lead_end Minute n = plural_end n ++ codes " "
lead_end Second n = plural_end n ++ codes " "
lead_end part n = []

-- what stands behind the values
unfoldable pub tail_words : Part → List ℕ
tail_words Week = codes " of the year"
tail_words YearDay = codes " day of the year"
tail_words MonthDay = codes " day of the month"
tail_words EveryMonthDay = codes " day of every month"
tail_words OnlyMonthDay = codes " day of the month)"
tail_words Position = codes ")"
tail_words part = []

-- how many numbers count from the back; of numbers that rise they are the first
unfoldable pub from_back : List ℤ → ℕ
from_back numbers = count_by (λ n. int_lt n (pos 0)) numbers

-- the values of a part
unfoldable pub values_words : Part → List ℤ → List ℕ
values_words part numbers = said_in_order (value_words part) (last_word part) (from_back numbers) numbers

-- a part, unless it is absent
unfoldable pub part_words : Part → List ℤ → List ℕ
part_words part [] = []
part_words part (n ∷ ns) =
    lead_words part ++ lead_end part (length (n ∷ ns)) ++ values_words part (n ∷ ns) ++ tail_words part
