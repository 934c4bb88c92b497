-- Worked sets: what is taken for a kind and an interval, and the order of patterns.
use Rattle.std.proofs.Common.{◌≡◌, ℕ, true, false, List, [], ◌∷◌, ℤ, pos, negsuc, refl}
use Rattle.rr_model.specs.declared.kind.Kind.TheVariants.{Days}
use Rattle.rr_model.specs.declared.sketch.DayShape.{DayShape}
use Rattle.rr_model.specs.declared.sketch.Sketch.{Sketch}
use Rattle.rr_model.specs.Calendar.{weekday_of, day_of_month, month_of, year_of, days_into_year, first_day_of_year, months_over, days_of_months}
use Rattle.rr_model.specs.Whole.Count.{count_from}
use Rattle.rr_model.specs.Calendar.Week.{week_index}
use Rattle.rr_model.specs.declared.graph.Form.{Form}
use Rattle.rr_model.specs.declared.graph.Form.TheVariants.{Daily, Weekly, RelativeMonthly}
use Rattle.rr_model.specs.declared.graph.Pattern.{Pattern}
use Rattle.rr_model.specs.declared.vcal.FamilyKind.TheVariants as family
use Rattle.rr_model.specs.declared.item.Item.TheVariants.{Every, Weekday, MonthDay, Place, Month}
use Rattle.rr_family.specs.GraphProfile.{key_lt, pattern_key}
use Rattle.rr_family.specs.Taking.{taken_within}
use Rattle.rr_family.specs.Profile.{comes_before, list_items}

-- ---- lists

-- dates on these days
abbrev shapes : List ℤ → List DayShape
shapes [] = []
shapes (d ∷ ds) = record { day = d; times = 0 ∷ [] } ∷ shapes ds

abbrev dates : List ℤ → Sketch
dates days = record { kind = Days; before = shapes days; settled = pos 20_000; period = 1; cycle = [] }

-- 2024-01-01 and 2024-01-03: each second day
each_second_day : list_items (dates (pos 19_723 ∷ pos 19_725 ∷ [])) family.D 2 (pos 19_723) 3 ≡ Every ∷ []
unfolding taken_within count_from
each_second_day = refl

-- the same: Monday and Wednesday of each week
two_weekdays : list_items (dates (pos 19_723 ∷ pos 19_725 ∷ [])) family.W 1 (pos 19_723) 3 ≡ Weekday 0 ∷ Weekday 2 ∷ []
unfolding taken_within count_from week_index weekday_of
two_weekdays = refl

-- 2024-01-01 and 2024-01-15: no weekday of each week, as 2024-01-08 is a Monday too
a_week_between : list_items (dates (pos 19_723 ∷ pos 19_737 ∷ [])) family.W 1 (pos 19_723) 15 ≡ []
unfolding taken_within count_from week_index weekday_of
a_week_between = refl

-- 2024-02-29 and 2024-03-31: the last day of each month, neither 29 nor 31
month_ends : list_items (dates (pos 19_782 ∷ pos 19_813 ∷ [])) family.MD 1 (pos 19_782) 32 ≡ MonthDay (negsuc 0) ∷ []
unfolding taken_within count_from weekday_of day_of_month month_of year_of days_into_year first_day_of_year months_over days_of_months
month_ends = refl

-- 2024-03-31 alone: of 31 and the last day the first in order
one_month_end : list_items (dates (pos 19_813 ∷ [])) family.MD 1 (pos 19_813) 1 ≡ MonthDay (pos 31) ∷ []
unfolding taken_within count_from weekday_of day_of_month month_of year_of days_into_year first_day_of_year months_over days_of_months
one_month_end = refl

-- 2024-02-26 and 2024-03-25: the fourth Monday and the last one of both, of which the fourth comes first
fourth_mondays : list_items (dates (pos 19_779 ∷ pos 19_807 ∷ [])) family.MP 1 (pos 19_779) 29 ≡ Place (pos 4) 0 ∷ []
unfolding taken_within count_from weekday_of day_of_month month_of year_of days_into_year first_day_of_year months_over days_of_months
fourth_mondays = refl

-- 2024-01-10 and 2024-02-10: January and February, on the day of the month of the start
two_months : list_items (dates (pos 19_732 ∷ pos 19_763 ∷ [])) family.YM 1 (pos 19_732) 32 ≡ Month 1 ∷ Month 2 ∷ []
unfolding taken_within count_from weekday_of day_of_month month_of year_of days_into_year first_day_of_year months_over days_of_months
two_months = refl

-- ---- orders

-- all kinds of one interval come before those of the next
intervals_first : comes_before 1 family.YD 2 family.D ≡ true
intervals_first = refl

kinds_next : comes_before 3 family.MP 3 family.MD ≡ false
kinds_next = refl

abbrev pattern_of : Form → ℕ → ℕ → ℕ → ℤ → Pattern
pattern_of form interval days first_day index = record {
  form = form;
  interval = interval;
  day_of_month = 0;
  month = 0;
  days = days;
  first_day = first_day;
  index = index;
}

-- weeks from Sunday on come before weeks from Monday on
sunday_first : key_lt (pattern_key (pattern_of Weekly 2 127 6 (pos 1))) (pattern_key (pattern_of Weekly 2 1 0 (pos 1))) ≡ true
sunday_first = refl

-- the last of a month comes after the fourth
last_index_last : key_lt (pattern_key (pattern_of RelativeMonthly 1 1 6 (negsuc 0))) (pattern_key (pattern_of RelativeMonthly 1 127 6 (pos 4))) ≡ false
last_index_last = refl

-- an interval comes before a type
interval_before_type : key_lt (pattern_key (pattern_of RelativeMonthly 1 1 6 (pos 1))) (pattern_key (pattern_of Daily 2 0 6 (pos 1))) ≡ true
interval_before_type = refl
