-- Weeks at the borders of years that are known (ISO 8601, and weeks that begin on Sunday), worked out from the definitions.
use Rattle.std.proofs.Common.{◌≡◌, ℕ, ℤ, pos, refl}
use Rattle.rr_model.specs.Calendar.{day_number, first_day_of_year, year_of, weekday_of, days_of_months, days_into_year, kind_of_year}
use Rattle.rr_model.specs.Calendar.Week.{week_index, fourth_day, week_year, week_number, last_week}

-- the day's week belongs to this year, with this number, and that year's last week has that number
abbrev IsWeekOf : ℤ → ℕ → ℤ → ℕ → ℕ → Type 0
IsWeekOf d w year number last = (week_year (week_index d w) w ≡ year) × (week_number (week_index d w) w ≡ number) × (last_week year w ≡ last)

sunday_2005_01_02 : IsWeekOf (day_number (pos 2005) 1 2) 0 (pos 2004) 53 53
unfolding day_number first_day_of_year year_of days_of_months days_into_year week_index fourth_day week_year week_number last_week
sunday_2005_01_02 = (refl, refl, refl)

monday_1997_12_29 : IsWeekOf (day_number (pos 1997) 12 29) 0 (pos 1998) 1 53
unfolding day_number first_day_of_year year_of days_of_months days_into_year week_index fourth_day week_year week_number last_week
monday_1997_12_29 = (refl, refl, refl)

-- if weeks begin on Sunday
sunday_1997_12_28 : IsWeekOf (day_number (pos 1997) 12 28) 6 (pos 1997) 53 53
unfolding day_number first_day_of_year year_of days_of_months days_into_year week_index fourth_day week_year week_number last_week
sunday_1997_12_28 = (refl, refl, refl)

kinds : (kind_of_year (pos 2024) ≡ 7) × (kind_of_year (pos 2023) ≡ 6) × (kind_of_year (pos 2000) ≡ 12)
unfolding kind_of_year first_day_of_year weekday_of
kinds = (refl, refl, refl)
