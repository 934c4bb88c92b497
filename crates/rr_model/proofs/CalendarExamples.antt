-- Days and dates that are known, worked out from the definitions.
use Rattle.std.proofs.Common.{◌≡◌, pos, neg_ℤ, true, false, refl}
use Rattle.rr_model.specs.Calendar.{day_number, first_day_of_year, year_of, month_of, day_of_month, day_of_year, weekday_of, days_of_months, months_over}
use Rattle.rr_model.specs.Calendar.{days_into_year, is_date}

first_of_year_1 : day_number (pos 1) 1 1 ≡ neg_ℤ (pos 719_162)
unfolding day_number first_day_of_year days_of_months
first_of_year_1 = refl

epoch : day_number (pos 1970) 1 1 ≡ pos 0
unfolding day_number first_day_of_year days_of_months
epoch = refl

leap_day_2000 : day_number (pos 2000) 2 29 ≡ pos 11_016
unfolding day_number first_day_of_year days_of_months
leap_day_2000 = refl

last_of_9999 : day_number (pos 9999) 12 31 ≡ pos 2_932_896
unfolding day_number first_day_of_year days_of_months
last_of_9999 = refl

last_of_year_0 : day_number (pos 0) 12 31 ≡ neg_ℤ (pos 719_163)
unfolding day_number first_day_of_year days_of_months
last_of_year_0 = refl

leap_day_minus_400 : is_date (neg_ℤ (pos 400)) 2 29 ≡ true
leap_day_minus_400 = refl

no_leap_day_1900 : is_date (pos 1900) 2 29 ≡ false
no_leap_day_1900 = refl

date_of_leap_day : (year_of (pos 11_016) ≡ pos 2000) × (month_of (pos 11_016) ≡ 2) × (day_of_month (pos 11_016) ≡ 29) × (day_of_year (pos 11_016) ≡ 60)
    × (weekday_of (pos 11_016) ≡ 1)
unfolding year_of month_of day_of_month day_of_year weekday_of days_into_year months_over first_day_of_year days_of_months
date_of_leap_day = (refl, refl, refl, refl, refl)

date_of_last_day : (year_of (neg_ℤ (pos 719_163)) ≡ pos 0) × (month_of (neg_ℤ (pos 719_163)) ≡ 12) × (day_of_month (neg_ℤ (pos 719_163)) ≡ 31)
    × (day_of_year (neg_ℤ (pos 719_163)) ≡ 366) × (weekday_of (neg_ℤ (pos 719_163)) ≡ 6)
unfolding year_of month_of day_of_month day_of_year weekday_of days_into_year months_over first_day_of_year days_of_months
date_of_last_day = (refl, refl, refl, refl, refl)

the_epoch : (year_of (pos 0) ≡ pos 1970) × (month_of (pos 0) ≡ 1) × (day_of_month (pos 0) ≡ 1) × (weekday_of (pos 0) ≡ 3)
unfolding year_of month_of day_of_month weekday_of days_into_year months_over first_day_of_year days_of_months
the_epoch = (refl, refl, refl, refl)
