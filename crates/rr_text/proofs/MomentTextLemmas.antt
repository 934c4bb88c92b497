-- The texts of dates and moments: bounds of what they state.
use Rattle.std.proofs.Common.{◌≡◌, ℕ, ◌+◌, ◌^◌, ◌<◌, ◌≤◌, Bool, true, false, Option, None, Some, List, length, take, drop, slice_index, ℤ}
use Rattle.std.proofs.Common.{pos, ◌+ℤ◌, ◌≤ℤ◌, nat_abs, refl, arith}
use Rattle.std.specs.List.{AllPass, list_all}
use Rattle.std.proofs.lemmas.Bool.Decides.{nat_tests}
use Rattle.std.proofs.lemmas.Grind.{common_steps}
use Rattle.std.proofs.lemmas.Int.{ints, by_lt_z}
use Rattle.std.proofs.lemmas.List.Elements.{All-take, All-drop}
use Rattle.std.proofs.lemmas.List.Sums.{AllPass-from_list_all, list_all-from_AllPass}
use Rattle.rr_model.specs.Calendar.{day_number, year_of, IsDate}
use Rattle.rr_model.specs.Text.Digits.{is_digit}
use Rattle.rr_model.specs.Moment.Years.{IsFromYearOne, HasFourDigitYear}
use Rattle.rr_model.specs.Text.Moments.{is_digits, number_at, basic_date, basic_time, basic_moment, is_letter_t, utc_mark, moment_of}
use Rattle.rr_text.proofs.DigitLemmas.{digits_value_below}
use Rattle.rr_text.proofs.StepLemmas.{where_none}
use Rattle.rr_model.proofs.CalendarLemmas.{IsInYear-day_number, IsInYear-year_of, first_day_of_year_mono}

-- the days of the years 1 to 9999
pub day_number_bounds : (y : ℤ) (m k : ℕ) → pos 1 ≤ℤ y → y ≤ℤ pos 9_999 → IsDate y m k → HasFourDigitYear (day_number y m k)
day_number_bounds y m k low high date =
    let within = IsInYear-day_number y m k date in
    let from = first_day_of_year_mono (pos 1) y low in
    let to = first_day_of_year_mono (y +ℤ pos 1) (pos 10_000) (omega (arith, ints)) in
    (omega (arith, ints, within.begun, from), omega (arith, ints, within.not_over, to))

-- the year of a day that does not lie before the year 1
pub year_of-low : (d : ℤ) → IsFromYearOne d → pos 1 ≤ℤ year_of d
year_of-low d h =
    let P : Type 0 = pos 1 ≤ℤ year_of d in
    let within = IsInYear-year_of d in
    by_lt_z {P = P} (year_of d) (pos 1)
    (λ l. absurd (omega (arith, ints, within.not_over, first_day_of_year_mono (year_of d +ℤ pos 1) (pos 1) (omega (arith, ints, l)), h)))
    (λ g. g)

-- the year of a day of the years 1 to 9999 has four digits
pub year_of-short : (d : ℤ) → HasFourDigitYear d → nat_abs (year_of d) < 10_000
year_of-short d h =
    let low = year_of-low d h.0 in
    let within = IsInYear-year_of d in
    let P : Type 0 = year_of d ≤ℤ pos 9_999 in
    let high : year_of d ≤ℤ pos 9_999 = by_lt_z {P = P} (year_of d) (pos 10_000) (λ l. omega (arith, ints, l))
    (λ g. absurd (omega (arith, ints, within.begun, first_day_of_year_mono (pos 10_000) (year_of d) g, h.1))) in
    omega (arith, ints, low, high)

-- what a text of digits is
pub is_digits_means : (count : ℕ) (text : List ℕ) → is_digits count text ≡ true → (length text ≡ count) × AllPass is_digit text
unfolding is_digits
is_digits_means count text h =
    let both : (length text ≡ count) × (list_all is_digit text ≡ true) = grind (arith, nat_tests) in
    (both.0, AllPass-from_list_all is_digit text both.1)

-- a few digits inside a text of digits write a small number
pub number_at_below : (start count : ℕ) (text : List ℕ) → start + count ≤ length text → AllPass is_digit text → number_at start count text < 10 ^ count
unfolding number_at
number_at_below start count text h all =
    let part = All-take (λ b. is_digit b ≡ true) count (drop start text) (All-drop (λ b. is_digit b ≡ true) start text all) in
    let size : length (take count (drop start text)) ≡ count = grind (arith, common_steps) in
    rw size at (digits_value_below (take count (drop start text)) (list_all-from_AllPass is_digit _ part))

basic_time-length : (text : List ℕ) → length text < 6 → basic_time text ≡ None
unfolding basic_time is_digits
basic_time-length text h = grind (arith, nat_tests)

pub moment_of-no_time : (date : Option ℤ) (mark : Option Bool) → moment_of date None mark ≡ None
moment_of-no_time None mark = refl
moment_of-no_time (Some day) mark = refl

-- a text that ends before the seconds is no moment
pub basic_moment-short : (text : List ℕ) → length text < 15 → basic_moment text ≡ None
unfolding basic_moment
basic_moment-short text h =
    let time : basic_time (take 6 (drop 9 text)) ≡ None = basic_time-length (take 6 (drop 9 text)) (grind (arith, common_steps)) in
    where_none (is_letter_t (slice_index text 8)) _ (rw time (moment_of-no_time (basic_date (take 8 text)) (utc_mark (drop 15 text))))

-- without the letter T it is none
pub basic_moment-no_letter : (text : List ℕ) → is_letter_t (slice_index text 8) ≡ false → basic_moment text ≡ None
unfolding basic_moment
basic_moment-no_letter text h = rw h refl

-- with it the parts decide
pub basic_moment-parts : (text : List ℕ) (date : Option ℤ) (time : Option ℕ) (mark : Option Bool) → is_letter_t (slice_index text 8) ≡ true
    → date ≡ basic_date (take 8 text) → time ≡ basic_time (take 6 (drop 9 text)) → mark ≡ utc_mark (drop 15 text) → basic_moment text ≡ moment_of date time mark
unfolding basic_moment
basic_moment-parts text date time mark h d t m = rw (h, d, t, m) refl
