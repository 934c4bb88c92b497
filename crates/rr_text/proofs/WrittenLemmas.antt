-- Written numbers, dates and moments are read back (RFC 5545, sections 3.3.4 and 3.3.5).
use Rattle.std.proofs.Common.{◌≡◌, ℕ, zero, suc, ◌+◌, ◌-◌, ◌*◌, ◌/◌, ◌%◌, ◌^◌, ◌<◌, ◌≤◌, true, ℤ, pos, nat_abs, List, [], ◌∷◌, ◌++◌, length, take, drop}
use Rattle.std.proofs.Common.{replicate, length-append, Some, refl, sym, ap, ◌∙◌, arith}
use Rattle.std.specs.Prelude.{nat_le, nat_lt, codes, slice_index, ◌==◌, false}
use Rattle.std.specs.Fmt.{decimal}
use Rattle.std.specs.List.{list_all}
use Rattle.std.specs.Str.Parse.{AllDigits}
use Rattle.std.proofs.lemmas.Bool.{and_from}
use Rattle.std.proofs.lemmas.Bool.Decides.{nat_tests}
use Rattle.std.proofs.lemmas.Fmt.{decimal_is_IsNumeral, length-decimal-le}
use Rattle.std.proofs.lemmas.Int.{ints}
use Rattle.std.proofs.lemmas.List.{append_assoc, length-replicate, take_at, drop_at, take_all, drop_all, get_or_at}
use Rattle.std.proofs.lemmas.List.Folds.{list_all-append}
use Rattle.std.proofs.lemmas.Str.Parse.{digit_from_value}
use Rattle.rr_model.specs.Calendar.{year_of, month_of, day_of_month, is_date, day_number}
use Rattle.rr_model.specs.Moment.{day_part, second_part}
use Rattle.rr_model.specs.Moment.Years.{HasFourDigitYear, IsInYears}
use Rattle.rr_model.specs.Text.Digits.{is_digit, digits_value}
use Rattle.rr_model.specs.Text.Moments.{is_digits, number_at, basic_date, basic_time, basic_moment, basic, decimal_of, date_stamp, moment_stamp}
use Rattle.rr_model.specs.Text.RuleValues.{is_number}
use Rattle.rr_model.specs.Text.Written.{basic_date_text, basic_time_text, basic_text}
use Rattle.rr_model.specs.declared.kind.Kind.{Kind}
use Rattle.rr_model.specs.declared.kind.Kind.TheVariants.{Days, Moments}
use Rattle.rr_model.proofs.CalendarLemmas.{IsDate-year_of, day_number-year_of, is_date_is, days_in_month_bounds}
use Rattle.rr_model.proofs.WholeLemmas.{floor_whole, floor_mod_below}
use Rattle.rr_text.proofs.MomentTextLemmas.{year_of-low, year_of-short}
use Rattle.rr_text.proofs.PrintedLemmas.{digits_value-padded}

-- ---- numbers

pub list_all-digits : (ds : List ℕ) → AllDigits 10 ds → list_all is_digit ds ≡ true
list_all-digits [] h = refl
list_all-digits (b ∷ bs) h =
    let range = digit_from_value b h.0 in
    and_from (is_digit b) (list_all is_digit bs) (grind (arith, nat_tests, range)) (list_all-digits bs h.1)

-- a written number is digits
pub decimal-digits : (n : ℕ) → n < 2 ^ 64 → list_all is_digit (decimal n) ≡ true
decimal-digits n h = list_all-digits (decimal n) (decimal_is_IsNumeral n h).0.1

-- that write it
pub digits_value-decimal : (n : ℕ) → n < 2 ^ 64 → digits_value (decimal n) ≡ n
digits_value-decimal n h = (decimal_is_IsNumeral n h).1

pub is_number-decimal : (n : ℕ) → n < 2 ^ 64 → is_number (decimal n) ≡ true
is_number-decimal n h =
    let some = (decimal_is_IsNumeral n h).0.0 in
    and_from (nat_lt 0 (length (decimal n))) (list_all is_digit (decimal n)) (grind (arith, nat_tests, some)) (decimal-digits n h)

zeros : (n : ℕ) → list_all is_digit (replicate n 48) ≡ true
zeros zero = refl
zeros (suc n) = zeros n

-- the same of a number with zeros before it
pub padded-digits : (width n : ℕ) → n < 2 ^ 64 → list_all is_digit (decimal_of width n) ≡ true
padded-digits width n h =
    list_all-append is_digit (replicate (width - length (decimal n)) 48) (decimal n)
    ∙ and_from (list_all is_digit (replicate (width - length (decimal n)) 48)) (list_all is_digit (decimal n)) (zeros (width - length (decimal n)))
    (decimal-digits n h)

-- which is as wide as it is to be
pub length-padded_to : (width n : ℕ) → 0 < width → n < 10 ^ width → n < 2 ^ 64 → length (decimal_of width n) ≡ width
length-padded_to width n some fits small =
    let digits = length-decimal-le width n some fits small in
    omega (arith, length-append (replicate (width - length (decimal n)) 48) (decimal n), length-replicate {A = ℕ} (width - length (decimal n)) 48, digits)

-- ---- three numbers, one after the other

module _ (a b c : List ℕ) (p q r : ℕ) (la : length a ≡ p) (lb : length b ≡ q) (lc : length c ≡ r) where
  abbrev text : List ℕ
  text = a ++ b ++ c

  length-three : length text ≡ p + q + r
  length-three = omega (arith, length-append (a ++ b) c, length-append a b)

  first_of_three : number_at 0 p text ≡ digits_value a
  unfolding number_at
  first_of_three = ap (λ (t : List ℕ). digits_value (take p t)) (append_assoc a b c) ∙ ap digits_value (take_at a (b ++ c) p la)

  second_of_three : number_at p q text ≡ digits_value b
  unfolding number_at
  second_of_three =
      ap (λ (t : List ℕ). digits_value (take q (drop p t))) (append_assoc a b c)
      ∙ ap (λ (t : List ℕ). digits_value (take q t)) (drop_at a (b ++ c) p la)
      ∙ ap digits_value (take_at b c q lb)

  third_of_three : number_at (p + q) r text ≡ digits_value c
  unfolding number_at
  third_of_three =
      let both : length (a ++ b) ≡ p + q = omega (arith, length-append a b) in
      ap (λ (t : List ℕ). digits_value (take r t)) (drop_at (a ++ b) c (p + q) both)
      ∙ ap digits_value (take_all r c (omega arith))

  all_three : list_all is_digit a ≡ true → list_all is_digit b ≡ true → list_all is_digit c ≡ true → list_all is_digit text ≡ true
  all_three da db dc =
      list_all-append is_digit (a ++ b) c ∙ and_from (list_all is_digit (a ++ b)) (list_all is_digit c)
      (list_all-append is_digit a b ∙ and_from (list_all is_digit a) (list_all is_digit b) da db) dc

  three_digits : list_all is_digit a ≡ true → list_all is_digit b ≡ true → list_all is_digit c ≡ true → is_digits (p + q + r) text ≡ true
  unfolding is_digits
  three_digits da db dc =
      and_from (length text == p + q + r) (list_all is_digit text) (grind (arith, nat_tests, length-three)) (all_three da db dc)

-- ---- dates

-- the numbers of a date of the years 1 to 9999
record IsWrittenDate (day : ℤ) : Type 0 where
  year : pos (nat_abs (year_of day)) ≡ year_of day
  from_one : 1 ≤ nat_abs (year_of day)
  four_digits : nat_abs (year_of day) < 10_000
  two_month : month_of day < 100
  two_day : day_of_month day < 100

written_date : (day : ℤ) → HasFourDigitYear day → IsWrittenDate day
written_date day h =
    let low = year_of-low day h.0 in
    let date = IsDate-year_of day in
    let bounds = days_in_month_bounds (year_of day) (month_of day) in
    record {
      year = omega (arith, ints, low);
      from_one = omega (arith, ints, low);
      four_digits = year_of-short day h;
      two_month = omega (arith, date.1);
      two_day = omega (arith, date.3, bounds.1);
    }

pub length-basic_date_text : (day : ℤ) → HasFourDigitYear day → length (basic_date_text day) ≡ 8
unfolding basic_date_text
length-basic_date_text day h =
    let w = written_date day h in
    length-three (decimal_of 4 (nat_abs (year_of day))) (decimal_of 2 (month_of day)) (decimal_of 2 (day_of_month day)) 4 2 2
    (length-padded_to 4 _ (omega arith) (omega (arith, w.four_digits)) (omega (arith, w.four_digits)))
    (length-padded_to 2 _ (omega arith) (omega (arith, w.two_month)) (omega (arith, w.two_month)))
    (length-padded_to 2 _ (omega arith) (omega (arith, w.two_day)) (omega (arith, w.two_day)))

-- a written date is read back
pub basic_date-written : (day : ℤ) → HasFourDigitYear day → basic_date (basic_date_text day) ≡ Some day
unfolding basic_date basic_date_text
basic_date-written day h =
    let w = written_date day h in
    let y = decimal_of 4 (nat_abs (year_of day)) in
    let m = decimal_of 2 (month_of day) in
    let d = decimal_of 2 (day_of_month day) in
    let ly : length y ≡ 4 = length-padded_to 4 _ (omega arith) (omega (arith, w.four_digits)) (omega (arith, w.four_digits)) in
    let lm : length m ≡ 2 = length-padded_to 2 _ (omega arith) (omega (arith, w.two_month)) (omega (arith, w.two_month)) in
    let ld : length d ≡ 2 = length-padded_to 2 _ (omega arith) (omega (arith, w.two_day)) (omega (arith, w.two_day)) in
    let year : number_at 0 4 (y ++ m ++ d) ≡ nat_abs (year_of day) =
    first_of_three y m d 4 2 2 ly lm ld ∙ digits_value-padded 4 _ (omega (arith, w.four_digits)) in
    let month : number_at 4 2 (y ++ m ++ d) ≡ month_of day = second_of_three y m d 4 2 2 ly lm ld ∙ digits_value-padded 2 _ (omega (arith, w.two_month)) in
    let day_is : number_at 6 2 (y ++ m ++ d) ≡ day_of_month day =
    third_of_three y m d 4 2 2 ly lm ld ∙ digits_value-padded 2 _ (omega (arith, w.two_day)) in
    let digits : is_digits 8 (y ++ m ++ d) ≡ true = three_digits y m d 4 2 2 ly lm ld (padded-digits 4 _ (omega (arith, w.four_digits)))
    (padded-digits 2 _ (omega (arith, w.two_month))) (padded-digits 2 _ (omega (arith, w.two_day))) in
    let from : nat_le 1 (nat_abs (year_of day)) ≡ true = grind (arith, nat_tests, w.from_one) in
    let date : is_date (pos (nat_abs (year_of day))) (month_of day) (day_of_month day) ≡ true =
    ap (λ (z : ℤ). is_date z (month_of day) (day_of_month day)) w.year
    ∙ (is_date_is (year_of day) (month_of day) (day_of_month day)).1 (IsDate-year_of day) in
    rw (digits, year, month, day_is, from, date)
    (ap Some (ap (λ (z : ℤ). day_number z (month_of day) (day_of_month day)) w.year ∙ day_number-year_of day))

-- it is digits
pub basic_date_text-digits : (day : ℤ) → HasFourDigitYear day → list_all is_digit (basic_date_text day) ≡ true
unfolding basic_date_text
basic_date_text-digits day h =
    let w = written_date day h in
    let y = decimal_of 4 (nat_abs (year_of day)) in
    let m = decimal_of 2 (month_of day) in
    let d = decimal_of 2 (day_of_month day) in
    all_three y m d (length y) (length m) (length d) refl refl refl (padded-digits 4 _ (omega (arith, w.four_digits)))
    (padded-digits 2 _ (omega (arith, w.two_month))) (padded-digits 2 _ (omega (arith, w.two_day)))

-- ---- times

second_bounds : (s : ℕ) → s < 86_400 → (s / 3_600 < 24) × (s / 60 % 60 < 60) × (s % 60 < 60) × (s / 3_600 * 3_600 + s / 60 % 60 * 60 + s % 60 ≡ s)
second_bounds s h = (omega arith, omega arith, omega arith, omega arith)

pub length-basic_time_text : (s : ℕ) → s < 86_400 → length (basic_time_text s) ≡ 6
unfolding basic_time_text
length-basic_time_text s h =
    let w = second_bounds s h in
    length-three (decimal_of 2 (s / 3_600)) (decimal_of 2 (s / 60 % 60)) (decimal_of 2 (s % 60)) 2 2 2
    (length-padded_to 2 _ (omega arith) (omega (arith, w.0)) (omega (arith, w.0)))
    (length-padded_to 2 _ (omega arith) (omega (arith, w.1)) (omega (arith, w.1)))
    (length-padded_to 2 _ (omega arith) (omega (arith, w.2)) (omega (arith, w.2)))

pub basic_time_text-digits : (s : ℕ) → s < 86_400 → list_all is_digit (basic_time_text s) ≡ true
unfolding basic_time_text
basic_time_text-digits s h =
    let w = second_bounds s h in
    let a = decimal_of 2 (s / 3_600) in
    let b = decimal_of 2 (s / 60 % 60) in
    let c = decimal_of 2 (s % 60) in
    all_three a b c (length a) (length b) (length c) refl refl refl (padded-digits 2 _ (omega (arith, w.0))) (padded-digits 2 _ (omega (arith, w.1)))
    (padded-digits 2 _ (omega (arith, w.2)))

-- a written time is read back
pub basic_time-written : (s : ℕ) → s < 86_400 → basic_time (basic_time_text s) ≡ Some s
unfolding basic_time basic_time_text
basic_time-written s h =
    let w = second_bounds s h in
    let a = decimal_of 2 (s / 3_600) in
    let b = decimal_of 2 (s / 60 % 60) in
    let c = decimal_of 2 (s % 60) in
    let la : length a ≡ 2 = length-padded_to 2 _ (omega arith) (omega (arith, w.0)) (omega (arith, w.0)) in
    let lb : length b ≡ 2 = length-padded_to 2 _ (omega arith) (omega (arith, w.1)) (omega (arith, w.1)) in
    let lc : length c ≡ 2 = length-padded_to 2 _ (omega arith) (omega (arith, w.2)) (omega (arith, w.2)) in
    let hour : number_at 0 2 (a ++ b ++ c) ≡ s / 3_600 = first_of_three a b c 2 2 2 la lb lc ∙ digits_value-padded 2 _ (omega (arith, w.0)) in
    let minute : number_at 2 2 (a ++ b ++ c) ≡ s / 60 % 60 = second_of_three a b c 2 2 2 la lb lc ∙ digits_value-padded 2 _ (omega (arith, w.1)) in
    let second : number_at 4 2 (a ++ b ++ c) ≡ s % 60 = third_of_three a b c 2 2 2 la lb lc ∙ digits_value-padded 2 _ (omega (arith, w.2)) in
    let digits : is_digits 6 (a ++ b ++ c) ≡ true = three_digits a b c 2 2 2 la lb lc (padded-digits 2 _ (omega (arith, w.0)))
    (padded-digits 2 _ (omega (arith, w.1))) (padded-digits 2 _ (omega (arith, w.2))) in
    let h24 : nat_lt (s / 3_600) 24 ≡ true = grind (arith, nat_tests, w.0) in
    let m60 : nat_lt (s / 60 % 60) 60 ≡ true = grind (arith, nat_tests, w.1) in
    let s60 : nat_lt (s % 60) 60 ≡ true = grind (arith, nat_tests, w.2) in
    rw (digits, hour, minute, second, h24, m60, s60) (ap Some w.3)

-- ---- dates and moments

date-written : (text : List ℕ) (day : ℤ) → length text ≡ 8 → basic_date text ≡ Some day → basic text ≡ Some (date_stamp day)
unfolding basic
date-written text day len date =
    let eight : (length text == 8) ≡ true = grind (arith, nat_tests, len) in
    rw (eight, date) refl

moment-written : (date time : List ℕ) (day : ℤ) (s : ℕ) → length date ≡ 8 → length time ≡ 6 → basic_date date ≡ Some day → basic_time time ≡ Some s
    → basic (date ++ codes "T" ++ time) ≡ Some (moment_stamp day s false)
unfolding basic basic_moment
moment-written date time day s ld lt d t =
    let text = date ++ codes "T" ++ time in
    let whole : text ≡ date ++ (84 ∷ time) = append_assoc date (codes "T") time in
    let not_eight : (length text == 8) ≡ false =
    grind (arith, nat_tests, length-append (date ++ codes "T") time, length-append date (codes "T"), ld, lt) in
    let letter : slice_index text 8 ≡ 84 = ap (λ (x : List ℕ). slice_index x 8) whole ∙ get_or_at date 84 time 0 8 ld in
    let front : take 8 text ≡ date = ap (take 8) whole ∙ take_at date (84 ∷ time) 8 ld in
    let both : length (date ++ codes "T") ≡ 9 = omega (arith, length-append date (codes "T"), ld) in
    let end : drop 9 text ≡ time = drop_at (date ++ codes "T") time 9 both in
    let six : take 6 (drop 9 text) ≡ time = ap (take 6) end ∙ take_all 6 time (omega (arith, lt)) in
    let none : drop 15 text ≡ [] = drop_all 15 text (omega (arith, length-append (date ++ codes "T") time, both, lt)) in
    rw (not_eight, letter, front, six, none, d, t) refl

-- A written date or moment of the years 1 to 9999 is read back.
pub basic-written : (kind : Kind) (t : ℤ) → IsInYears kind t → basic (basic_text kind t) ≡ Some (record { kind = kind; at = t; utc = false })
unfolding basic_text
basic-written Days t h = date-written (basic_date_text t) t (length-basic_date_text t h) (basic_date-written t h)
basic-written Moments t h =
    let below = floor_mod_below t 86_400 (omega arith) in
    moment-written (basic_date_text (day_part Moments t)) (basic_time_text (second_part Moments t)) (day_part Moments t) (second_part Moments t)
    (length-basic_date_text (day_part Moments t) h) (length-basic_time_text (second_part Moments t) below)
    (basic_date-written (day_part Moments t) h) (basic_time-written (second_part Moments t) below)
    ∙ ap (λ (at : ℤ). Some (record { kind = Moments; at = at; utc = false })) (sym (floor_whole t 86_400 (omega arith)))
