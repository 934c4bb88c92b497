-- Written extended dates and moments are ASCII and are read back (ISO 8601).
use Rattle.std.proofs.Common.{◌≡◌, ℕ, zero, suc, ◌+◌, ◌/◌, ◌%◌, ◌^◌, ◌<◌, ℤ, nat_abs, List, [], ◌∷◌, ◌++◌, length, take, drop, replicate}
use Rattle.std.proofs.Common.{length-append, Some, true, false, refl, sym, ap, ◌∙◌, arith}
use Rattle.std.specs.Prelude.{codes, slice_index, ◌==◌}
use Rattle.std.specs.Str.{IsAscii}
use Rattle.std.proofs.lemmas.Bool.Decides.{nat_tests}
use Rattle.std.proofs.lemmas.Fmt.{IsAscii-decimal}
use Rattle.std.proofs.lemmas.List.{append_assoc, take_at, drop_at, take_all, drop_all, get_or_at}
use Rattle.std.proofs.lemmas.Str.{IsAscii-append}
use Rattle.std.proofs.lemmas.Str.Ascii.{IsAscii-nil, IsAscii-cons}
use Rattle.rr_model.specs.Calendar.{year_of, month_of, day_of_month}
use Rattle.rr_model.specs.Moment.{day_part, second_part}
use Rattle.rr_model.specs.Moment.Years.{HasFourDigitYear, IsInYears}
use Rattle.rr_model.specs.Text.ExtendedMoments.{date_digits, time_digits, extended_date_of, extended_time_of, extended_moment_of, extended}
use Rattle.rr_model.specs.Text.Moments.{decimal_of, extended_date_text, extended_time_text, extended_text, moment_stamp}
use Rattle.rr_model.specs.Text.Written.{basic_date_text, basic_time_text}
use Rattle.rr_model.specs.declared.kind.Kind.{Kind}
use Rattle.rr_model.specs.declared.kind.Kind.TheVariants.{Days, Moments}
use Rattle.rr_model.proofs.CalendarLemmas.{IsDate-year_of, days_in_month_bounds}
use Rattle.rr_model.proofs.WholeLemmas.{floor_whole, floor_mod_below}
use Rattle.rr_text.proofs.MomentTextLemmas.{year_of-short}
use Rattle.rr_text.proofs.WrittenLemmas.{length-padded_to, basic_date-written, basic_time-written}
use Rattle.rr_text.proofs.PrintedLemmas.{length-extended_time_text, length-padded}

-- ---- ASCII

IsAscii-zeros : (n : ℕ) → IsAscii (replicate n 48)
IsAscii-zeros zero = IsAscii-nil
IsAscii-zeros (suc n) = IsAscii-cons 48 (replicate n 48) (omega arith) (IsAscii-zeros n)

pub IsAscii-padded : (width n : ℕ) → n < 2 ^ 64 → IsAscii (decimal_of width n)
IsAscii-padded width n h = IsAscii-append _ _ (IsAscii-zeros _) (IsAscii-decimal n h)

IsAscii-one : (b : ℕ) → b < 128 → IsAscii (b ∷ [])
IsAscii-one b h = IsAscii-cons b [] h IsAscii-nil

-- ---- three texts with a separator between them

module _ (a b c : List ℕ) (s p q r : ℕ) (la : length a ≡ p) (lb : length b ≡ q) (lc : length c ≡ r) where
  abbrev separated : List ℕ
  separated = a ++ (s ∷ []) ++ b ++ (s ∷ []) ++ c

  from_second : separated ≡ (a ++ (s ∷ b)) ++ (s ∷ c)
  from_second = append_assoc (a ++ (s ∷ []) ++ b) (s ∷ []) c ∙ ap (λ (l : List ℕ). l ++ (s ∷ c)) (append_assoc a (s ∷ []) b)

  from_first : separated ≡ a ++ (s ∷ (b ++ (s ∷ c)))
  from_first = from_second ∙ append_assoc a (s ∷ b) (s ∷ c)

  length-front : length (a ++ (s ∷ b)) ≡ p + 1 + q
  length-front = omega (arith, length-append a (s ∷ b), la, lb)

  length-separated : length separated ≡ p + q + r + 2
  length-separated = ap length from_second ∙ omega (arith, length-append (a ++ (s ∷ b)) (s ∷ c), length-front, lc)

  first_separator : slice_index separated p ≡ s
  first_separator = ap (λ (t : List ℕ). slice_index t p) from_first ∙ get_or_at a s (b ++ (s ∷ c)) 0 p la

  second_separator : slice_index separated (p + 1 + q) ≡ s
  second_separator = ap (λ (t : List ℕ). slice_index t (p + 1 + q)) from_second ∙ get_or_at (a ++ (s ∷ b)) s c 0 (p + 1 + q) length-front

  without_separators : take p separated ++ take q (drop (p + 1) separated) ++ drop (p + q + 2) separated ≡ a ++ b ++ c
  without_separators =
      let first : take p separated ≡ a = ap (take p) from_first ∙ take_at a (s ∷ (b ++ (s ∷ c))) p la in
      let behind : drop (p + 1) separated ≡ b ++ (s ∷ c) = ap (drop (p + 1)) (from_first ∙ sym (append_assoc a (s ∷ []) (b ++ (s ∷ c))))
      ∙ drop_at (a ++ (s ∷ [])) (b ++ (s ∷ c)) (p + 1) (omega (arith, length-append a (s ∷ []), la)) in
      let second : take q (drop (p + 1) separated) ≡ b = ap (take q) behind ∙ take_at b (s ∷ c) q lb in
      let third : drop (p + q + 2) separated ≡ c = ap (drop (p + q + 2)) (from_second ∙ sym (append_assoc (a ++ (s ∷ b)) (s ∷ []) c))
      ∙ drop_at (a ++ (s ∷ b) ++ (s ∷ [])) c (p + q + 2) (omega (arith, length-append (a ++ (s ∷ b)) (s ∷ []), length-front)) in
      rw (first, second, third) refl

  IsAscii-separated : s < 128 → IsAscii a → IsAscii b → IsAscii c → IsAscii separated
  IsAscii-separated h ha hb hc =
      IsAscii-append _ c (IsAscii-append _ (s ∷ []) (IsAscii-append _ b (IsAscii-append a (s ∷ []) ha (IsAscii-one s h)) hb) (IsAscii-one s h)) hc

-- ---- dates

-- the numbers of a date of the years 1 to 9999 are short
record HasShortDate (day : ℤ) : Type 0 where
  year : nat_abs (year_of day) < 10_000
  month : month_of day < 100
  number : day_of_month day < 100

short_date : (day : ℤ) → HasFourDigitYear day → HasShortDate day
short_date day h =
    let date = IsDate-year_of day in
    let bounds = days_in_month_bounds (year_of day) (month_of day) in
    record {
      year = year_of-short day h;
      month = omega (arith, date.1);
      number = omega (arith, date.3, bounds.1);
    }

length-four : (n : ℕ) → n < 10_000 → length (decimal_of 4 n) ≡ 4
length-four n h = length-padded_to 4 n (omega arith) (omega (arith, h)) (omega (arith, h))

pub length-extended_date_text : (day : ℤ) → HasFourDigitYear day → length (extended_date_text day) ≡ 10
unfolding extended_date_text
length-extended_date_text day h =
    let w = short_date day h in
    length-separated (decimal_of 4 (nat_abs (year_of day))) (decimal_of 2 (month_of day)) (decimal_of 2 (day_of_month day)) 45 4 2 2 (length-four _ w.year)
    (length-padded _ w.month) (length-padded _ w.number)

pub IsAscii-extended_date_text : (day : ℤ) → HasFourDigitYear day → IsAscii (extended_date_text day)
unfolding extended_date_text
IsAscii-extended_date_text day h =
    let w = short_date day h in
    IsAscii-separated (decimal_of 4 (nat_abs (year_of day))) (decimal_of 2 (month_of day)) (decimal_of 2 (day_of_month day)) 45 4 2 2 (length-four _ w.year)
    (length-padded _ w.month) (length-padded _ w.number) (omega arith) (IsAscii-padded 4 _ (omega (arith, w.year))) (IsAscii-padded 2 _ (omega (arith, w.month)))
    (IsAscii-padded 2 _ (omega (arith, w.number)))

-- A written date of the years 1 to 9999 is read back.
pub extended_date-written : (day : ℤ) → HasFourDigitYear day → extended_date_of (extended_date_text day) ≡ Some day
unfolding extended_date_of extended_date_text basic_date_text
extended_date-written day h =
    let w = short_date day h in
    let y = decimal_of 4 (nat_abs (year_of day)) in
    let m = decimal_of 2 (month_of day) in
    let d = decimal_of 2 (day_of_month day) in
    let ly : length y ≡ 4 = length-four _ w.year in
    let lm : length m ≡ 2 = length-padded _ w.month in
    let ld : length d ≡ 2 = length-padded _ w.number in
    let long : (length (extended_date_text day) == 10) ≡ true = grind (arith, nat_tests, length-extended_date_text day h) in
    let first : slice_index (extended_date_text day) 4 ≡ 45 = first_separator y m d 45 4 2 2 ly lm ld in
    let second : slice_index (extended_date_text day) 7 ≡ 45 = second_separator y m d 45 4 2 2 ly lm ld in
    let digits : date_digits (extended_date_text day) ≡ basic_date_text day = without_separators y m d 45 4 2 2 ly lm ld in
    rw (long, first, second, digits) (basic_date-written day h)

-- ---- times

second_bounds : (s : ℕ) → s < 86_400 → (s / 3_600 < 100) × (s / 60 % 60 < 100) × (s % 60 < 100)
second_bounds s h = (omega arith, omega arith, omega arith)

pub IsAscii-extended_time_text : (s : ℕ) → s < 86_400 → IsAscii (extended_time_text s)
unfolding extended_time_text
IsAscii-extended_time_text s h =
    let w = second_bounds s h in
    IsAscii-separated (decimal_of 2 (s / 3_600)) (decimal_of 2 (s / 60 % 60)) (decimal_of 2 (s % 60)) 58 2 2 2 (length-padded _ w.0)
    (length-padded _ w.1) (length-padded _ w.2)
    (omega arith) (IsAscii-padded 2 _ (omega (arith, w.0))) (IsAscii-padded 2 _ (omega (arith, w.1))) (IsAscii-padded 2 _ (omega (arith, w.2)))

-- A written time is read back.
pub extended_time-written : (s : ℕ) → s < 86_400 → extended_time_of (extended_time_text s) ≡ Some s
unfolding extended_time_of extended_time_text basic_time_text
extended_time-written s h =
    let w = second_bounds s h in
    let a = decimal_of 2 (s / 3_600) in
    let b = decimal_of 2 (s / 60 % 60) in
    let c = decimal_of 2 (s % 60) in
    let la : length a ≡ 2 = length-padded _ w.0 in
    let lb : length b ≡ 2 = length-padded _ w.1 in
    let lc : length c ≡ 2 = length-padded _ w.2 in
    let long : (length (extended_time_text s) == 8) ≡ true = grind (arith, nat_tests, length-extended_time_text s h) in
    let first : slice_index (extended_time_text s) 2 ≡ 58 = first_separator a b c 58 2 2 2 la lb lc in
    let second : slice_index (extended_time_text s) 5 ≡ 58 = second_separator a b c 58 2 2 2 la lb lc in
    let digits : time_digits (extended_time_text s) ≡ basic_time_text s = without_separators a b c 58 2 2 2 la lb lc in
    rw (long, first, second, digits) (basic_time-written s h)

-- ---- dates and moments

date-written : (text : List ℕ) (day : ℤ) → length text ≡ 10 → extended_date_of text ≡ Some day
    → extended text ≡ Some (record { kind = Days; at = day; utc = false })
unfolding extended
date-written text day len date =
    let ten : (length text == 10) ≡ true = grind (arith, nat_tests, len) in
    rw (ten, date) refl

moment-written : (date time : List ℕ) (day : ℤ) (s : ℕ) → length date ≡ 10 → length time ≡ 8 → extended_date_of date ≡ Some day
    → extended_time_of time ≡ Some s → extended (date ++ codes "T" ++ time) ≡ Some (moment_stamp day s false)
unfolding extended extended_moment_of
moment-written date time day s ld lt d t =
    let text = date ++ codes "T" ++ time in
    let whole : text ≡ date ++ (84 ∷ time) = append_assoc date (codes "T") time in
    let not_ten : (length text == 10) ≡ false = grind (arith, nat_tests, length-append (date ++ codes "T") time, length-append date (codes "T"), ld, lt) in
    let letter : slice_index text 10 ≡ 84 = ap (λ (x : List ℕ). slice_index x 10) whole ∙ get_or_at date 84 time 0 10 ld in
    let front : take 10 text ≡ date = ap (take 10) whole ∙ take_at date (84 ∷ time) 10 ld in
    let both : length (date ++ codes "T") ≡ 11 = omega (arith, length-append date (codes "T"), ld) in
    let end : drop 11 text ≡ time = drop_at (date ++ codes "T") time 11 both in
    let eight : take 8 (drop 11 text) ≡ time = ap (take 8) end ∙ take_all 8 time (omega (arith, lt)) in
    let none : drop 19 text ≡ [] = drop_all 19 text (omega (arith, length-append (date ++ codes "T") time, both, lt)) in
    rw (not_ten, letter, front, eight, none, d, t) refl

-- A written date or moment of the years 1 to 9999 is read back.
pub extended-written : (kind : Kind) (t : ℤ) → IsInYears kind t → extended (extended_text kind t) ≡ Some (record { kind = kind; at = t; utc = false })
unfolding extended_text
extended-written Days t h = date-written (extended_date_text t) t (length-extended_date_text t h) (extended_date-written t h)
extended-written Moments t h =
    let below = floor_mod_below t 86_400 (omega arith) in
    moment-written (extended_date_text (day_part Moments t)) (extended_time_text (second_part Moments t)) (day_part Moments t) (second_part Moments t)
    (length-extended_date_text (day_part Moments t) h) (length-extended_time_text (second_part Moments t) below)
    (extended_date-written (day_part Moments t) h) (extended_time-written (second_part Moments t) below)
    ∙ ap (λ (at : ℤ). Some (record { kind = Moments; at = at; utc = false })) (sym (floor_whole t 86_400 (omega arith)))

-- It is ASCII.
pub IsAscii-extended_text : (kind : Kind) (t : ℤ) → IsInYears kind t → IsAscii (extended_text kind t)
unfolding extended_text
IsAscii-extended_text Days t h = IsAscii-extended_date_text t h
IsAscii-extended_text Moments t h =
    IsAscii-append _ _ (IsAscii-append _ _ (IsAscii-extended_date_text (day_part Moments t) h) (IsAscii-one 84 (omega arith)))
    (IsAscii-extended_time_text (second_part Moments t) (floor_mod_below t 86_400 (omega arith)))
