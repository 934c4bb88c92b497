-- The words of a written rule, and what each is read as (vCalendar 1.0, basic recurrence rule grammar).
use Rattle.std.proofs.Common.{◌≡◌, ℕ, suc, ◌-◌, ◌^◌, ◌<◌, ◌≤◌, ◌==◌, ◌&&◌, ◌||◌, Bool, true, false, if◌then◌else◌, List, [], ◌∷◌, ◌++◌, length, take}
use Rattle.std.proofs.Common.{drop, slice_index, None, Ok, ℤ, pos, negsuc, neg_ℤ, nat_abs, refl, ap, ◌∙◌, length-append, append_assoc, arith}
use Rattle.std.specs.Prelude.{codes, nat_le}
use Rattle.std.specs.Fmt.{decimal}
use Rattle.std.specs.List.{list_all}
use Rattle.std.proofs.lemmas.Bool.{and_from}
use Rattle.std.proofs.lemmas.Bool.Decides.{nat_tests}
use Rattle.std.proofs.lemmas.Fmt.{length-decimal-le, decimal_nonempty}
use Rattle.std.proofs.lemmas.List.{take_at, drop_at, get_or_at}
use Rattle.rr_model.specs.Moment.{day_part, second_part}
use Rattle.rr_model.specs.Moment.Years.{IsInYears}
use Rattle.rr_model.specs.Rule.Validity.{is_absent}
use Rattle.rr_model.specs.Text.Digits.{is_digit}
use Rattle.rr_model.specs.Text.Moments.{is_letter_t}
use Rattle.rr_model.specs.Text.Rules.{text_after}
use Rattle.rr_model.specs.Text.RuleValues.{weekday_named}
use Rattle.rr_model.specs.Text.Written.{weekday_text, basic_date_text, basic_time_text, basic_text}
use Rattle.rr_model.specs.Vcal.Rule.{is_short_number, place_of, short_number_up_to, front, ends_with, marked_place, month_day_of, is_moment_word}
use Rattle.rr_model.specs.Vcal.Written.{marked_text, month_day_text}
use Rattle.rr_model.specs.declared.kind.Kind.{Kind}
use Rattle.rr_model.specs.declared.kind.Kind.TheVariants.{Days, Moments}
use Rattle.rr_text.proofs.WrittenByteLemmas.{is_word_byte, list_all-weaker, list_all-both}
use Rattle.rr_text.proofs.WrittenLemmas.{decimal-digits, digits_value-decimal, is_number-decimal, basic_date_text-digits, length-basic_date_text}
use Rattle.rr_text.proofs.WrittenValueLemmas.{weekday-written}
use Rattle.rr_vcal.proofs.ByteLemmas.{is_solid, is_marked_byte, solid-digit, solid-word, solid-marked, marked-digit, all-take, all-drop, other_text}

-- ---- words of the list

-- a word of a list: it has bytes, none of them a blank, and is neither an end moment nor a number of events
pub record IsListWord (text : List ℕ) : Type 0 where
  pub some : is_absent text ≡ false
  pub solid : list_all is_solid text ≡ true
  pub no_moment : is_moment_word text ≡ false
  pub no_count : text_after (codes "#") text ≡ None

pub not_absent : {X : Type 0} (xs : List X) → 0 < length xs → is_absent xs ≡ false
not_absent [] h = absurd (omega arith)
not_absent (x ∷ xs) h = refl

short : (text : List ℕ) → length text < 8 → is_moment_word text ≡ false
short text h =
    let few : nat_le 8 (length text) ≡ false = grind (arith, nat_tests) in
    rw few refl

-- a short text of bytes that no number of events begins with
short_word : (p : ℕ → Bool) (text : List ℕ) → ((b : ℕ) → p b ≡ true → is_solid b ≡ true) → p 35 ≡ false → list_all p text ≡ true → 0 < length text
    → length text < 8 → IsListWord text
short_word p text solid other h some few = record {
  some = not_absent text some;
  solid = list_all-weaker p is_solid solid text h;
  no_moment = short text few;
  no_count = rw (other_text p (take 1 text) 35 [] (all-take p 1 text h) other) refl;
}

pub weekday_word : (k : ℕ) → k ≤ 6 → IsListWord (weekday_text k)
weekday_word k h =
    let written = weekday-written k (omega arith) in
    short_word is_word_byte (weekday_text k) solid-word refl written.words (omega (arith, written.two)) (omega (arith, written.two))

-- a number of at most three digits
record IsShortDecimal (n : ℕ) : Type 0 where
  small : n < 2 ^ 64
  digits : list_all is_digit (decimal n) ≡ true
  some : 0 < length (decimal n)
  few : length (decimal n) ≤ 3

short_decimal : (n : ℕ) → n < 1_000 → IsShortDecimal n
short_decimal n h =
    let small : n < 2 ^ 64 = omega arith in
    record {
      small = small;
      digits = decimal-digits n small;
      some = decimal_nonempty n small;
      few = length-decimal-le 3 n (omega arith) (omega arith) small;
    }

pub decimal_word : (n : ℕ) → n < 1_000 → IsListWord (decimal n)
decimal_word n h =
    let d = short_decimal n h in
    short_word is_digit (decimal n) solid-digit refl d.digits d.some (omega (arith, d.few))

-- the same with a mark
marked-bytes : (n c : ℕ) → n < 1_000 → is_marked_byte c ≡ true → list_all is_marked_byte (decimal n ++ c ∷ []) ≡ true
marked-bytes n c h mark =
    let d = short_decimal n h in
    list_all-both is_marked_byte (decimal n) (c ∷ []) (list_all-weaker is_digit is_marked_byte marked-digit (decimal n) d.digits)
    (and_from (is_marked_byte c) true mark refl)

with_mark : (n c : ℕ) → n < 1_000 → is_marked_byte c ≡ true → IsListWord (decimal n ++ c ∷ [])
with_mark n c h mark =
    let d = short_decimal n h in
    let long = length-append (decimal n) (c ∷ []) in
    short_word is_marked_byte (decimal n ++ c ∷ []) solid-marked refl (marked-bytes n c h mark) (omega (arith, long)) (omega (arith, long, d.few))

marked_text-bytes : (n : ℤ) → nat_abs n < 1_000 → list_all is_marked_byte (marked_text n) ≡ true
marked_text-bytes (pos n) h = marked-bytes n 43 h refl
marked_text-bytes (negsuc n) h = marked-bytes (suc n) 45 h refl

pub marked_text-word : (n : ℤ) → nat_abs n < 1_000 → IsListWord (marked_text n)
marked_text-word (pos n) h = with_mark n 43 h refl
marked_text-word (negsuc n) h = with_mark (suc n) 45 h refl

pub month_day-word : (n : ℤ) → nat_abs n < 1_000 → IsListWord (month_day_text n)
month_day-word (pos n) h = decimal_word n h
month_day-word (negsuc n) h = by (n == 0)
  where
    by : (t : Bool) → IsListWord (if t then codes "LD" else decimal (suc n) ++ codes "-")
    by true = short_word is_word_byte (codes "LD") solid-word refl refl (omega arith) (omega arith)
    by false = with_mark (suc n) 45 h refl

-- ---- what they are read as

no_weekday : (text : List ℕ) → list_all is_marked_byte text ≡ true → weekday_named text ≡ None
unfolding weekday_named
no_weekday text h =
    rw (
      other_text is_marked_byte text 77 (79 ∷ []) h refl,
      other_text is_marked_byte text 84 (85 ∷ []) h refl,
      other_text is_marked_byte text 87 (69 ∷ []) h refl,
      other_text is_marked_byte text 84 (72 ∷ []) h refl,
      other_text is_marked_byte text 70 (82 ∷ []) h refl,
      other_text is_marked_byte text 83 (65 ∷ []) h refl,
      other_text is_marked_byte text 83 (85 ∷ []) h refl,
    ) refl

pub marked_text-no_weekday : (n : ℤ) → nat_abs n < 1_000 → weekday_named (marked_text n) ≡ None
marked_text-no_weekday n h = no_weekday (marked_text n) (marked_text-bytes n h)

in_range : (n most : ℕ) → 1 ≤ n → n ≤ most → (nat_le 1 n && nat_le n most) ≡ true
in_range n most low high = grind (arith, nat_tests)

short_number : (n : ℕ) → n < 1_000 → is_short_number (decimal n) ≡ true
short_number n h =
    let d = short_decimal n h in
    rw (is_number-decimal n d.small) (grind (arith, nat_tests, d.few))

-- the bytes after the last but one, and those before the last
last_of : (ds : List ℕ) (c : ℕ) → drop (length (ds ++ c ∷ []) - 1) (ds ++ c ∷ []) ≡ c ∷ []
last_of ds c = drop_at ds (c ∷ []) (length (ds ++ c ∷ []) - 1) (omega (arith, length-append ds (c ∷ [])))

front_of : (ds : List ℕ) (c : ℕ) → front (ds ++ c ∷ []) ≡ ds
front_of ds c = take_at ds (c ∷ []) (length (ds ++ c ∷ []) - 1) (omega (arith, length-append ds (c ∷ [])))

ends_otherwise : (c : ℕ) (text : List ℕ) → list_all is_digit text ≡ true → is_digit c ≡ false → ends_with c text ≡ false
ends_otherwise c text h other = other_text is_digit (drop (length text - 1) text) c [] (all-drop is_digit (length text - 1) text h) other

ends-plus : (ds : List ℕ) → ends_with 43 (ds ++ 43 ∷ []) ≡ true
ends-plus ds = rw (last_of ds 43) refl

ends-minus : (ds : List ℕ) → ends_with 45 (ds ++ 45 ∷ []) ≡ true
ends-minus ds = rw (last_of ds 45) refl

ends-no_plus : (ds : List ℕ) → ends_with 43 (ds ++ 45 ∷ []) ≡ false
ends-no_plus ds = rw (last_of ds 45) refl

module _ (line : ℕ) where
  pub number-read : (most n : ℕ) → 1 ≤ n → n ≤ most → most < 1_000 → short_number_up_to line most (decimal n) ≡ Ok n
  number-read most n low high few =
      let small : n < 1_000 = omega arith in
      rw (short_number n small, digits_value-decimal n (omega arith), in_range n most low high) refl

  place-read : (most n : ℕ) (from_back : Bool) → 1 ≤ n → n ≤ most → most < 1_000
      → place_of line most from_back (decimal n) ≡ Ok (if from_back then neg_ℤ (pos n) else pos n)
  place-read most n from_back low high few =
      let small : n < 1_000 = omega arith in
      rw (short_number n small, digits_value-decimal n (omega arith), in_range n most low high) refl

  pub marked-read : (most : ℕ) (n : ℤ) → 1 ≤ nat_abs n → nat_abs n ≤ most → most < 1_000 → marked_place line most (marked_text n) ≡ Ok n
  marked-read most (pos n) low high few = rw (ends-plus (decimal n), front_of (decimal n) 43) (place-read most n false low high few)
  marked-read most (negsuc n) low high few =
      rw (ends-no_plus (decimal (suc n)), ends-minus (decimal (suc n)), front_of (decimal (suc n)) 45) (place-read most (suc n) true low high few)

  pub month_day-read : (n : ℤ) → 1 ≤ nat_abs n → nat_abs n ≤ 31 → month_day_of line (month_day_text n) ≡ Ok n
  month_day-read (pos n) low high =
      let digits = decimal-digits n (omega arith) in
      rw (other_text is_digit (decimal n) 76 (68 ∷ []) digits refl, ends_otherwise 43 (decimal n) digits refl, ends_otherwise 45 (decimal n) digits refl)
      (place-read 31 n false low high (omega arith))
  month_day-read (negsuc n) low high = by (n == 0) refl
    where
      by : (t : Bool) → (n == 0) ≡ t → month_day_of line (if t then codes "LD" else decimal (suc n) ++ codes "-") ≡ Ok (negsuc n)
      by true e = let last : n ≡ 0 = grind (arith, nat_tests, e) in rw last refl
      by false e =
          rw (
            other_text is_marked_byte (decimal (suc n) ++ 45 ∷ []) 76 (68 ∷ []) (marked-bytes (suc n) 45 (omega arith) refl) refl,
            ends-no_plus (decimal (suc n)),
            ends-minus (decimal (suc n)),
            front_of (decimal (suc n)) 45,
          )
          (place-read 31 (suc n) true low high (omega arith))

-- ---- end moments

-- a text of eight digits, or one that has T after them
moment-date : (text : List ℕ) → list_all is_digit text ≡ true → length text ≡ 8 → is_moment_word text ≡ true
moment-date text h len =
    let enough : nat_le 8 (length text) ≡ true = grind (arith, nat_tests) in
    let eight : (length text == 8) ≡ true = grind (arith, nat_tests) in
    rw (enough, all-take is_digit 8 text h, eight) refl

moment-time : (date time : List ℕ) → list_all is_digit date ≡ true → length date ≡ 8 → is_moment_word (date ++ 84 ∷ time) ≡ true
moment-time date time h len =
    let text = date ++ 84 ∷ time in
    let long = length-append date (84 ∷ time) in
    let enough : nat_le 8 (length text) ≡ true = grind (arith, nat_tests, long) in
    let more : (length text == 8) ≡ false = grind (arith, nat_tests, long) in
    rw (enough, take_at date (84 ∷ time) 8 len, h, more, get_or_at date 84 time 0 8 len) refl

pub basic_text-moment : (kind : Kind) (t : ℤ) → IsInYears kind t → is_moment_word (basic_text kind t) ≡ true
unfolding basic_text
basic_text-moment Days t h = moment-date (basic_date_text t) (basic_date_text-digits t h) (length-basic_date_text t h)
basic_text-moment Moments t h =
    let date = basic_date_text (day_part Moments t) in
    let time = basic_time_text (second_part Moments t) in
    ap is_moment_word (append_assoc date (codes "T") time)
    ∙ moment-time date time (basic_date_text-digits (day_part Moments t) h) (length-basic_date_text (day_part Moments t) h)

pub basic_text-some : (kind : Kind) (t : ℤ) → IsInYears kind t → is_absent (basic_text kind t) ≡ false
unfolding basic_text
basic_text-some Days t h = not_absent (basic_date_text t) (omega (arith, length-basic_date_text t h))
basic_text-some Moments t h =
    let date = basic_date_text (day_part Moments t) in
    let time = basic_time_text (second_part Moments t) in
    not_absent (date ++ codes "T" ++ time)
    (omega (arith, length-append (date ++ codes "T") time, length-append date (codes "T"), length-basic_date_text (day_part Moments t) h))

-- `#` and digits are no end moment
pub count-no_moment : (ds : List ℕ) → is_moment_word (35 ∷ ds) ≡ false
count-no_moment ds = by (nat_le 8 (length (35 ∷ ds)))
  where
    by : (t : Bool) → (t && list_all is_digit (take 8 (35 ∷ ds)) && ((length (35 ∷ ds) == 8) || is_letter_t (slice_index (35 ∷ ds) 8))) ≡ false
    by true = refl
    by false = refl
