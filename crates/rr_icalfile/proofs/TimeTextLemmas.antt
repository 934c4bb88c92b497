-- A date with the time of day of a moment behind it states the moment of that day at that time.
use Rattle.std.proofs.Common.{◌≡◌, ℕ, ◌+◌, ◌<◌, ◌≤◌, ◌==◌, Bool, true, false, if◌then◌else◌, List, ◌++◌, length, length-append, length-drop, take, drop}
use Rattle.std.proofs.Common.{get_or, ℤ, Option, None, Some, inl, inr, refl, sym, subst, ap, ◌∙◌, arith}
use Rattle.std.specs.Prelude.{◌⊎◌, nat_lt, option_and_then, option_map, slice_index}
use Rattle.std.specs.Option.{is_some}
use Rattle.std.proofs.lemmas.Bool.Decides.{nat_tests}
use Rattle.std.proofs.lemmas.List.{drop-drop, drop_at, get_or-append-add, get_or-drop, take_at}
use Rattle.rr_model.specs.Moment.{moment_at, second_part}
use Rattle.rr_model.specs.Text.Moments.{basic, basic_date, basic_moment, basic_time, date_stamp, is_letter_t, moment_of, moment_stamp, utc_mark}
use Rattle.rr_model.specs.Text.UsedLines.{trim}
use Rattle.rr_model.specs.declared.kind.Kind.TheVariants.{Days, Moments}
use Rattle.rr_model.specs.declared.stamp.Stamp.{Stamp}
use Rattle.rr_model.proofs.MomentLemmas.{second_part-moment_at}
use Rattle.rr_text.proofs.MomentTextLemmas.{basic_moment-short}
use Rattle.rr_icalfile.specs.DayLaws.{DateTakesTime}
use Rattle.rr_icalfile.specs.Days.{day_at, with_time}

-- ---- the parts of a moment

chosen : (b : Bool) (m n : Option Stamp) (stamp : Stamp) → (if b then m else n) ≡ Some stamp
    → ((b ≡ true) × (m ≡ Some stamp)) ⊎ ((b ≡ false) × (n ≡ Some stamp))
chosen true m n stamp h = inl (refl, h)
chosen false m n stamp h = inr (refl, h)

basic_by : (text : List ℕ) (stamp : Stamp) → basic text ≡ Some stamp
    → (((length text == 8) ≡ true) × (option_map date_stamp (basic_date text) ≡ Some stamp)) ⊎ (((length text == 8) ≡ false) × (basic_moment text ≡ Some stamp))
unfolding basic
basic_by text stamp h = chosen (length text == 8) (option_map date_stamp (basic_date text)) (basic_moment text) stamp h

lettered : (b : Bool) (m : Option Stamp) (stamp : Stamp) → (if b then m else None) ≡ Some stamp → (b ≡ true) × (m ≡ Some stamp)
lettered true m stamp h = (refl, h)
lettered false m stamp h = absurd (cc)

with_letter : (text : List ℕ) (stamp : Stamp) → basic_moment text ≡ Some stamp
    → (is_letter_t (slice_index text 8) ≡ true)
    × (moment_of (basic_date (take 8 text)) (basic_time (take 6 (drop 9 text))) (utc_mark (drop 15 text)) ≡ Some stamp)
unfolding basic_moment
with_letter text stamp h = lettered (is_letter_t (slice_index text 8)) _ stamp h

long_enough : (text : List ℕ) (stamp : Stamp) → basic_moment text ≡ Some stamp → 15 ≤ length text
long_enough text stamp h = by (nat_lt (length text) 15) refl
  where
    by : (b : Bool) → nat_lt (length text) 15 ≡ b → 15 ≤ length text
    by true e =
        let none = basic_moment-short text (grind (arith, nat_tests, e)) in
        absurd (cc)
    by false e = grind (arith, nat_tests, e)

-- a moment is stated by its day, its second and its mark
record AreParts (date : Option ℤ) (time : Option ℕ) (mark : Option Bool) (stamp : Stamp) : Type 0 where
  day : ℤ
  second : ℕ
  utc : Bool
  timed : time ≡ Some second
  marked : mark ≡ Some utc
  states : moment_stamp day second utc ≡ stamp

parts : (date : Option ℤ) (time : Option ℕ) (mark : Option Bool) (stamp : Stamp) → moment_of date time mark ≡ Some stamp → AreParts date time mark stamp
parts None time mark stamp h = absurd (cc)
parts (Some day) None mark stamp h = absurd (cc)
parts (Some day) (Some second) None stamp h = absurd (cc)
parts (Some day) (Some second) (Some utc) stamp h = record { day = day; second = second; utc = utc; timed = refl; marked = refl; states = cc }

time-below : (text : List ℕ) (s : ℕ) → basic_time text ≡ Some s → s < 86_400
unfolding basic_time
time-below text s h = grind (arith, nat_tests, h)

-- ---- a date, or a moment

no_date : (date : Option ℤ) (stamp : Stamp) → option_map date_stamp date ≡ Some stamp → stamp.kind ≡ Moments → ⊥
no_date None stamp h moment = absurd (cc)
no_date (Some day) stamp h moment =
    let same : date_stamp day ≡ stamp = cc in
    let days : Days ≡ Moments = ap (λ (s : Stamp). s.kind) same ∙ moment in
    absurd (cc)

is_moment : (text : List ℕ) (stamp : Stamp) → basic text ≡ Some stamp → stamp.kind ≡ Moments → basic_moment text ≡ Some stamp
is_moment text stamp h moment = elim (basic_by text stamp h) [
  | inl date ↦ absurd (no_date (basic_date text) stamp date.1 moment)
  | inr m ↦ m.1
]

of_date : (date : Option ℤ) (stamp : Stamp) (day : ℤ) → option_map date_stamp date ≡ Some stamp → day_at stamp.kind stamp.at ≡ Some day → date ≡ Some day
of_date None stamp day h on = absurd (cc)
of_date (Some x) stamp day h on =
    let same : date_stamp x ≡ stamp = cc in
    subst (λ (s : Stamp). day_at s.kind s.at ≡ Some day) (sym same) on

is_date : (text : List ℕ) (found : Option Stamp) (day : ℤ) → basic text ≡ found
    → option_and_then (λ (stamp : Stamp). day_at stamp.kind stamp.at) found ≡ Some day → (length text ≡ 8) × (basic_date text ≡ Some day)
is_date text None day is h = absurd (cc)
is_date text (Some stamp) day is h = elim (basic_by text stamp is) [
  | inl date ↦ (grind (arith, nat_tests, date.0), of_date (basic_date text) stamp day date.1 h)
  | inr m ↦
      let p = parts _ _ _ stamp (with_letter text stamp m.1).1 in
      let none : day_at Moments (moment_at Moments p.day p.second) ≡ Some day =
      subst (λ (s : Stamp). day_at s.kind s.at ≡ Some day) (sym p.states) h in
      absurd (cc)
]

-- ---- the date with the time behind it

-- a text of eight bytes with what stands behind the eighth byte of another
module _ (date start : List ℕ) (len : length date ≡ 8) (long : 15 ≤ length start) where
  not_eight : (length (date ++ drop 8 start) == 8) ≡ false
  not_eight = grind (arith, nat_tests, length-append date (drop 8 start), length-drop 8 start, len, long)

  letter : slice_index (date ++ drop 8 start) 8 ≡ slice_index start 8
  letter =
      let eight : 8 ≡ length date + 0 = omega (arith, len) in
      ap (λ (n : ℕ). get_or (date ++ drop 8 start) n 0) eight ∙ get_or-append-add date (drop 8 start) 0 0 ∙ get_or-drop 8 start 0 0

  behind : (n : ℕ) → drop (8 + n) (date ++ drop 8 start) ≡ drop (8 + n) start
  behind n = sym (drop-drop n 8 (date ++ drop 8 start)) ∙ ap (drop n) (drop_at date (drop 8 start) 8 len) ∙ drop-drop n 8 start

  pub states_moment : (day : ℤ) (second : ℕ) (utc : Bool) → basic_date date ≡ Some day → is_letter_t (slice_index start 8) ≡ true
      → basic_time (take 6 (drop 9 start)) ≡ Some second → utc_mark (drop 15 start) ≡ Some utc
      → basic (date ++ drop 8 start) ≡ Some (moment_stamp day second utc)
  unfolding basic basic_moment
  states_moment day second utc d l t u =
      let front : take 8 (date ++ drop 8 start) ≡ date = take_at date (drop 8 start) 8 len in
      let nine : drop 9 (date ++ drop 8 start) ≡ drop 9 start = behind 1 in
      let fifteen : drop 15 (date ++ drop 8 start) ≡ drop 15 start = behind 7 in
      rw (not_eight, letter, l, front, nine, fifteen, d, t, u) refl

pub date_takes_time : DateTakesTime
date_takes_time start text stamp day states moment dated =
    let m = is_moment start stamp states moment in
    let l = with_letter start stamp m in
    let p = parts (basic_date (take 8 start)) (basic_time (take 6 (drop 9 start))) (utc_mark (drop 15 start)) stamp l.1 in
    let d = is_date (trim text) (basic (trim text)) day refl dated in
    let whole : with_time (drop 8 start) text ≡ trim text ++ drop 8 start =
    ap (λ (o : Option ℤ). if is_some o then trim text ++ drop 8 start else text) dated in
    let second : p.second ≡ second_part Moments stamp.at =
    sym (second_part-moment_at p.day p.second (time-below (take 6 (drop 9 start)) p.second p.timed))
    ∙ ap (λ (s : Stamp). second_part Moments s.at) p.states in
    let utc : p.utc ≡ stamp.utc = ap (λ (s : Stamp). s.utc) p.states in
    ap basic whole ∙ states_moment (trim text) start d.0 (long_enough start stamp m) day p.second p.utc d.1 l.0 p.timed p.marked
    ∙ (λ i. Some (record { kind = Moments; at = moment_at Moments day (second i); utc = utc i }))
