-- A basic text states a date or a moment of the years 1 to 9999, and only a moment is marked as UTC.
use Rattle.std.proofs.Common.{◌≡◌, ℕ, ◌+◌, ◌*◌, ◌<◌, ◌≤◌, ◌==◌, ◌&&◌, nat_le, Bool, true, false, if◌then◌else◌, refl, sym, ap, ◌∙◌, Option, None, Some}
use Rattle.std.proofs.Common.{List, length, take, drop, slice_index, option_map, ℤ, pos, subst, arith}
use Rattle.std.proofs.lemmas.Bool.{and_parts}
use Rattle.std.proofs.lemmas.Bool.Decides.{nat_tests}
use Rattle.std.proofs.lemmas.Int.{ints}
use Rattle.rr_model.specs.Calendar.{day_number, is_date}
use Rattle.rr_model.specs.Moment.{day_part, moment_at}
use Rattle.rr_model.specs.Text.Moments.{is_digits, is_basic_date, is_basic_time, written_year, written_month, written_day, written_hour, written_minute}
use Rattle.rr_model.specs.Text.Moments.{written_second, basic_date, basic_time, basic_moment, basic, utc_mark, is_letter_t, date_stamp, moment_stamp}
use Rattle.rr_model.specs.Text.Moments.{moment_of}
use Rattle.rr_model.specs.Moment.Years.{IsInYears}
use Rattle.rr_model.specs.declared.kind.Kind.TheVariants.{Days, Moments}
use Rattle.rr_model.specs.declared.stamp.Stamp.{Stamp}
use Rattle.rr_model.proofs.CalendarLemmas.{is_date_is}
use Rattle.rr_model.proofs.MomentLemmas.{day_part-moment_at}
use Rattle.rr_text.proofs.MomentTextLemmas.{day_number_bounds, is_digits_means, number_at_below}
use Rattle.rr_text.proofs.StepLemmas.{stated, where_some}
use Rattle.rr_text.specs.Stamps.{IsStamp}

pub basic_date-in_years : (text : List ℕ) (day : ℤ) → basic_date text ≡ Some day → IsInYears Days day
unfolding basic_date
basic_date-in_years text day h =
    let y = written_year text in
    let m = written_month text in
    let k = written_day text in
    let means = stated (is_basic_date text) (day_number (pos y) m k) day h in
    let date = and_parts (is_digits 8 text && nat_le 1 y) (is_date (pos y) m k) means.0 in
    let digits = and_parts (is_digits 8 text) (nat_le 1 y) date.0 in
    let text_is = is_digits_means 8 text digits.0 in
    let low : 1 ≤ y = grind (arith, nat_tests, digits.1) in
    let high : y < 10_000 = number_at_below 0 4 text (omega (arith, text_is.0)) text_is.1 in
    subst (IsInYears Days) means.1 (day_number_bounds (pos y) m k (omega (arith, ints)) (omega (arith, ints)) ((is_date_is (pos y) m k).0 date.1))

pub basic_time-below : (text : List ℕ) (second : ℕ) → basic_time text ≡ Some second → second < 86_400
unfolding basic_time
basic_time-below text second h =
    let means = stated (is_basic_time text) (written_hour text * 3_600 + written_minute text * 60 + written_second text) second h in
    grind (arith, nat_tests, means.0, means.1)

date_stamp-in_years : (date : Option ℤ) (stamp : Stamp) → ((day : ℤ) → date ≡ Some day → IsInYears Days day) → option_map date_stamp date ≡ Some stamp
    → IsInYears stamp.kind stamp.at
date_stamp-in_years None stamp day_in h = absurd (cc)
date_stamp-in_years (Some day) stamp day_in h =
    let e : date_stamp day ≡ stamp = cc in
    subst (λ (s : Stamp). IsInYears s.kind s.at) e (day_in day refl)

moment_of-in_years : (date : Option ℤ) (time : Option ℕ) (mark : Option Bool) (stamp : Stamp) → ((day : ℤ) → date ≡ Some day → IsInYears Days day)
    → ((second : ℕ) → time ≡ Some second → second < 86_400)
    → moment_of date time mark ≡ Some stamp → IsInYears stamp.kind stamp.at
moment_of-in_years None time mark stamp day_in below h = absurd (cc)
moment_of-in_years (Some day) None mark stamp day_in below h = absurd (cc)
moment_of-in_years (Some day) (Some second) None stamp day_in below h = absurd (cc)
moment_of-in_years (Some day) (Some second) (Some utc) stamp day_in below h =
    let e : moment_stamp day second utc ≡ stamp = cc in
    let back : day_part Moments (moment_at Moments day second) ≡ day = day_part-moment_at day second (below second refl) in
    subst (λ (s : Stamp). IsInYears s.kind s.at) e (subst (IsInYears Days) (sym back) (day_in day refl))

basic_moment-in_years : (text : List ℕ) (stamp : Stamp) → basic_moment text ≡ Some stamp → IsInYears stamp.kind stamp.at
unfolding basic_moment
basic_moment-in_years text stamp h =
    let e = where_some (is_letter_t (slice_index text 8)) _ stamp h in
    moment_of-in_years (basic_date (take 8 text)) (basic_time (take 6 (drop 9 text))) (utc_mark (drop 15 text)) stamp (basic_date-in_years (take 8 text))
    (basic_time-below (take 6 (drop 9 text))) e

basic-in_years : (text : List ℕ) (stamp : Stamp) → basic text ≡ Some stamp → IsInYears stamp.kind stamp.at
unfolding basic
basic-in_years text stamp h =
    elim (length text == 8) as (λ b. (if b then option_map date_stamp (basic_date text) else basic_moment text) ≡ Some stamp → IsInYears stamp.kind stamp.at) [
      | true ↦ date_stamp-in_years (basic_date text) stamp (basic_date-in_years text)
      | false ↦ basic_moment-in_years text stamp
    ] h

-- ---- the mark

date_stamp-unmarked : (date : Option ℤ) (stamp : Stamp) → option_map date_stamp date ≡ Some stamp → stamp.utc ≡ true → stamp.kind ≡ Moments
date_stamp-unmarked None stamp h utc = absurd (cc)
date_stamp-unmarked (Some day) stamp h utc =
    let e : date_stamp day ≡ stamp = cc in
    let unmarked : false ≡ true = ap (λ (s : Stamp). s.utc) e ∙ utc in
    absurd (cc)

moment_of-kind : (date : Option ℤ) (time : Option ℕ) (mark : Option Bool) (stamp : Stamp) → moment_of date time mark ≡ Some stamp → stamp.kind ≡ Moments
moment_of-kind None time mark stamp h = absurd (cc)
moment_of-kind (Some day) None mark stamp h = absurd (cc)
moment_of-kind (Some day) (Some second) None stamp h = absurd (cc)
moment_of-kind (Some day) (Some second) (Some utc) stamp h =
    let e : moment_stamp day second utc ≡ stamp = cc in
    sym (ap (λ (s : Stamp). s.kind) e)

basic_moment-kind : (text : List ℕ) (stamp : Stamp) → basic_moment text ≡ Some stamp → stamp.kind ≡ Moments
unfolding basic_moment
basic_moment-kind text stamp h =
    moment_of-kind (basic_date (take 8 text)) (basic_time (take 6 (drop 9 text))) (utc_mark (drop 15 text)) stamp
    (where_some (is_letter_t (slice_index text 8)) _ stamp h)

basic-marked : (text : List ℕ) (stamp : Stamp) → basic text ≡ Some stamp → stamp.utc ≡ true → stamp.kind ≡ Moments
unfolding basic
basic-marked text stamp h =
    elim (length text == 8) as (λ b. (if b then option_map date_stamp (basic_date text) else basic_moment text) ≡ Some stamp → stamp.utc ≡ true → stamp.kind
    ≡ Moments) [
      | true ↦ date_stamp-unmarked (basic_date text) stamp
      | false ↦ λ e utc. basic_moment-kind text stamp e
    ] h

pub basic-stamp : (text : List ℕ) (stamp : Stamp) → basic text ≡ Some stamp → IsStamp stamp
basic-stamp text stamp h = (basic-in_years text stamp h, basic-marked text stamp h)
