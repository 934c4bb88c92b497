-- A series that is drawn is valid, and its rule chooses its start.
use Rattle.std.proofs.Common.{◌≡◌, ℕ, ◌+◌, ◌<◌, ◌≤◌, Bool, true, false, cond, ◌==◌, None, Some, [], ℤ, pos, ◌≤ℤ◌, refl, sym, ap, arith}
use Rattle.std.specs.Option.{option_or}
use Rattle.std.proofs.lemmas.Int.{ints}
use Rattle.std.proofs.lemmas.Bool.{false≢true}
use Rattle.std.proofs.lemmas.List.Elements.{All-nil, All-cons}
use Rattle.std.proofs.lemmas.Nat.{mod_below}
use Rattle.rr_model.specs.Moment.Units.{is_whole_days}
use Rattle.rr_model.specs.Moment.Years.{IsInYears}
use Rattle.rr_model.specs.Rule.Validity.{IsValidRule, IsDayItem, EndsInYears, is_allowed, takes_start}
use Rattle.rr_model.specs.Series.Soundness.{FitsStart, IsSound, first_refusal}
use Rattle.rr_model.specs.Series.Validity.{IsValidSeries}
use Rattle.rr_model.specs.declared.kind.Kind.TheVariants.{Days}
use Rattle.rr_model.specs.declared.refusal.Refusal.TheVariants.{NotSynchronised}
use Rattle.rr_model.specs.declared.rule.Freq.{Freq}
use Rattle.rr_model.specs.declared.rule.Freq.TheVariants.{Secondly, Minutely, Hourly, Daily, Weekly, Monthly, Yearly}
use Rattle.rr_model.proofs.YearLemmas.{four_digit_year}
use Rattle.rr_drill.specs.Draws.{next_state, draw, draw_below, intervals, drawn_freq, drawn_interval, drawn_week_start, drawn_rule, drawn_start, dates_of_rule, series_from}
use Rattle.rr_drill.proofs.CycleLemmas.{freq_whole_days}
use Rattle.rr_drill.proofs.SynchronisedLemmas.{plain, synchronised}

allowed : (freq : Freq) (n w : ℕ) → is_allowed (plain freq n w) ≡ true
allowed Secondly n w = refl
allowed Minutely n w = refl
allowed Hourly n w = refl
allowed Daily n w = refl
allowed Weekly n w = refl
allowed Monthly n w = refl
allowed Yearly n w = refl

takes_date : (freq : Freq) → is_whole_days freq ≡ true → takes_start freq Days ≡ true
takes_date Secondly e = absurd (false≢true e)
takes_date Minutely e = absurd (false≢true e)
takes_date Hourly e = absurd (false≢true e)
takes_date Daily e = refl
takes_date Weekly e = refl
takes_date Monthly e = refl
takes_date Yearly e = refl

valid_rule : (freq : Freq) (n w : ℕ) → is_whole_days freq ≡ true → 1 ≤ n → n ≤ 12 → w < 7 → IsValidRule Days (plain freq n w)
valid_rule freq n w whole some few week = record {
  interval_low = some;
  interval_high = omega (arith, few);
  months = All-nil _;
  week_numbers = All-nil _;
  year_days = All-nil _;
  month_days = All-nil _;
  days = All-nil IsDayItem;
  hours = All-nil _;
  minutes = All-nil _;
  seconds = All-nil _;
  set_positions = All-nil _;
  week_start = week;
  count = tt;
  rising = record { months = tt; week_numbers = tt; year_days = tt; month_days = tt; days = tt; hours = tt; minutes = tt; seconds = tt; set_positions = tt };
  parts = allowed freq n w;
  start = takes_date freq whole;
}

valid_series : (start : ℤ) (freq : Freq) (n w : ℕ) → pos 0 ≤ℤ start → start ≤ℤ pos 2_932_896 → IsValidRule Days (plain freq n w)
    → IsValidSeries (dates_of_rule start (plain freq n w))
valid_series start freq n w low high valid = record {
  start = (four_digit_year start).1 (omega (arith, ints, low), high);
  start_counts = λ e. absurd (false≢true (sym e));
  rules = All-cons (IsValidRule Days) (plain freq n w) [] valid (All-nil (IsValidRule Days));
  excluded = All-nil (IsValidRule Days);
  few_rules = omega arith;
  ends = All-cons (λ r. EndsInYears r.end) (plain freq n w) [] tt (All-nil (λ r. EndsInYears r.end));
  excluded_ends = All-nil (λ r. EndsInYears r.end);
  plus = All-nil (IsInYears Days);
  minus = All-nil (IsInYears Days);
  plus_rises = tt;
  minus_rises = tt;
  few_dates = omega arith;
}

-- ---- what is drawn

few_intervals : (freq : Freq) → (1 ≤ intervals freq) × (intervals freq ≤ 12)
few_intervals Secondly = (omega arith, omega arith)
few_intervals Minutely = (omega arith, omega arith)
few_intervals Hourly = (omega arith, omega arith)
few_intervals Daily = (omega arith, omega arith)
few_intervals Weekly = (omega arith, omega arith)
few_intervals Monthly = (omega arith, omega arith)
few_intervals Yearly = (omega arith, omega arith)

interval_few : (freq : Freq) (x : ℕ) → drawn_interval freq x ≤ 12
interval_few freq x =
    let m = few_intervals freq in
    omega (arith, m.1, mod_below (draw x) (intervals freq) m.0)

monday_or_sunday : (b : Bool) → cond b 0 6 < 7
monday_or_sunday true = omega arith
monday_or_sunday false = omega arith

weekday : (freq : Freq) (x : ℕ) → drawn_week_start freq x < 7
weekday Secondly x = omega arith
weekday Minutely x = omega arith
weekday Hourly x = omega arith
weekday Daily x = omega arith
weekday Weekly x = monday_or_sunday (draw_below 2 x == 0)
weekday Monthly x = omega arith
weekday Yearly x = omega arith

start_low : (n : ℕ) → pos 0 ≤ℤ pos (19_723 + n)
start_low n = omega (arith, ints)

start_high : (n : ℕ) → n < 28 → pos (19_723 + n) ≤ℤ pos 2_932_896
start_high n l = omega (arith, ints, l)

pub drawn_valid : (x : ℕ) → IsValidSeries (series_from x)
drawn_valid x =
    let freq : Freq = drawn_freq (next_state x) in
    let n : ℕ = drawn_interval freq (next_state (next_state x)) in
    let w : ℕ = drawn_week_start freq (next_state (next_state (next_state x))) in
    let some : 1 ≤ n = omega arith in
    let rule = valid_rule freq n w (freq_whole_days (next_state x)) some (interval_few freq (next_state (next_state x)))
    (weekday freq (next_state (next_state (next_state x)))) in
    valid_series (drawn_start x) freq n w (start_low (draw_below 28 x)) (start_high (draw_below 28 x) (mod_below (draw x) 28 (omega arith))) rule

drawn_synchronised : (x : ℕ) → FitsStart Days (drawn_start x) (drawn_rule (next_state x))
drawn_synchronised x =
    let freq : Freq = drawn_freq (next_state x) in
    let n : ℕ = drawn_interval freq (next_state (next_state x)) in
    let w : ℕ = drawn_week_start freq (next_state (next_state (next_state x))) in
    record { synchronised = synchronised freq n w (drawn_start x) (omega arith); end = tt }

pub drawn_sound : (x : ℕ) → IsSound (series_from x)
drawn_sound x = record {
  valid = drawn_valid x;
  rules = All-cons (FitsStart Days (drawn_start x)) (drawn_rule (next_state x)) [] (drawn_synchronised x) (All-nil (FitsStart Days (drawn_start x)));
  excluded = All-nil _;
}

pub drawn_fits : (x : ℕ) → first_refusal (series_from x) ≡ None
drawn_fits x =
    ap (λ (b : Bool). option_or (option_or (cond b None (Some (NotSynchronised 1))) None) None) (drawn_synchronised x).synchronised
