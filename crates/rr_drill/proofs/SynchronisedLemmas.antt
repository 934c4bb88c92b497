-- A rule of a frequency, an interval and a week start alone chooses its own start, if that is a date.
use Rattle.std.proofs.Common.{◌≡◌, ℕ, ◌≤◌, ◌%◌, Bool, true, false, ◌&&◌, ◌||◌, ◌==◌, [], ◌∷◌, ℤ, pos, ◌-ℤ◌, refl, ap, arith}
use Rattle.std.proofs.lemmas.Int.{ints}
use Rattle.std.proofs.lemmas.Bool.Decides.{nat_tests}
use Rattle.std.proofs.lemmas.Nat.{mod_below, div-add-mod'}
use Rattle.rr_model.specs.Whole.{divides}
use Rattle.rr_model.specs.Calendar.{month_of, day_of_month, weekday_of, days_in_month, year_of}
use Rattle.rr_model.specs.Moment.Units.{unit_number}
use Rattle.rr_model.specs.Rule.Candidate.{is_candidate, lists, allows_signed, date_parts_hold, time_parts_hold, interval_holds}
use Rattle.rr_model.specs.Rule.Candidate.{by_month_holds, by_week_no_holds, by_year_day_holds, by_month_day_holds, by_day_holds}
use Rattle.rr_model.specs.Rule.Chosen.{is_chosen, by_set_pos_holds}
use Rattle.rr_model.specs.Rule.Filled.{filled_rule}
use Rattle.rr_model.specs.Rule.Plain.{plain_rule}
use Rattle.rr_model.specs.declared.kind.Kind.TheVariants.{Days}
use Rattle.rr_model.specs.declared.rule.Freq.{Freq}
use Rattle.rr_model.specs.declared.rule.Freq.TheVariants.{Secondly, Minutely, Hourly, Daily, Weekly, Monthly, Yearly}
use Rattle.rr_model.specs.declared.rule.Rule.{Rule}
use Rattle.rr_model.proofs.TestLemmas.{int_eq-same}

-- the rule of a frequency, an interval and a week start
abbrev pub plain : Freq → ℕ → ℕ → Rule
plain freq n w = record (plain_rule freq n) { week_start = w }

value_listed : (v : ℤ) → lists (v ∷ []) v ≡ true
value_listed v = ap (λ (b : Bool). b || false) (int_eq-same v)

place_allowed : (v many : ℤ) → allows_signed (v ∷ []) v many ≡ true
place_allowed v many = ap (λ (b : Bool). b || lists (v ∷ []) ((v -ℤ many) -ℤ pos 1)) (value_listed v)

none_left : (n : ℕ) → 1 ≤ n → 0 % n ≡ 0
none_left n h = omega (arith, div-add-mod' 0 n, mod_below 0 n h)

divides_none : (n : ℕ) (u : ℤ) → 1 ≤ n → divides n (u -ℤ u) ≡ true
divides_none n u h =
    let e : u -ℤ u ≡ pos 0 = omega (arith, ints) in
    let z : (0 % n == 0) ≡ true = rw (none_left n h) refl in
    rw e z

five : (a b c d e : Bool) → a ≡ true → b ≡ true → c ≡ true → d ≡ true → e ≡ true → (a && b && c && d && e) ≡ true
five a b c d e p q r s t = rw (p, q, r, s, t) refl

weekday_held : (n w : ℕ) (start : ℤ) → by_day_holds (filled_rule (plain Weekly n w) Days start) start ≡ true
weekday_held n w start = let e : (weekday_of start == weekday_of start) ≡ true = grind (arith, nat_tests) in ap (λ (b : Bool). (b && true) || false) e

dates_hold : (freq : Freq) (n w : ℕ) (start : ℤ) → date_parts_hold (filled_rule (plain freq n w) Days start) start ≡ true
dates_hold Secondly n w start = refl
dates_hold Minutely n w start = refl
dates_hold Hourly n w start = refl
dates_hold Daily n w start = refl
dates_hold Weekly n w start = weekday_held n w start
dates_hold Monthly n w start =
    let r : Rule = filled_rule (plain Monthly n w) Days start in
    five (by_month_holds r start) (by_week_no_holds r start) (by_year_day_holds r start) (by_month_day_holds r start) (by_day_holds r start)
    refl refl refl (place_allowed (pos (day_of_month start)) (pos (days_in_month (year_of start) (month_of start)))) refl
dates_hold Yearly n w start =
    let r : Rule = filled_rule (plain Yearly n w) Days start in
    five (by_month_holds r start) (by_week_no_holds r start) (by_year_day_holds r start) (by_month_day_holds r start) (by_day_holds r start)
    (value_listed (pos (month_of start))) refl refl (place_allowed (pos (day_of_month start)) (pos (days_in_month (year_of start) (month_of start)))) refl

all_four : (a b c d : Bool) → a ≡ true → b ≡ true → c ≡ true → d ≡ true → ((a && b && c) && d) ≡ true
all_four a b c d p q r s = rw (p, q, r, s) refl

pub synchronised : (freq : Freq) (n w : ℕ) (start : ℤ) → 1 ≤ n → is_chosen (plain freq n w) Days start start ≡ true
unfolding is_chosen is_candidate
synchronised freq n w start h =
    let rule : Rule = plain freq n w in
    all_four (interval_holds rule Days start start) (date_parts_hold (filled_rule rule Days start) start) (time_parts_hold (filled_rule rule Days start) Days start)
    (by_set_pos_holds rule Days start start)
    (divides_none n (unit_number freq w Days start) h) (dates_hold freq n w start) refl refl
