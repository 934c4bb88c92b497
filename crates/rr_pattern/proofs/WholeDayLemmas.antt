-- Rules of whole days that take their time from the start, and have no set positions.
use Rattle.std.proofs.Common.{◌≡◌, ℕ, ◌/◌, ◌%◌, ◌==◌, Bool, true, false, ◌&&◌, ◌||◌, [], ℤ, pos, refl, arith}
use Rattle.std.specs.Ordering.{int_eq}
use Rattle.std.proofs.lemmas.Int.{ints}
use Rattle.std.proofs.lemmas.Bool.Decides.{nat_tests}
use Rattle.rr_model.specs.Moment.{day_part, second_part}
use Rattle.rr_model.specs.Moment.Units.{is_whole_days}
use Rattle.rr_model.specs.Rule.Filled.{filled_rule}
use Rattle.rr_model.specs.Rule.Candidate.{date_parts_hold, time_parts_hold, interval_holds, is_candidate}
use Rattle.rr_model.specs.declared.kind.Kind.{Kind}
use Rattle.rr_model.specs.declared.kind.Kind.TheVariants.{Days, Moments}
use Rattle.rr_model.specs.declared.rule.Rule.{Rule}
use Rattle.rr_model.proofs.DaysAndTimesLemmas.{date_parts_hold-day, fills_times, unit_of_day}
use Rattle.rr_model.specs.Rule.DaysAndTimes.{day_holds}

-- a rule of whole days with no time part
pub record IsDayRule (rule : Rule) : Type 0 where
  pub coarse : is_whole_days rule.freq ≡ true
  pub no_hours : rule.by_hour ≡ []
  pub no_minutes : rule.by_minute ≡ []
  pub no_seconds : rule.by_second ≡ []

-- one hour, one minute and one second of the hour are one second of the day
one_time : (a b : ℕ)
    → ((int_eq (pos (b / 3_600)) (pos (a / 3_600)) || false) && (int_eq (pos (b / 60 % 60)) (pos (a / 60 % 60)) || false)
    && (int_eq (pos (b % 60)) (pos (a % 60)) || false)) ≡ (a == b)
one_time a b = grind (arith, ints, nat_tests)

time_is_start : (rule : Rule) (kind : Kind) (start t : ℤ) → IsDayRule rule
    → time_parts_hold (filled_rule rule kind start) kind t ≡ (second_part kind t == second_part kind start)
time_is_start rule Days start t r = refl
time_is_start rule Moments start t r =
    let w = fills_times rule.freq r.coarse in
    rw (r.no_hours, r.no_minutes, r.no_seconds, w.0, w.1, w.2) (one_time (second_part Moments t) (second_part Moments start))

and_last : (a b c : Bool) → (a && b && c) ≡ (c && (a && b))
and_last true true true = refl
and_last true true false = refl
and_last true false true = refl
and_last true false false = refl
and_last false b true = refl
and_last false b false = refl

-- a candidate is a moment at the start's second on a candidate day
pub candidate_is_day : (rule : Rule) (kind : Kind) (start t : ℤ) → IsDayRule rule
    → is_candidate rule kind start t ≡ ((second_part kind t == second_part kind start) && day_holds rule (day_part kind start) (day_part kind t))
unfolding is_candidate
candidate_is_day rule kind start t r =
    rw (
      unit_of_day rule.freq rule.week_start kind t r.coarse,
      unit_of_day rule.freq rule.week_start kind start r.coarse,
      date_parts_hold-day rule kind start (day_part kind t),
      time_is_start rule kind start t r,
    )
    (and_last (interval_holds rule Days (day_part kind start) (day_part kind t))
    (date_parts_hold (filled_rule rule Days (day_part kind start)) (day_part kind t)) (second_part kind t == second_part kind start))
