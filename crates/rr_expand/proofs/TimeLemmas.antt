-- The seconds of a day that the time parts of a filled rule allow.
use Rattle.std.proofs.Common.{◌≡◌, ℕ, ◌/◌, ◌%◌, ◌<◌, Bool, true, ◌&&◌, List, ℤ, pos, arith}
use Rattle.std.specs.Prelude.{IsTrue, nat_lt}
use Rattle.std.proofs.lemmas.List.Elements.{Contains-get_or}
use Rattle.rr_model.specs.Rising.Sets.{IsSetOf, IsSecondsOfDay}
use Rattle.rr_model.specs.Rule.Filled.{hour_of, minute_of, second_of, filled_part, filled_rule}
use Rattle.rr_model.specs.Rule.Candidate.{allows}
use Rattle.rr_model.specs.declared.kind.Kind.TheVariants.{Moments}
use Rattle.rr_model.specs.declared.rule.Rule.{Rule}
use Rattle.rr_model.proofs.DaysAndTimesLemmas.{time_parts_hold-at, fills_times, and_true, and_parts}
use Rattle.rr_model.proofs.RisingSetLemmas.{set_same}
use Rattle.rr_model.specs.Rule.DaysAndTimes.{IsCandidateTime}
use Rattle.rr_model.specs.Moment.Units.{is_whole_days}
use Rattle.rr_expand.specs.Spread.{of_day}
use Rattle.rr_expand.proofs.SetLemmas.{Passed}
use Rattle.rr_expand.proofs.SpreadSets.{InDay, of_day-set}

-- the seconds of the hours, minutes and seconds that pass
module _ (H M S : ℕ → Bool) (hs ms ss : List ℕ) (a : IsSetOf nat_lt hs (Passed H 24)) (b : IsSetOf nat_lt ms (Passed M 60))
    (c : IsSetOf nat_lt ss (Passed S 60)) where
  pub passed_day : IsSetOf nat_lt (of_day hs ms ss) (λ s. (s < 86_400) × IsTrue (H (s / 3_600) && M (s / 60 % 60) && S (s % 60)))
  passed_day =
      set_same nat_lt (InDay hs ms ss) _ (of_day hs ms ss)
      (of_day-set hs ms ss a.rises b.rises c.rises (λ x h. ((b.exact x).0 h).0) (λ x h. ((c.exact x).0 h).0))
      (λ s. (
        (λ h. (
          omega (arith, ((a.exact (s / 3_600)).0 h.0).0),
          and_true _ _ _ ((a.exact (s / 3_600)).0 h.0).1 ((b.exact (s / 60 % 60)).0 h.1).1 ((c.exact (s % 60)).0 h.2).1,
        )),
        (λ h. (let p = and_parts (H (s / 3_600)) (M (s / 60 % 60)) (S (s % 60)) h.1 in (
          (a.exact (s / 3_600)).1 (omega (arith, h.0), p.0),
          (b.exact (s / 60 % 60)).1 (omega arith, p.1),
          (c.exact (s % 60)).1 (omega arith, p.2),
        ))),
      ))

-- a set of seconds below a day's is one of a day
pub below_a_day : (xs : List ℕ) (P : ℕ → Type 0) → ((s : ℕ) → P s → s < 86_400) → IsSetOf nat_lt xs P → IsSecondsOfDay xs
below_a_day xs P low set = record {
  rises = set.rises;
  below_a_day = λ k d l. low _ ((set.exact _).0 (Contains-get_or xs k d l));
}

-- for a rule of days these are its candidate times
pub candidate_times : (rule : Rule) (start : ℤ) (hs ms ss : List ℕ) → is_whole_days rule.freq ≡ true
    → IsSetOf nat_lt hs (Passed (λ n. allows (filled_part true rule.by_hour (pos (hour_of Moments start))) (pos n)) 24)
    → IsSetOf nat_lt ms (Passed (λ n. allows (filled_part true rule.by_minute (pos (minute_of Moments start))) (pos n)) 60)
    → IsSetOf nat_lt ss (Passed (λ n. allows (filled_part true rule.by_second (pos (second_of Moments start))) (pos n)) 60)
    → IsSetOf nat_lt (of_day hs ms ss) (IsCandidateTime rule Moments start)
candidate_times rule start hs ms ss coarse a b c =
    let w = fills_times rule.freq coarse in
    set_same nat_lt _ (IsCandidateTime rule Moments start) (of_day hs ms ss) (passed_day _ _ _ hs ms ss a b c)
    (λ s. (
      (λ h. (h.0, rw (time_parts_hold-at (filled_rule rule Moments start) (pos 0) s h.0, w.0, w.1, w.2) h.1)),
      (λ h. (h.0, rw (w.0, w.1, w.2) at (rw (time_parts_hold-at (filled_rule rule Moments start) (pos 0) s h.0) at h.1))),
    ))
