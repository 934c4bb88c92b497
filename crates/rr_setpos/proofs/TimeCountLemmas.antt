-- Times counted as products of hours, minutes and seconds.
use Rattle.std.proofs.Common.{◌≡◌, ℕ, zero, suc, ◌+◌, ◌*◌, ◌/◌, ◌%◌, ◌≤◌, Bool, true, false, cond, ◌&&◌, ℤ, pos, refl, ap, ◌∙◌, arith}
use Rattle.rr_model.specs.Rule.Filled.{filled_rule, hour_of, minute_of, second_of, wants_hour, wants_minute, wants_second}
use Rattle.rr_model.specs.declared.kind.Kind.TheVariants.{Days, Moments}
use Rattle.rr_model.specs.declared.rule.Rule.{Rule}
use Rattle.rr_model.specs.Rule.DaysAndTimes.{time_holds}
use Rattle.rr_model.proofs.DaysAndTimesLemmas.{time_parts_hold-at}
use Rattle.rr_model.specs.Sets.Counting.{count_seconds}
use Rattle.rr_model.proofs.CountLemmas.{count_seconds-zero, count_seconds-suc, count_seconds-same}
use Rattle.rr_parts.specs.Numbers.{number_allowed}
use Rattle.rr_setpos.specs.Ranks.{times_before, hour_second_allowed, day_second_allowed}
use Rattle.rr_setpos.proofs.ProductLemmas.{count_turns}

-- if all pass
below_all : (f : ℕ → Bool) (n : ℕ) → ((k : ℕ) → f k ≡ true) → count_seconds f n ≡ n
below_all f zero all = count_seconds-zero f
below_all f (suc n) all = count_seconds-suc f n ∙ rw (all n, below_all f n all) (omega arith)

pub times_of_date : (rule : Rule) (start : ℤ) (n : ℕ) → times_before rule Days start n ≡ n
times_of_date rule start n = below_all (λ s. time_holds rule Days start s) n (λ k. refl)

pub and_assoc : (a b c : Bool) → ((a && b) && c) ≡ (a && (b && c))
and_assoc true b c = refl
and_assoc false b c = refl

module _ (rule : Rule) where
  pub hour_turns : (minute second n : ℕ) → count_seconds (λ s. hour_second_allowed rule minute second s) n
      ≡ count_seconds (λ k. number_allowed (wants_minute rule.freq) rule.by_minute minute k) (n / 60) * count_seconds
      (λ k. number_allowed (wants_second rule.freq) rule.by_second second k) 60
      + cond (number_allowed (wants_minute rule.freq) rule.by_minute minute (n / 60))
      (count_seconds (λ k. number_allowed (wants_second rule.freq) rule.by_second second k) (n % 60)) 0
  hour_turns minute second n =
      let M : ℕ → Bool = λ k. number_allowed (wants_minute rule.freq) rule.by_minute minute k in
      let S : ℕ → Bool = λ k. number_allowed (wants_second rule.freq) rule.by_second second k in
      let e : n ≡ n / 60 * 60 + n % 60 = omega arith in
      ap (count_seconds (λ s. hour_second_allowed rule minute second s)) e
      ∙ count_turns 60 (λ s. hour_second_allowed rule minute second s) M S
      (λ x s low. (let a : (x * 60 + s) / 60 ≡ x = omega (arith, low) in let b : (x * 60 + s) % 60 ≡ s = omega (arith, low) in rw (a, b) refl))
      (n / 60) (n % 60) (omega arith)

  pub day_turns : (hour minute second n : ℕ) → count_seconds (λ s. day_second_allowed rule hour minute second s) n
      ≡ count_seconds (λ k. number_allowed (wants_hour rule.freq) rule.by_hour hour k) (n / 3_600) * count_seconds
      (λ s. hour_second_allowed rule minute second s) 3_600
      + cond (number_allowed (wants_hour rule.freq) rule.by_hour hour (n / 3_600)) (count_seconds (λ s. hour_second_allowed rule minute second s) (n % 3_600)) 0
  day_turns hour minute second n =
      let H : ℕ → Bool = λ k. number_allowed (wants_hour rule.freq) rule.by_hour hour k in
      let e : n ≡ n / 3_600 * 3_600 + n % 3_600 = omega arith in
      ap (count_seconds (λ s. day_second_allowed rule hour minute second s)) e
      ∙ count_turns 3_600 (λ s. day_second_allowed rule hour minute second s) H (λ s. hour_second_allowed rule minute second s)
      (λ x s low. (let a : (x * 3_600 + s) / 3_600 ≡ x = omega (arith, low) in let b : (x * 3_600 + s) / 60 % 60 ≡ s / 60 = omega (arith, low) in
      let d : (x * 3_600 + s) % 60 ≡ s % 60 = omega (arith, low) in
      rw (a, b, d) (and_assoc (H x) (number_allowed (wants_minute rule.freq) rule.by_minute minute (s / 60))
      (number_allowed (wants_second rule.freq) rule.by_second second (s % 60)))))
      (n / 3_600) (n % 3_600) (omega arith)

  pub times_of_day : (start : ℤ) (n : ℕ) → n ≤ 86_400 → times_before rule Moments start n
      ≡ count_seconds (λ s. day_second_allowed rule (hour_of Moments start) (minute_of Moments start) (second_of Moments start) s) n
  times_of_day start n few = count_seconds-same (λ s. time_holds rule Moments start s)
      (λ s. day_second_allowed rule (hour_of Moments start) (minute_of Moments start) (second_of Moments start) s) n
      (λ s low. time_parts_hold-at (filled_rule rule Moments start) (pos 0) s (omega (arith, low, few)))
