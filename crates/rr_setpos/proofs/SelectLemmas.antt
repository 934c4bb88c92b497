-- The number, the second and the day of a rank.
use Rattle.std.proofs.Common.{◌≡◌, ℕ, zero, suc, ◌+◌, ◌*◌, ◌/◌, ◌%◌, ◌<◌, Bool, true, cond, ℤ, pos, refl, ◌∙◌, arith}
use Rattle.std.proofs.lemmas.Nat.{div_below, div-add-mod', mod_below}
use Rattle.rr_model.specs.Rule.Filled.{filled_rule, hour_of, minute_of, second_of, wants_hour, wants_minute, wants_second}
use Rattle.rr_model.specs.declared.kind.Kind.TheVariants.{Moments}
use Rattle.rr_model.specs.declared.rule.Rule.{Rule}
use Rattle.rr_model.specs.Rule.DaysAndTimes.{time_holds}
use Rattle.rr_model.proofs.DaysAndTimesLemmas.{time_parts_hold-at}
use Rattle.rr_model.specs.Sets.Counting.{count_seconds}
use Rattle.rr_model.proofs.CountLemmas.{count_seconds-zero}
use Rattle.rr_parts.specs.Numbers.{number_allowed}
use Rattle.rr_setpos.specs.Ranks.{hour_second_allowed, day_second_allowed}
use Rattle.rr_setpos.proofs.PositionLemmas.{some_zero}
use Rattle.rr_setpos.proofs.TimeCountLemmas.{hour_turns, day_turns}

if_holds : (b : Bool) (n : ℕ) → b ≡ true → cond b n 0 ≡ n
if_holds b n e = rw e refl

-- below a product each factor is some
pub some_each : (n a b : ℕ) → n < a * b → 0 < b
some_each n a zero low = absurd (omega (arith, low))
some_each n a (suc b) low = omega arith

-- the parts of a rank below a product
pub parts_of_rank : (n a b : ℕ) → n < a * b → (0 < b) × (n / b < a) × (n % b < b)
parts_of_rank n a b low = let some = some_each n a b low in (some, div_below n b a some low, mod_below n b some)

module _ (rule : Rule) (hour minute second : ℕ) where
  abbrev pub hours : ℕ → Bool
  hours k = number_allowed (wants_hour rule.freq) rule.by_hour hour k

  abbrev pub minutes : ℕ → Bool
  minutes k = number_allowed (wants_minute rule.freq) rule.by_minute minute k

  abbrev pub seconds : ℕ → Bool
  seconds k = number_allowed (wants_second rule.freq) rule.by_second second k

  abbrev pub in_hour : ℕ → Bool
  in_hour s = hour_second_allowed rule minute second s

  abbrev pub in_day : ℕ → Bool
  in_day s = day_second_allowed rule hour minute second s

  whole_hour : count_seconds in_hour 3_600 ≡ count_seconds minutes 60 * count_seconds seconds 60
  whole_hour = hour_turns rule minute second 3_600 ∙ omega (arith, some_zero (minutes 60) (count_seconds seconds 0) (count_seconds-zero seconds))

  whole_day : count_seconds in_day 86_400 ≡ count_seconds hours 24 * count_seconds in_hour 3_600
  whole_day = day_turns rule hour minute second 86_400 ∙ omega (arith, some_zero (hours 24) (count_seconds in_hour 0) (count_seconds-zero in_hour))

  pub rank_in_hour : (n : ℕ) → n < count_seconds in_hour 3_600 → (0 < count_seconds seconds 60)
      × (n / count_seconds seconds 60 < count_seconds minutes 60) × (n % count_seconds seconds 60 < count_seconds seconds 60)
  rank_in_hour n low = parts_of_rank n (count_seconds minutes 60) (count_seconds seconds 60) (omega (arith, low, whole_hour))

  pub rank_in_day : (n : ℕ) → n < count_seconds in_day 86_400 → (0 < count_seconds in_hour 3_600)
      × (n / count_seconds in_hour 3_600 < count_seconds hours 24) × (n % count_seconds in_hour 3_600 < count_seconds in_hour 3_600)
  rank_in_day n low = parts_of_rank n (count_seconds hours 24) (count_seconds in_hour 3_600) (omega (arith, low, whole_day))

  pub at_rank_in_hour : (n m s : ℕ) → s < 60 → minutes m ≡ true → count_seconds minutes m ≡ n / count_seconds seconds 60
      → count_seconds seconds s ≡ n % count_seconds seconds 60 → count_seconds in_hour (60 * m + s) ≡ n
  at_rank_in_hour n m s low holds first last =
      let a : (60 * m + s) / 60 ≡ m = omega (arith, low) in
      let b : (60 * m + s) % 60 ≡ s = omega (arith, low) in
      hour_turns rule minute second (60 * m + s) ∙ rw (a, b, first, last, if_holds (minutes m) (n % count_seconds seconds 60) holds)
      (div-add-mod' n (count_seconds seconds 60))

  pub at_rank_in_day : (n h s : ℕ) → s < 3_600 → hours h ≡ true → count_seconds hours h ≡ n / count_seconds in_hour 3_600
      → count_seconds in_hour s ≡ n % count_seconds in_hour 3_600 → count_seconds in_day (3_600 * h + s) ≡ n
  at_rank_in_day n h s low holds first last =
      let a : (3_600 * h + s) / 3_600 ≡ h = omega (arith, low) in
      let b : (3_600 * h + s) % 3_600 ≡ s = omega (arith, low) in
      day_turns rule hour minute second (3_600 * h + s) ∙ rw (a, b, first, last, if_holds (hours h) (n % count_seconds in_hour 3_600) holds)
      (div-add-mod' n (count_seconds in_hour 3_600))

  pub allowed_in_day : (h s : ℕ) → s < 3_600 → hours h ≡ true → in_hour s ≡ true → in_day (3_600 * h + s) ≡ true
  allowed_in_day h s low holds rest =
      let a : (3_600 * h + s) / 3_600 ≡ h = omega (arith, low) in
      let b : (3_600 * h + s) / 60 % 60 ≡ s / 60 = omega (arith, low) in
      let d : (3_600 * h + s) % 60 ≡ s % 60 = omega (arith, low) in
      rw (a, b, d, holds) rest

-- in kind Moments the parts of the start's own time decide
pub time_at_second : (rule : Rule) (start : ℤ) (s : ℕ) → s < 86_400 → time_holds rule Moments start s
    ≡ day_second_allowed rule (hour_of Moments start) (minute_of Moments start) (second_of Moments start) s
time_at_second rule start s low = time_parts_hold-at (filled_rule rule Moments start) (pos 0) s low
