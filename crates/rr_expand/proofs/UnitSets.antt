-- The seconds that the time parts allow in one unit of a day.
use Rattle.std.proofs.Common.{◌≡◌, ℕ, ◌-◌, ◌*◌, ◌/◌, ◌%◌, ◌<◌, ◌≤◌, Bool, true, false, ◌&&◌, cond, List, [], ◌∷◌, Contains, ℤ, pos, All, refl, sym, subst, arith}
use Rattle.std.specs.Prelude.{IsTrue, nat_lt}
use Rattle.std.proofs.lemmas.Bool.{and_from, and_parts, false≢true}
use Rattle.rr_model.specs.Rising.Sets.{IsSetOf}
use Rattle.rr_model.specs.Rule.Filled.{filled_part, wants_hour, wants_minute, wants_second}
use Rattle.rr_model.specs.Rule.Candidate.{allows}
use Rattle.rr_model.specs.declared.rule.Freq.{Freq}
use Rattle.rr_model.specs.declared.rule.Freq.TheVariants.{Secondly, Minutely, Hourly, Daily, Weekly, Monthly, Yearly}
use Rattle.rr_model.specs.declared.rule.Rule.{Rule}
use Rattle.rr_model.proofs.RisingSetLemmas.{set_same, set_empty}
use Rattle.rr_model.specs.Moment.Units.{is_whole_days, unit_seconds}
use Rattle.rr_expand.specs.Spread.{of_minute, of_hour, of_unit}
use Rattle.rr_expand.specs.UnitTimes.{AreNumbersOfUnit}
use Rattle.rr_expand.proofs.SetLemmas.{Passed, passed_below}
use Rattle.rr_expand.proofs.SpreadSets.{InMinute, InHour, InHour-below, of_minute-set, of_hour-set, set_one}
use Rattle.rr_model.proofs.DaysAndTimesLemmas.{and_true, and_parts as all_parts}

-- a second of a day of which the hour, the minute and the second pass
abbrev pub PassesAt : (ℕ → Bool) → (ℕ → Bool) → (ℕ → Bool) → ℕ → Type 0
PassesAt H M S s = (s < 86_400) × IsTrue (H (s / 3_600) && M (s / 60 % 60) && S (s % 60))

-- a set that is empty if a test fails
if_passes : (b : Bool) (P : ℕ → Type 0) (xs : List ℕ) → (b ≡ true → IsSetOf nat_lt xs P) → ((s : ℕ) → P s → IsTrue b) → IsSetOf nat_lt (cond b xs []) P
if_passes true P xs yes_set needs = yes_set refl
if_passes false P xs yes_set needs = set_empty nat_lt P (λ s p. false≢true (needs s p))

module _ (H M S : ℕ → Bool) where
  hour_set : (ms ss : List ℕ) → IsSetOf nat_lt ms (Passed M 60) → IsSetOf nat_lt ss (Passed S 60) → (k : ℕ) → k < 24
      → IsSetOf nat_lt (cond (H k) (of_hour (3_600 * k) ms ss) []) (λ s. (s / 3_600 ≡ k) × PassesAt H M S s)
  hour_set ms ss m s k low =
      if_passes (H k) (λ t. (t / 3_600 ≡ k) × PassesAt H M S t) (of_hour (3_600 * k) ms ss)
      (λ passes. set_same nat_lt (InHour (3_600 * k) ms ss) (λ t. (t / 3_600 ≡ k) × PassesAt H M S t) (of_hour (3_600 * k) ms ss)
      (of_hour-set (3_600 * k) ms ss m.rises s.rises (λ x c. ((s.exact x).0 c).0))
      (λ t. (
        (λ h. (let high = InHour-below (3_600 * k) ms ss (λ x c. ((m.exact x).0 c).0) t h in
            let hour : k ≡ t / 3_600 = omega (arith, high, h.0) in
            let minute : (t - 3_600 * k) / 60 ≡ t / 60 % 60 = omega (arith, high, h.0) in
            let second : (t - 3_600 * k) % 60 ≡ t % 60 = omega (arith, high, h.0) in (
              sym hour,
              (
                omega (arith, high, low),
                and_true _ _ _ (subst (λ n. IsTrue (H n)) hour passes) ((m.exact _).0 (subst (Contains ms) minute h.1)).1
                    ((s.exact _).0 (subst (Contains ss) second h.2)).1,
              ),
            ))),
        (λ h. (let p = all_parts (H (t / 3_600)) (M (t / 60 % 60)) (S (t % 60)) h.1.1 in
            let low : 3_600 * k ≤ t = omega (arith, h.0) in
            let minute : t / 60 % 60 ≡ (t - 3_600 * k) / 60 = omega (arith, h.0) in
            let second : t % 60 ≡ (t - 3_600 * k) % 60 = omega (arith, h.0) in (
              low,
              subst (Contains ms) minute ((m.exact (t / 60 % 60)).1 (omega arith, p.1)),
              subst (Contains ss) second ((s.exact (t % 60)).1 (omega arith, p.2)),
            ))),
      )))
      (λ t h. subst (λ n. IsTrue (H n)) h.0 (all_parts (H (t / 3_600)) (M (t / 60 % 60)) (S (t % 60)) h.1.1).0)

  minute_set : (ss : List ℕ) → IsSetOf nat_lt ss (Passed S 60) → (k : ℕ) → k < 1_440
      → IsSetOf nat_lt (cond (H (k / 60) && M (k % 60)) (of_minute (60 * k) ss) []) (λ s. (s / 60 ≡ k) × PassesAt H M S s)
  minute_set ss s k low =
      if_passes (H (k / 60) && M (k % 60)) (λ t. (t / 60 ≡ k) × PassesAt H M S t) (of_minute (60 * k) ss)
      (λ passes. (let q = and_parts (H (k / 60)) (M (k % 60)) passes in
      set_same nat_lt (InMinute (60 * k) ss) (λ t. (t / 60 ≡ k) × PassesAt H M S t) (of_minute (60 * k) ss)
      (of_minute-set (60 * k) ss s.rises)
      (λ t. (
        (λ h. (let few = ((s.exact (t - 60 * k)).0 h.1).0 in
            let hour : k / 60 ≡ t / 3_600 = omega (arith, few, h.0) in
            let minute : k % 60 ≡ t / 60 % 60 = omega (arith, few, h.0) in
            let second : t - 60 * k ≡ t % 60 = omega (arith, few, h.0) in (
              omega (arith, few, h.0),
              (
                omega (arith, few, low),
                and_true _ _ _ (subst (λ n. IsTrue (H n)) hour q.0) (subst (λ n. IsTrue (M n)) minute q.1)
                    ((s.exact _).0 (subst (Contains ss) second h.1)).1,
              ),
            ))),
        (λ h. (let p = all_parts (H (t / 3_600)) (M (t / 60 % 60)) (S (t % 60)) h.1.1 in
            let second : t % 60 ≡ t - 60 * k = omega (arith, h.0) in
            (omega (arith, h.0), subst (Contains ss) second ((s.exact (t % 60)).1 (omega arith, p.2))))),
      ))))
      (λ t h. (let p = all_parts (H (t / 3_600)) (M (t / 60 % 60)) (S (t % 60)) h.1.1 in
      let hour : t / 3_600 ≡ k / 60 = omega (arith, h.0) in
      let minute : t / 60 % 60 ≡ k % 60 = omega (arith, h.0) in
      and_from _ _ (subst (λ n. IsTrue (H n)) hour p.0) (subst (λ n. IsTrue (M n)) minute p.1)))

  second_set : (k : ℕ) → k < 86_400
      → IsSetOf nat_lt (cond (H (k / 3_600) && M (k / 60 % 60) && S (k % 60)) (k ∷ []) []) (λ s. (s / 1 ≡ k) × PassesAt H M S s)
  second_set k low =
      if_passes (H (k / 3_600) && M (k / 60 % 60) && S (k % 60)) (λ t. (t / 1 ≡ k) × PassesAt H M S t) (k ∷ [])
      (λ passes. set_same nat_lt (λ t. k ≡ t) (λ t. (t / 1 ≡ k) × PassesAt H M S t) (k ∷ []) (set_one nat_lt k)
      (λ t. (
        (λ e. (omega (arith, e), subst (PassesAt H M S) e (low, passes))),
        (λ h. omega (arith, h.0)),
      )))
      (λ t h. (let e : t ≡ k = omega (arith, h.0) in subst (λ n. IsTrue (H (n / 3_600) && M (n / 60 % 60) && S (n % 60))) e h.1.1))

-- the parts of a rule with units shorter than a day, filled with an hour, a minute and a second
module _ (freq : Freq) (rule : Rule) (h m s : ℕ) where
  abbrev pub hour_allowed : ℕ → Bool
  hour_allowed n = allows (filled_part (wants_hour freq) rule.by_hour (pos h)) (pos n)

  abbrev pub minute_allowed : ℕ → Bool
  minute_allowed n = allows (filled_part (wants_minute freq) rule.by_minute (pos m)) (pos n)

  abbrev pub second_allowed : ℕ → Bool
  second_allowed n = allows (filled_part (wants_second freq) rule.by_second (pos s)) (pos n)

-- the numbers of a unit are below 60
pub numbers_below : (holds_many : Bool) (part : List ℤ) (own : ℕ) (ns given : List ℕ) → given ≡ ns → AreNumbersOfUnit holds_many part own ns
    → All (λ n. n < 60) given
numbers_below true part own ns given e set = passed_below (λ n. allows (filled_part true part (pos own)) (pos n)) ns given 60 e set
numbers_below false part own ns given e none = rw (e, none) (λ k d l. absurd (omega (arith, l)))

pub unit_set : (freq : Freq) (rule : Rule) (h m s : ℕ) (ms ss : List ℕ) → is_whole_days freq ≡ false
    → AreNumbersOfUnit (wants_minute freq) rule.by_minute m ms → AreNumbersOfUnit (wants_second freq) rule.by_second s ss
    → (k : ℕ) → k < 86_400 / unit_seconds freq
    → IsSetOf nat_lt (of_unit freq rule k ms ss) (λ t. (t / unit_seconds freq ≡ k)
    × PassesAt (hour_allowed freq rule h m s) (minute_allowed freq rule h m s) (second_allowed freq rule h m s) t)
unit_set Secondly rule h m s ms ss fine a b k low =
    second_set (hour_allowed Secondly rule h m s) (minute_allowed Secondly rule h m s) (second_allowed Secondly rule h m s) k low
unit_set Minutely rule h m s ms ss fine a b k low =
    minute_set (hour_allowed Minutely rule h m s) (minute_allowed Minutely rule h m s) (second_allowed Minutely rule h m s) ss b k low
unit_set Hourly rule h m s ms ss fine a b k low =
    hour_set (hour_allowed Hourly rule h m s) (minute_allowed Hourly rule h m s) (second_allowed Hourly rule h m s) ms ss a b k low
unit_set Daily rule h m s ms ss fine a b k low = absurd (cc)
unit_set Weekly rule h m s ms ss fine a b k low = absurd (cc)
unit_set Monthly rule h m s ms ss fine a b k low = absurd (cc)
unit_set Yearly rule h m s ms ss fine a b k low = absurd (cc)
