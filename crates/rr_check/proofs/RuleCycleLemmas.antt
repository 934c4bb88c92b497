-- The cycle of a rule is whole intervals of its units.
use Rattle.std.proofs.Common.{◌≡◌, ℕ, ◌*◌, ◌/◌, ◌≤◌, ℤ, pos, ◌*ℤ◌, IsTrue, refl, sym, ap, ◌∙◌, subst, arith}
use Prim.Native.Nat.{◌∣◌}
use Rattle.std.proofs.lemmas.Bool.{false≢true}
use Rattle.std.proofs.lemmas.Nat.Gcd.{dvd_trans}
use Rattle.std.proofs.Math.Nat.{mul-dvd-mul_left, mul-dvd-mul_right, div-mul_cancel, dvd-mul_left, dvd-mul_right, pos_of_dvd_of_pos}
use Rattle.rr_model.specs.Rule.Validity.{takes_start}
use Rattle.rr_model.specs.Whole.Divisors.{gcd}
use Rattle.rr_model.specs.Rule.Cycle.{interval_cycle}
use Rattle.rr_model.specs.declared.kind.Kind.{Kind}
use Rattle.rr_model.specs.declared.kind.Kind.TheVariants.{Days, Moments}
use Rattle.rr_model.specs.declared.rule.Freq.{Freq}
use Rattle.rr_model.specs.declared.rule.Freq.TheVariants.{Secondly, Minutely, Hourly, Daily, Weekly, Monthly, Yearly}
use Rattle.rr_num.proofs.DivisorLemmas.{gcd_is}
use Rattle.rr_check.proofs.UnitLemmas.{AreUnits}

-- how often the divisor goes
pub whole_times : (n m : ℕ) → n ∣ m → (k : ℕ) × (m ≡ k * n)
whole_times n m h = (m / n, sym (div-mul_cancel n h))

-- after n / gcd n m of them, m units each are a whole number of times n
whole_interval : (n m c : ℕ) → n / gcd n m ∣ c → n ∣ c * m
whole_interval n m c h =
    let g = gcd n m in
    let a : n ∣ c * g = subst (λ z. z ∣ c * g) (div-mul_cancel g (gcd_is n m).0) (mul-dvd-mul_right (n / g) h g) in
    dvd_trans n a (mul-dvd-mul_left g c (gcd_is n m).1)

module _ (n c : ℕ) where
  of_time : (m : ℕ) → n / gcd n m ∣ c → (k : ℕ) × (pos k *ℤ pos n ≡ pos c *ℤ pos m)
  of_time m h = let w = whole_times n (c * m) (whole_interval n m c h) in (w.0, ap pos (sym w.1))

  -- c days in cycles of the calendar, and n months or years, of which a cycle has m
  of_calendar : (m : ℕ) → 146_097 * (n / gcd n m) ∣ c → (k : ℕ) × ((cycles : ℤ) × ((pos c ≡ pos 146_097 *ℤ cycles) × (pos k *ℤ pos n ≡ pos m *ℤ cycles)))
  of_calendar m h =
      let a = n / gcd n m in
      let q = whole_times (146_097 * a) c h in
      let w = whole_times n (q.0 * a * m) (whole_interval n m (q.0 * a) (dvd-mul_left a q.0)) in
      let e : c ≡ 146_097 * (q.0 * a) = q.1 ∙ omega arith in
      let f : w.0 * n ≡ m * (q.0 * a) = sym w.1 ∙ omega arith in
      (w.0, (pos (q.0 * a), (ap pos e, ap pos f)))

pub whole_intervals : (freq : Freq) (kind : Kind) (n c : ℕ) → IsTrue (takes_start freq kind) → interval_cycle freq n ∣ c
    → (k : ℕ) × AreUnits freq kind (pos c) (pos k *ℤ pos n)
whole_intervals Secondly Days n c timed h = absurd (false≢true timed)
whole_intervals Secondly Moments n c timed h = let w = of_time n c 86_400 h in (w.0, (refl, w.1))
whole_intervals Minutely Days n c timed h = absurd (false≢true timed)
whole_intervals Minutely Moments n c timed h = let w = of_time n c 1_440 h in (w.0, (refl, w.1))
whole_intervals Hourly Days n c timed h = absurd (false≢true timed)
whole_intervals Hourly Moments n c timed h = let w = of_time n c 24 h in (w.0, (refl, w.1))
whole_intervals Daily kind n c timed h = let w = whole_times n c h in (w.0, ap pos (sym w.1))
whole_intervals Weekly kind n c timed h =
    let w = whole_times (7 * n) c h in
    let e : c ≡ w.0 * n * 7 = w.1 ∙ omega arith in
    (w.0, ap pos e)
whole_intervals Monthly kind n c timed h = of_calendar n c 4_800 h
whole_intervals Yearly kind n c timed h = of_calendar n c 400 h

-- ---- a cycle has days

some_quotient : (n m : ℕ) → 1 ≤ n → 1 ≤ n / gcd n m
some_quotient n m h =
    let g = gcd n m in
    pos_of_dvd_of_pos (subst (λ z. n / g ∣ z) (div-mul_cancel g (gcd_is n m).0) (dvd-mul_right (n / g) g)) h

pub interval_cycle_some : (freq : Freq) (n : ℕ) → 1 ≤ n → 1 ≤ interval_cycle freq n
interval_cycle_some Secondly n h = some_quotient n 86_400 h
interval_cycle_some Minutely n h = some_quotient n 1_440 h
interval_cycle_some Hourly n h = some_quotient n 24 h
interval_cycle_some Daily n h = h
interval_cycle_some Weekly n h = omega arith
interval_cycle_some Monthly n h = omega (arith, some_quotient n 4_800 h)
interval_cycle_some Yearly n h = omega (arith, some_quotient n 400 h)
