-- The divisors of the occupied days of a window, one more day after the other, and what they tell of its units.
use Rattle.std.proofs.Common.{◌≡◌, ℕ, zero, suc, ◌+◌, ◌-◌, ◌*◌, ◌/◌, ◌%◌, ◌==◌, ◌<◌, ◌≤◌, Bool, true, false, not, IsTrue, [], ◌∷◌, get_or, ℤ, pos, negsuc, nat_abs, unsigned_abs, ◌+ℤ◌, ◌-ℤ◌, ◌≤ℤ◌, ◌<ℤ◌}
use Rattle.std.proofs.Common.{refl, sym, ap, subst, ◌∙◌, arith}
use Rattle.std.specs.Int.{◌∣◌, IsGcd}
use Rattle.std.proofs.lemmas.Int.{ints, by_lt_z}
use Rattle.std.proofs.lemmas.Bool.{false≢true}
use Rattle.std.proofs.lemmas.Bool.Decides.{nat_tests}
use Rattle.std.proofs.lemmas.Nat.{mod_below, div-add-mod'}
use Rattle.std.proofs.lemmas.Nat.Gcd.{dvd_of_mod-eq-zero, mod-eq-zero_of_dvd, dvd_trans, dvd-zero}
use Rattle.std.proofs.Math.Nat.{dvd-mul_left, one-dvd, eq-zero_of_zero-dvd, zero-mod}
use Rattle.rr_cal.proofs.StretchLemmas.{units_are_stretches}
use Rattle.rr_family.specs.Divisors.{AreDivisors, DividesEach, IsDivisor, IsJoined, divisor_of, units_apart}
use Rattle.rr_family.specs.Lasting.{is_occupied}
use Rattle.rr_family.specs.declared.divisors.Divisors.{Divisors}
use Rattle.rr_model.specs.Moment.Units.{is_whole_days, unit_number}
use Rattle.rr_model.specs.Whole.{divides}
use Rattle.rr_model.specs.declared.kind.Kind.TheVariants.{Days}
use Rattle.rr_model.specs.declared.rule.Freq.{Freq}
use Rattle.rr_model.specs.declared.rule.Freq.TheVariants as freq
use Rattle.rr_model.specs.declared.sketch.Sketch.{Sketch}

-- ---- one unit

module _ (unit : ℤ → ℤ) (occupied : ℤ → Bool) (first : ℤ) where
  none_yet : (g : ℕ) → g ≡ 0 → IsDivisor g unit occupied first 0
  none_yet g none = (
    λ d l h o. absurd (omega (arith, ints, l, h)),
    λ n each. subst (λ z. n ∣ z) (sym none) (dvd-zero n),
  )

  -- of fewer days
  fewer : (n k days : ℕ) → k ≤ days → DividesEach n unit occupied first days → DividesEach n unit occupied first k
  fewer n k days less each d l h o = each d l (omega (arith, ints, h, less)) o

  module _ (k : ℕ) (day : ℤ) (at : day ≡ first +ℤ pos k) where
    -- a day of one more is one of those so far, or the last
    each_next : (n : ℕ) → DividesEach n unit occupied first k → (occupied day ≡ true → n ∣ units_apart unit first day)
        → DividesEach n unit occupied first (k + 1)
    each_next n each here d l h o =
        by_lt_z {P = n ∣ units_apart unit first d} d day (λ m. each d l (omega (arith, ints, m, at)) o) (λ m.
        let same : day ≡ d = omega (arith, ints, m, h, at) in
        subst (λ z. n ∣ units_apart unit first z) same (here (subst (λ z. occupied z ≡ true) (sym same) o)))

    occupied_next : (g new : ℕ) → occupied day ≡ true → IsGcd g (units_apart unit first day) new → IsDivisor g unit occupied first k
        → IsDivisor new unit occupied first (k + 1)
    occupied_next g new o is so_far = (
      each_next new (λ d l h p. dvd_trans new is.0 (so_far.0 d l h p)) (λ p. is.1),
      λ n each. is.2 n (so_far.1 n (fewer n k (k + 1) (omega arith) each)) (each day (omega (arith, ints, at)) (omega (arith, ints, at)) o),
    )

  -- free days change nothing
  free_days : (g k days : ℕ) → k ≤ days → ((d : ℤ) → (first +ℤ pos k) ≤ℤ d → d <ℤ (first +ℤ pos days) → occupied d ≡ false)
      → IsDivisor g unit occupied first k → IsDivisor g unit occupied first days
  free_days g k days less free so_far = (
    λ d l h o. by_lt_z {P = g ∣ units_apart unit first d} d (first +ℤ pos k) (λ m. so_far.0 d l m o) (λ m. absurd (false≢true (sym (free d m h) ∙ o))),
    λ n each. so_far.1 n (fewer n k days less each),
  )

  -- 1 stays
  one_stays : (g k days : ℕ) → g ≡ 1 → k ≤ days → IsDivisor g unit occupied first k → IsDivisor g unit occupied first days
  one_stays g k days one less so_far = (
    λ d l h o. subst (λ z. z ∣ units_apart unit first d) (sym one) (one-dvd (units_apart unit first d)),
    λ n each. so_far.1 n (fewer n k days less each),
  )

-- ---- all units

module _ (occupied : ℤ → Bool) (first : ℤ) where
  pub divisors_of_none : (divisors : Divisors) → ((freq : Freq) (w : ℕ) → divisor_of divisors freq w ≡ 0) → AreDivisors divisors occupied first 0
  divisors_of_none divisors none freq w whole few = none_yet (unit_number freq w Days) occupied first (divisor_of divisors freq w) (none freq w)

  pub divisors_joined : (old new : Divisors) (k : ℕ) (start day : ℤ) → start ≡ first → day ≡ first +ℤ pos k → occupied day ≡ true → IsJoined old start day new
      → AreDivisors old occupied first k → AreDivisors new occupied first (k + 1)
  divisors_joined old new k start day same at o joined so_far freq w whole few =
      occupied_next (unit_number freq w Days) occupied first k day at (divisor_of old freq w) (divisor_of new freq w) o
      (subst (λ z. IsGcd (divisor_of old freq w) (units_apart (unit_number freq w Days) z day) (divisor_of new freq w)) same (joined freq w whole few))
      (so_far freq w whole few)

  pub divisors_kept : (divisors : Divisors) (k days : ℕ) → k ≤ days
      → ((d : ℤ) → (first +ℤ pos k) ≤ℤ d → d <ℤ (first +ℤ pos days) → occupied d ≡ false) → AreDivisors divisors occupied first k
      → AreDivisors divisors occupied first days
  divisors_kept divisors k days less free so_far freq w whole few =
      free_days (unit_number freq w Days) occupied first (divisor_of divisors freq w) k days less free (so_far freq w whole few)

  -- the next occupied day enters, which lies some free days later
  pub divisors_next : (old new : Divisors) (k next : ℕ) (start day : ℤ) → start ≡ first → (first +ℤ pos next) ≡ day +ℤ pos 1 → (first +ℤ pos k) ≤ℤ day
      → ((d : ℤ) → (first +ℤ pos k) ≤ℤ d → d <ℤ day → occupied d ≡ false) → occupied day ≡ true → IsJoined old start day new
      → AreDivisors old occupied first k → AreDivisors new occupied first next
  divisors_next old new k next start day same at late free o joined so_far =
      let n = nat_abs (day -ℤ first) in
      let is : day ≡ first +ℤ pos n = omega (arith, ints, late) in
      let more : n + 1 ≡ next = omega (arith, ints, is, at) in
      subst (λ m. AreDivisors new occupied first m) more
      (divisors_joined old new n start day same is o joined
      (divisors_kept old k n (omega (arith, ints, is, late)) (λ d l h. free d l (omega (arith, ints, h, is))) so_far))

  pub divisors_stay : (divisors : Divisors) (k days : ℕ) → ((freq : Freq) (w : ℕ) → w < 7 → divisor_of divisors freq w ≡ 1) → k ≤ days
      → AreDivisors divisors occupied first k → AreDivisors divisors occupied first days
  divisors_stay divisors k days one less so_far freq w whole few =
      one_stays (unit_number freq w Days) occupied first (divisor_of divisors freq w) k days (one freq w few) less (so_far freq w whole few)

-- seven weeks
pub each_week : (old apart : ℕ → ℕ) (a b c d e f g : ℕ) → IsGcd (old 0) (apart 0) a → IsGcd (old 1) (apart 1) b → IsGcd (old 2) (apart 2) c
    → IsGcd (old 3) (apart 3) d → IsGcd (old 4) (apart 4) e → IsGcd (old 5) (apart 5) f → IsGcd (old 6) (apart 6) g
    → (w : ℕ) → w < 7 → IsGcd (old w) (apart w) (get_or (a ∷ b ∷ c ∷ d ∷ e ∷ f ∷ g ∷ []) w 0)
each_week old apart a b c d e f g ha hb hc hd he hf hg zero l = ha
each_week old apart a b c d e f g ha hb hc hd he hf hg (suc zero) l = hb
each_week old apart a b c d e f g ha hb hc hd he hf hg (suc (suc zero)) l = hc
each_week old apart a b c d e f g ha hb hc hd he hf hg (suc (suc (suc zero))) l = hd
each_week old apart a b c d e f g ha hb hc hd he hf hg (suc (suc (suc (suc zero)))) l = he
each_week old apart a b c d e f g ha hb hc hd he hf hg (suc (suc (suc (suc (suc zero))))) l = hf
each_week old apart a b c d e f g ha hb hc hd he hf hg (suc (suc (suc (suc (suc (suc zero)))))) l = hg
each_week old apart a b c d e f g ha hb hc hd he hf hg (suc (suc (suc (suc (suc (suc (suc w))))))) l = absurd (omega (arith, l))

-- 1 divides all
pub gcd_of_one : (a b : ℕ) → a ≡ 1 → IsGcd a b 1
gcd_of_one a b one = (one-dvd a, one-dvd b, λ d p q. subst (λ n. d ∣ n) one p)

pub not_divided : (divisor n m : ℕ) → m ≡ n → IsTrue (not (divisor % m == 0)) → n ∣ divisor → ⊥
not_divided divisor n m same rest dv =
    let none : divisor % m ≡ 0 = ap (λ k. divisor % k) same ∙ mod-eq-zero_of_dvd n dv in
    false≢true (sym (ap (λ k. not (k == 0)) none) ∙ rest)

-- the days, the weeks, the months and the years
pub joined_units : (old new : Divisors) (start day : ℤ) → IsGcd old.days (units_apart (unit_number freq.Daily 0 Days) start day) new.days
    → ((w : ℕ) → w < 7 → IsGcd (get_or old.weeks w 0) (units_apart (unit_number freq.Weekly w Days) start day) (get_or new.weeks w 0))
    → IsGcd old.months (units_apart (unit_number freq.Monthly 0 Days) start day) new.months
    → IsGcd old.years (units_apart (unit_number freq.Yearly 0 Days) start day) new.years → IsJoined old start day new
joined_units old new start day d ws m y freq.Secondly w is_whole few = absurd (false≢true is_whole)
joined_units old new start day d ws m y freq.Minutely w is_whole few = absurd (false≢true is_whole)
joined_units old new start day d ws m y freq.Hourly w is_whole few = absurd (false≢true is_whole)
joined_units old new start day d ws m y freq.Daily w is_whole few = d
joined_units old new start day d ws m y freq.Weekly w is_whole few = ws w few
joined_units old new start day d ws m y freq.Monthly w is_whole few = m
joined_units old new start day d ws m y freq.Yearly w is_whole few = y

-- ---- intervals

pub divides_none : (n : ℕ) (x y : ℤ) → x ≡ y → divides n (x -ℤ y) ≡ true
divides_none n x y same =
    let none : x -ℤ y ≡ pos 0 = omega (arith, ints, same) in
    ap (divides n) none ∙ ap (λ r. r == 0) (zero-mod n)

pub divides_size : (n : ℕ) (z : ℤ) → 1 ≤ n → divides n z ≡ true → n ∣ unsigned_abs z
divides_size n (pos a) some h = dvd_of_mod-eq-zero n (let e : a % n ≡ 0 = grind (arith, nat_tests) in e)
divides_size n (negsuc a) some h =
    let e : n - 1 - a % n ≡ 0 = grind (arith, nat_tests) in
    let below = mod_below a n some in
    let whole = div-add-mod' a n in
    let is : suc a ≡ (a / n + 1) * n = omega (arith, e, below, whole, suc_mul (a / n) n) in
    subst (λ k. n ∣ k) (sym is) (dvd-mul_left n (a / n + 1))
  where
    suc_mul : (q m : ℕ) → (q + 1) * m ≡ q * m + m
    suc_mul q m = grind arith

-- an interval that divides how far the unit of each occupied day lies from that of the first divides the divisor
pub interval_divides : (s : Sketch) (first : ℤ) (days : ℕ) (divisors : Divisors) (freq : Freq) (w interval : ℕ) → AreDivisors divisors (is_occupied s) first days
    → IsTrue (is_whole_days freq) → w < 7 → 1 ≤ interval
    → ((d : ℤ) → first ≤ℤ d → is_occupied s d ≡ true → divides interval (unit_number freq w Days d -ℤ unit_number freq w Days first) ≡ true)
    → interval ∣ divisor_of divisors freq w
interval_divides s first days divisors freq w interval are whole few some each =
    (are freq w whole few).1 interval (λ d l h o. divides_size interval (unit_number freq w Days d -ℤ unit_number freq w Days first) some (each d l o))

-- if the divisor is 0, each day up to an occupied one lies in the unit of the first
pub one_unit : (s : Sketch) (first last : ℤ) (days : ℕ) (divisors : Divisors) (freq : Freq) (w : ℕ) → AreDivisors divisors (is_occupied s) first days
    → IsTrue (is_whole_days freq) → w < 7 → divisor_of divisors freq w ≡ 0 → is_occupied s last ≡ true → first ≤ℤ last → last <ℤ (first +ℤ pos days)
    → (d : ℤ) → first ≤ℤ d → d ≤ℤ last → unit_number freq w Days d ≡ unit_number freq w Days first
one_unit s first last days divisors freq w are whole few none occupied late within d l h =
    let u = unit_number freq w Days first in
    let none_apart : units_apart (unit_number freq w Days) first last ≡ 0 =
    eq-zero_of_zero-dvd (subst (λ g. g ∣ units_apart (unit_number freq w Days) first last) none ((are freq w whole few).0 last late within occupied)) in
    let same : unit_number freq w Days last ≡ u = omega (arith, ints, none_apart) in
    let from_first = (units_are_stretches freq w Days first u).0 refl in
    let to_last = (units_are_stretches freq w Days last u).0 same in
    (units_are_stretches freq w Days d u).1 (omega (arith, ints, l, from_first.0), omega (arith, ints, h, to_last.1))
