-- Numbers of occurrences in a tree that repeats after a day.
use Rattle.std.proofs.Common.{◌≡◌, ℕ, zero, suc, ◌+◌, ◌*◌, ◌-◌, ◌/◌, ◌<◌, ◌≤◌, Bool, ℤ, pos, nat_abs, ◌+ℤ◌, ◌-ℤ◌, ◌≤ℤ◌, ◌<ℤ◌, refl, ap}
use Rattle.std.proofs.Common.{arith}
use Rattle.std.proofs.lemmas.Int.{ints, by_lt_z}
use Rattle.std.proofs.Math.Nat.{div-mul-le_self, le-div_iff_mul-le, div-lt_iff_lt-mul, le-mul_of_pos_right}
use Rattle.std.proofs.lemmas.Nat.Gcd.{dvd_refl}
use Rattle.rr_model.specs.Bounds.{first_day_of_all}
use Rattle.rr_model.specs.Calendar.{first_day_of_year}
use Rattle.rr_model.specs.Moment.{day_part}
use Rattle.rr_model.specs.Moment.Years.{IsFromYearOne}
use Rattle.rr_model.specs.Rule.Cycle.{rule_cycle}
use Rattle.rr_model.specs.Sets.Counting.{count_days}
use Rattle.rr_model.specs.Sets.Tree.{Tree, chosen_of, stands_at}
use Rattle.rr_model.specs.declared.kind.Kind.{Kind}
use Rattle.rr_model.specs.declared.rule.Rule.{Rule}
use Rattle.rr_model.specs.declared.limits.TheConstants.{MAX_SPAN_DAYS}
use Rattle.rr_model.proofs.YearLemmas.{four_digit_bounds}
use Rattle.rr_model.proofs.CountLemmas.{count_seconds-le}
use Rattle.rr_check.proofs.SeriesCycleLemmas.{rule_cycle_some}
use Rattle.rr_lazy.proofs.CountingLemmas.{before_as, before_grows, before_none, before_skip, count_days-suc, count_days-zero}
use Rattle.rr_lazy.proofs.CycleCountLemmas.{cycles_and_days, days_split}
use Rattle.rr_iter.specs.Ends.{HasNumberOn, IsSoundRule, before_day, up_to_cycle}
use Rattle.rr_walk.proofs.StepLemmas.{before_start}
use Rattle.rr_iter.proofs.RepeatLemmas.{chosen_later}

-- ---- a number of days

days_most : (test : ℤ → ℕ → Bool) (q : ℤ) (n : ℕ) → count_days test q n ≤ n * 86_400
days_most test q zero = omega (arith, count_days-zero test q)
days_most test q (suc n) = omega (arith, count_days-suc test q n, days_most test q n, count_seconds-le (test (q +ℤ pos n)) 86_400)

-- the occurrences before a day, and those of the days that follow
after_days : (tree : Tree) (from : ℤ) → IsFromYearOne from → (n : ℕ)
    → before_day tree (from +ℤ pos n) ≡ before_day tree from + count_days (λ d s. stands_at tree d s) from n
after_days tree from begun n =
    let year : ℤ = first_day_of_year (pos 1) in
    let m : ℕ = nat_abs (from -ℤ year) in
    let e : from ≡ year +ℤ pos m = omega (arith, ints, begun) in
    let f : from +ℤ pos n ≡ year +ℤ pos (m + n) = omega (arith, ints, begun) in
    let a = before_as (λ d s. stands_at tree d s) from m e in
    let b = before_as (λ d s. stands_at tree d s) (from +ℤ pos n) (m + n) f in
    let c = days_split (λ d s. stands_at tree d s) year m n in
    let d = ap (λ z. count_days (λ x y. stands_at tree x y) z n) e in
    omega (arith, a, b, c, d)

-- ---- the days after a day from which on the tree repeats

module _ (tree : Tree) (first : ℤ) (cycle each : ℕ) (begun : IsFromYearOne first)
    (repeats : (d : ℤ) (s : ℕ) → (first +ℤ pos 1) ≤ℤ d → stands_at tree (d +ℤ pos cycle) s ≡ stands_at tree d s)
    (one : before_day tree ((first +ℤ pos cycle) +ℤ pos 1) ≡ before_day tree (first +ℤ pos 1) + each) where
  -- the day after it
  abbrev next : ℤ
  next = first +ℤ pos 1

  -- n occurrences lie on the days that follow it
  abbrev on_days : ℕ → ℕ
  on_days n = count_days (λ d s. stands_at tree d s) next n

  after_next : (n : ℕ) → before_day tree (next +ℤ pos n) ≡ before_day tree next + on_days n
  after_next n = after_days tree next (omega (arith, ints, begun)) n

  each_is : on_days cycle ≡ each
  each_is =
      let e : (first +ℤ pos cycle) +ℤ pos 1 ≡ next +ℤ pos cycle = omega (arith, ints) in
      omega (arith, ap (before_day tree) e, after_next cycle, one)

  -- n cycles later as many more
  pub cycles_later : (k : ℕ) (x : ℤ) → next ≤ℤ x → before_day tree (x +ℤ pos (k * cycle)) ≡ before_day tree x + k * each
  cycles_later k x l =
      let n : ℕ = nat_abs (x -ℤ next) in
      let e : x ≡ next +ℤ pos n = omega (arith, ints, l) in
      let f : x +ℤ pos (k * cycle) ≡ next +ℤ pos (k * cycle + n) = omega (arith, ints, l) in
      let c = rw each_is at (cycles_and_days (λ d s. stands_at tree d s) next cycle repeats k n) in
      omega (arith, ap (before_day tree) e, ap (before_day tree) f, after_next (k * cycle + n), after_next n, c)

  -- the number is more than these cycles have, after the occurrences of the first days
  module _ (k days passed count left : ℕ) (d : days ≡ k * cycle) (p : passed ≡ k * each)
      (counted : before_day tree next + left ≡ count) (some : passed < left) where
    moved : (x : ℤ) → next ≤ℤ x → before_day tree (x +ℤ pos days) ≡ before_day tree x + passed
    moved x l = rw (d, p) (cycles_later k x l)

    -- the day of the number that is left lies n days earlier
    pub number_moved : (day : ℤ) → HasNumberOn tree (count - passed) day → HasNumberOn tree count (day +ℤ pos days)
    number_moved day h =
        let late : next ≤ℤ day = by_lt_z {P = next ≤ℤ day} day next (λ l.
        (let early = before_grows (λ x y. stands_at tree x y) (day +ℤ pos 1) next (omega (arith, ints, h.begun)) (omega (arith, ints, l)) in
        absurd (omega (arith, early, h.within, counted, some)))) (λ g. g) in
        let e : (day +ℤ pos days) +ℤ pos 1 ≡ (day +ℤ pos 1) +ℤ pos days = omega (arith, ints) in
        record {
          begun = omega (arith, ints, h.begun);
          above = omega (arith, moved day late, h.above, counted, some);
          within = omega (arith, ap (before_day tree) e, moved (day +ℤ pos 1) (omega (arith, ints, late)), h.within, counted, some);
        }

    -- if it lies beyond a day, the number lies n days after that day
    pub number_beyond : (to end : ℤ) (rest : ℕ) → first ≤ℤ to → end ≡ (to +ℤ pos 1) +ℤ pos days → 1 ≤ rest
        → before_day tree (to +ℤ pos 1) + rest ≡ count - passed → before_day tree end < count
    number_beyond to end rest l e r c = omega (arith, ap (before_day tree) e, moved (to +ℤ pos 1) (omega (arith, ints, l)), c, r, some, counted)

    -- it lies after these cycles
    pub number_after : (end : ℤ) → IsFromYearOne end → end ≤ℤ (next +ℤ pos days) → before_day tree end < count
    number_after end from h =
        let grown = before_grows (λ x y. stands_at tree x y) end (next +ℤ pos days) from h in
        omega (arith, grown, moved next (omega (arith, ints)), counted, some)

-- a number that lies on a day does not lie after it
pub not_after : (tree : Tree) (number : ℕ) (day end : ℤ) → HasNumberOn tree number day → day <ℤ end → before_day tree end < number → ⊥
not_after tree number day end h l few =
    let grown = before_grows (λ x y. stands_at tree x y) (day +ℤ pos 1) end (omega (arith, ints, h.begun)) (omega (arith, ints, l)) in
    absurd (omega (arith, grown, h.within, few))

-- one that lies on a day of the first cycle after a day has no more occurrences before it than there are up to that cycle's end
pub within_cycle : (rule : Rule) (kind : Kind) (start : ℤ) (count : ℕ) (day : ℤ) → HasNumberOn (chosen_of rule kind start) count day
    → day ≤ℤ (day_part kind start +ℤ pos (rule_cycle rule)) → count ≤ up_to_cycle rule kind start
within_cycle rule kind start count day h l =
    let grown = before_grows (λ d s. stands_at (chosen_of rule kind start) d s) (day +ℤ pos 1) ((day_part kind start +ℤ pos (rule_cycle rule)) +ℤ pos 1)
    (omega (arith, ints, h.begun)) (omega (arith, ints, l)) in
    omega (arith, grown, h.within)

-- ---- divisions

pub passed_less : (left each : ℕ) → 1 ≤ left → (left - 1) / each * each < left
passed_less left each l = omega (arith, l, div-mul-le_self (left - 1) each)

pub days_within : (k cycle : ℕ) → 1 ≤ cycle → k ≤ 16_777_216 / cycle → k * cycle ≤ 16_777_216
days_within k cycle l h = (le-div_iff_mul-le l).0 h

pub days_beyond : (k cycle : ℕ) → 1 ≤ cycle → 16_777_216 / cycle < k → 16_777_216 < k * cycle
days_beyond k cycle l h = (div-lt_iff_lt-mul l).0 h

-- ---- a rule, which repeats after its start's day

module _ (kind : Kind) (start : ℤ) (rule : Rule) (sound : IsSoundRule kind start rule) where
  pub start_begun : IsFromYearOne (day_part kind start)
  start_begun = sound.in_years.0

  pub start_bounds : (first_day_of_all ≤ℤ day_part kind start) × (day_part kind start ≤ℤ pos 2_932_896)
  start_bounds = four_digit_bounds (day_part kind start) sound.in_years

  pub repeats : (d : ℤ) (s : ℕ) → (day_part kind start +ℤ pos 1) ≤ℤ d
      → stands_at (chosen_of rule kind start) (d +ℤ pos (rule_cycle rule)) s ≡ stands_at (chosen_of rule kind start) d s
  repeats d s l = chosen_later rule kind start sound.valid (rule_cycle rule) d s (dvd_refl (rule_cycle rule)) (omega (arith, ints, l))

  pub cycle_some : 1 ≤ rule_cycle rule
  cycle_some = rule_cycle_some rule sound.valid.interval_low

  -- a span has no more moments than seconds
  pub span_most : before_day (chosen_of rule kind start) (day_part kind start +ℤ pos 16_777_217) ≤ 1_449_551_548_800
  span_most =
      let tree : Tree = chosen_of rule kind start in
      let first : ℤ = day_part kind start in
      let year : ℤ = first_day_of_year (pos 1) in
      let none = before_skip (λ d s. stands_at tree d s) year first (omega (arith, ints)) start_begun (λ d s a b. before_start rule kind start d s b) in
      let zero_before = before_none (λ d s. stands_at tree d s) in
      omega (arith, none, zero_before, after_days tree first start_begun 16_777_217, days_most (λ d s. stands_at tree d s) first 16_777_217)

  -- the moments of its first cycle, the number that is looked for, and how many of them come after the start's day
  module _ (each : ℕ) (one : before_day (chosen_of rule kind start) ((day_part kind start +ℤ pos (rule_cycle rule)) +ℤ pos 1)
      ≡ before_day (chosen_of rule kind start) (day_part kind start +ℤ pos 1) + each) where
    module _ (count left : ℕ) (counted : before_day (chosen_of rule kind start) (day_part kind start +ℤ pos 1) + left ≡ count) (some : 1 ≤ left) where
      -- n whole cycles are passed over
      abbrev cycles : ℕ
      cycles = (left - 1) / each

      abbrev days : ℕ
      days = cycles * rule_cycle rule

      pub rule_number_moved : (day : ℤ) → HasNumberOn (chosen_of rule kind start) (count - cycles * each) day
          → HasNumberOn (chosen_of rule kind start) count (day +ℤ pos days)
      rule_number_moved =
          number_moved (chosen_of rule kind start) (day_part kind start) (rule_cycle rule) each start_begun repeats one
          cycles days (cycles * each) count left refl refl counted (passed_less left each some)

      pub rule_number_beyond : (rest : ℕ) → days ≤ MAX_SPAN_DAYS → 1 ≤ rest
          → before_day (chosen_of rule kind start) ((day_part kind start +ℤ (pos 16_777_216 -ℤ pos days)) +ℤ pos 1) + rest ≡ count - cycles * each
          → before_day (chosen_of rule kind start) (day_part kind start +ℤ pos 16_777_217) < count
      rule_number_beyond rest within =
          number_beyond (chosen_of rule kind start) (day_part kind start) (rule_cycle rule) each start_begun repeats one
          cycles days (cycles * each) count left refl refl counted (passed_less left each some)
          (day_part kind start +ℤ (pos 16_777_216 -ℤ pos days)) (day_part kind start +ℤ pos 16_777_217)
          rest (omega (arith, ints, within)) (omega (arith, ints))

      pub rule_number_after : MAX_SPAN_DAYS < days → before_day (chosen_of rule kind start) (day_part kind start +ℤ pos 16_777_217) < count
      rule_number_after far =
          number_after (chosen_of rule kind start) (day_part kind start) (rule_cycle rule) each start_begun repeats one
          cycles days (cycles * each) count left refl refl counted (passed_less left each some)
          (day_part kind start +ℤ pos 16_777_217) (omega (arith, ints, start_begun)) (omega (arith, ints, far))

      -- if a cycle has none, the number lies after any number of cycles
      pub rule_number_never : each ≡ 0 → before_day (chosen_of rule kind start) (day_part kind start +ℤ pos 16_777_217) < count
      rule_number_never none =
          let k : ℕ = 16_777_217 in
          let far : k ≤ k * rule_cycle rule = le-mul_of_pos_right k cycle_some in
          let nothing : k * each ≡ 0 = omega (arith, none) in
          number_after (chosen_of rule kind start) (day_part kind start) (rule_cycle rule) each start_begun repeats one
          k (k * rule_cycle rule) (k * each) count left refl refl counted (omega (arith, nothing, some))
          (day_part kind start +ℤ pos 16_777_217) (omega (arith, ints, start_begun)) (omega (arith, ints, far))
