-- The cycles of drawn series, and the days after which two of them repeat together.
use Rattle.std.proofs.Common.{◌≡◌, ℕ, zero, suc, ◌+◌, ◌*◌, ◌%◌, ◌<◌, ◌≤◌, Bool, true, false, cond, ◌&&◌, ◌||◌, ◌==◌, List, [], ◌∷◌, map, refl, sym, subst, arith}
use Rattle.std.specs.Prelude.{nat_le, nat_lt}
use Rattle.std.specs.List.{list_any, list_all}
use Rattle.std.proofs.lemmas.Bool.{and_parts, false≢true}
use Rattle.std.proofs.lemmas.Bool.Decides.{nat_tests}
use Rattle.std.proofs.lemmas.Nat.{mod_below}
use Rattle.std.proofs.lemmas.Nat.Gcd.{le_of_dvd, dvd_of_mod-eq-zero}
use Rattle.rr_num.proofs.DivisorLemmas.{lcm_is}
use Rattle.rr_check.proofs.SeriesCycleLemmas.{lcm-one_right}
use Rattle.rr_model.specs.Moment.Units.{is_whole_days}
use Rattle.rr_model.specs.Rule.Cycle.{interval_cycle}
use Rattle.rr_model.specs.Series.Cycle.{rules_cycle, series_cycle}
use Rattle.rr_model.specs.Whole.Divisors.{gcd_within, gcd, lcm}
use Rattle.rr_model.specs.declared.rule.Freq.{Freq}
use Rattle.rr_model.specs.declared.rule.Freq.TheVariants.{Secondly, Minutely, Hourly, Daily, Weekly, Monthly, Yearly}
use Rattle.rr_model.specs.declared.limits.TheConstants.{MAX_CYCLE_DAYS}
use Rattle.rr_decide.specs.Question.{IsSoonEnough}
use Rattle.rr_model.specs.declared.question.Question.{Question}
use Rattle.rr_model.specs.declared.question.Question.TheVariants.{Equal, Within, Disjoint}
use Rattle.rr_drill.specs.Cycles.{cycles, is_drawn_cycle}
use Rattle.rr_drill.specs.Draws.{next_state, draw, draw_below, intervals, drawn_freq, series_from}

-- what holds of each number of a list
listed : (test : ℕ → Bool) (xs : List ℕ) (n : ℕ) → list_all test xs ≡ true → list_any (λ x. x == n) xs ≡ true → test n ≡ true
listed test [] n all e = absurd (false≢true e)
listed test (x ∷ xs) n all e = elim (x == n) as (λ b. (x == n) ≡ b → (b || list_any (λ y. y == n) xs) ≡ true → test n ≡ true) [
  | true ↦ λ h u. (let same : x ≡ n = grind (arith, nat_tests, h) in subst (λ y. test y ≡ true) same (and_parts (test x) (list_all test xs) all).0)
  | false ↦ λ h u. listed test xs n (and_parts (test x) (list_all test xs) all).1 u
] refl e

-- ---- common cycles

all_short : list_all (λ n. nat_le n 16_777_216) cycles ≡ true
all_short = refl

pub cycle_short : (n : ℕ) → is_drawn_cycle n ≡ true → n ≤ MAX_CYCLE_DAYS
unfolding is_drawn_cycle
cycle_short n e = let t : nat_le n 16_777_216 ≡ true = listed (λ m. nat_le m 16_777_216) cycles n all_short e in grind (arith, nat_tests, t)

-- a multiple of both, within the limit
abbrev is_multiple : ℕ → ℕ → ℕ → Bool
is_multiple a b n = (n % a == 0) && (n % b == 0)

-- each two cycles have one of these as a common multiple: 2,520 days, and 400 years as often as is said
abbrev multiples : List ℕ
multiples = 2_520 ∷ map (λ n. n * 146_097) (21 ∷ 24 ∷ 30 ∷ 33 ∷ 56 ∷ 70 ∷ 77 ∷ 88 ∷ 110 ∷ [])

abbrev is_within : ℕ → Bool
is_within n = nat_lt 0 n && nat_le n 16_777_216

each_within : list_all is_within multiples ≡ true
each_within = refl

abbrev have_multiple : ℕ → ℕ → Bool
have_multiple a b = list_any (is_multiple a b) multiples

each_have_multiple : list_all (λ a. list_all (λ b. have_multiple a b) cycles) cycles ≡ true
each_have_multiple = refl

each_some : list_all (λ n. nat_lt 0 n) cycles ≡ true
each_some = refl

cycle_some : (n : ℕ) → list_any (λ m. m == n) cycles ≡ true → 1 ≤ n
cycle_some n e = let t : nat_lt 0 n ≡ true = listed (λ m. nat_lt 0 m) cycles n each_some e in grind (arith, nat_tests, t)

lcm_within : (a b n : ℕ) → 1 ≤ a → 1 ≤ b → is_within n ≡ true → is_multiple a b n ≡ true → lcm a b ≤ MAX_CYCLE_DAYS
lcm_within a b n f g within multiple =
    let w = and_parts (nat_lt 0 n) (nat_le n 16_777_216) within in
    let m = and_parts (n % a == 0) (n % b == 0) multiple in
    let some : 0 < n = grind (arith, nat_tests, w.0) in
    let few : n ≤ 16_777_216 = grind (arith, nat_tests, w.1) in
    let of_a : n % a ≡ 0 = grind (arith, nat_tests, m.0) in
    let of_b : n % b ≡ 0 = grind (arith, nat_tests, m.1) in
    omega (arith, le_of_dvd some ((lcm_is a b f g).2 n (dvd_of_mod-eq-zero a of_a) (dvd_of_mod-eq-zero b of_b)), few)

some_within : (a b : ℕ) (ns : List ℕ) → 1 ≤ a → 1 ≤ b → list_all is_within ns ≡ true → list_any (is_multiple a b) ns ≡ true → lcm a b ≤ MAX_CYCLE_DAYS
some_within a b [] f g all e = absurd (false≢true e)
some_within a b (n ∷ ns) f g all e =
    let w = and_parts (is_within n) (list_all is_within ns) all in
    elim (is_multiple a b n) as (λ c. is_multiple a b n ≡ c → (c || list_any (is_multiple a b) ns) ≡ true → lcm a b ≤ MAX_CYCLE_DAYS) [
      | true ↦ λ h u. lcm_within a b n f g w.0 h
      | false ↦ λ h u. some_within a b ns f g w.1 u
    ] refl e

-- the greatest is 110 times 400 years
common_short : (a b : ℕ) → is_drawn_cycle a ≡ true → is_drawn_cycle b ≡ true → lcm a b ≤ MAX_CYCLE_DAYS
unfolding is_drawn_cycle
common_short a b d e =
    let row = listed (λ m. list_all (λ n. have_multiple m n) cycles) cycles a each_have_multiple d in
    let have : have_multiple a b ≡ true = listed (λ n. have_multiple a n) cycles b row e in
    some_within a b multiples (cycle_some a d) (cycle_some b e) each_within have

-- so they repeat together soon enough for each question
pub soon_enough : (question : Question) (a b : ℕ) → is_drawn_cycle a ≡ true → is_drawn_cycle b ≡ true → IsSoonEnough question (lcm a b)
soon_enough Equal a b d e = tt
soon_enough Within a b d e = common_short a b d e
soon_enough Disjoint a b d e = common_short a b d e

-- ---- the cycle of a drawn series

unfoldable all_below : ℕ → (ℕ → Bool) → Bool
all_below zero test = true
all_below (suc n) test = test n && all_below n test

below : (n : ℕ) (test : ℕ → Bool) (k : ℕ) → k < n → all_below n test ≡ true → test k ≡ true
unfolding all_below
below zero test k l e = absurd (omega (arith, l))
below (suc n) test k l e = elim (k == n) as (λ b. (k == n) ≡ b → test k ≡ true) [
  | true ↦ λ h. (let same : k ≡ n = grind (arith, nat_tests, h) in subst (λ x. test x ≡ true) (sym same) (and_parts (test n) (all_below n test) e).0)
  | false ↦ λ h. (let less : k < n = grind (arith, nat_tests, h, l) in below n test k less (and_parts (test n) (all_below n test) e).1)
] refl

abbrev has_drawn_cycle : Freq → ℕ → Bool
has_drawn_cycle freq k = is_drawn_cycle (lcm (lcm (interval_cycle freq (1 + k)) (lcm 1 1)) 1)

each_interval : (freq : Freq) → is_whole_days freq ≡ true → all_below (intervals freq) (has_drawn_cycle freq) ≡ true
unfolding gcd_within gcd lcm is_drawn_cycle all_below
each_interval Secondly e = absurd (false≢true e)
each_interval Minutely e = absurd (false≢true e)
each_interval Hourly e = absurd (false≢true e)
each_interval Daily e = refl
each_interval Weekly e = refl
each_interval Monthly e = refl
each_interval Yearly e = refl

whole_days : (a b c : Bool) → is_whole_days (cond a Daily (cond b Weekly (cond c Monthly Yearly))) ≡ true
whole_days true b c = refl
whole_days false true c = refl
whole_days false false true = refl
whole_days false false false = refl

pub freq_whole_days : (x : ℕ) → is_whole_days (drawn_freq x) ≡ true
freq_whole_days x = whole_days (draw_below 4 x == 0) (draw_below 4 x == 1) (draw_below 4 x == 2)

some_intervals : (freq : Freq) → 1 ≤ intervals freq
some_intervals Secondly = omega arith
some_intervals Minutely = omega arith
some_intervals Hourly = omega arith
some_intervals Daily = omega arith
some_intervals Weekly = omega arith
some_intervals Monthly = omega arith
some_intervals Yearly = omega arith

drawn_some : (n : ℕ) → is_drawn_cycle n ≡ true → 1 ≤ n
unfolding is_drawn_cycle
drawn_some n e = cycle_some n e

pub series_cycle_drawn : (x : ℕ) → is_drawn_cycle (series_cycle (series_from x)) ≡ true
unfolding rules_cycle
series_cycle_drawn x =
    let freq : Freq = drawn_freq (next_state x) in
    let k : ℕ = draw_below (intervals freq) (next_state (next_state x)) in
    let less : k < intervals freq = mod_below (draw (next_state (next_state x))) (intervals freq) (some_intervals freq) in
    let drawn = below (intervals freq) (has_drawn_cycle freq) k less (each_interval freq (freq_whole_days (next_state x))) in
    let cycle : ℕ = rules_cycle (series_from x).rules in
    subst (λ n. is_drawn_cycle n ≡ true) (sym (lcm-one_right cycle (drawn_some cycle drawn))) drawn
