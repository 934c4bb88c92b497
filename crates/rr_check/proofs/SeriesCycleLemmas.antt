-- The cycle of a series, rule by rule.
use Rattle.std.proofs.Common.{◌≡◌, ℕ, ◌≤◌, ◌<◌, inl, inr, cond, List, [], ◌∷◌, All, arith}
use Prim.Native.Nat.{◌∣◌}
use Rattle.std.proofs.lemmas.Bool.{cases_lt, cond_both}
use Rattle.std.proofs.lemmas.Nat.Gcd.{dvd_refl, dvd_trans, le_of_dvd}
use Rattle.std.proofs.Math.Nat.{one-dvd}
use Rattle.std.proofs.lemmas.List.Elements.{All-head, All-tail}
use Rattle.rr_model.specs.Whole.Divisors.{lcm}
use Rattle.rr_model.specs.Rule.Cycle.{interval_cycle, parts_cycle, asks_calendar, rule_cycle}
use Rattle.rr_model.specs.Rule.Validity.{IsValidRule, is_absent}
use Rattle.rr_model.specs.declared.kind.Kind.{Kind}
use Rattle.rr_model.specs.Series.Cycle.{endless_cycle, rules_cycle}
use Rattle.rr_model.specs.declared.rule.End.{End}
use Rattle.rr_model.specs.declared.rule.End.TheVariants.{Never, Until, Count, Both}
use Rattle.rr_model.specs.declared.rule.Rule.{Rule}
use Rattle.rr_model.specs.declared.limits.TheConstants.{MAX_CYCLE_DAYS}
use Rattle.rr_num.proofs.DivisorLemmas.{lcm_is, lcm_some, lcm_above}
use Rattle.rr_check.proofs.RuleCycleLemmas.{interval_cycle_some}

-- two numbers that divide each other
pub dvd_same : (a b : ℕ) → 1 ≤ a → 1 ≤ b → a ∣ b → b ∣ a → a ≡ b
dvd_same a b ha hb p q = omega (arith, le_of_dvd hb p, le_of_dvd ha q)

pub lcm_assoc : (a b c : ℕ) → 1 ≤ a → 1 ≤ b → 1 ≤ c → lcm (lcm a b) c ≡ lcm a (lcm b c)
lcm_assoc a b c ha hb hc =
    let hab = lcm_some a b ha hb in
    let hbc = lcm_some b c hb hc in
    let ab = lcm_is a b ha hb in
    let bc = lcm_is b c hb hc in
    let x = lcm_is (lcm a b) c hab hc in
    let y = lcm_is a (lcm b c) ha hbc in
    let to = x.2 (lcm a (lcm b c)) (ab.2 (lcm a (lcm b c)) y.0 (dvd_trans b bc.0 y.1)) (dvd_trans c bc.1 y.1) in
    let from = y.2 (lcm (lcm a b) c) (dvd_trans a ab.0 x.0) (bc.2 (lcm (lcm a b) c) (dvd_trans b ab.1 x.0) x.1) in
    dvd_same (lcm (lcm a b) c) (lcm a (lcm b c)) (lcm_some (lcm a b) c hab hc) (lcm_some a (lcm b c) ha hbc) to from

pub lcm-one_left : (n : ℕ) → 1 ≤ n → lcm 1 n ≡ n
lcm-one_left n h =
    let l = lcm_is 1 n (omega arith) h in
    dvd_same (lcm 1 n) n (lcm_some 1 n (omega arith) h) h (l.2 n (one-dvd n) (dvd_refl n)) l.1

pub lcm-one_right : (n : ℕ) → 1 ≤ n → lcm n 1 ≡ n
lcm-one_right n h =
    let l = lcm_is n 1 h (omega arith) in
    dvd_same (lcm n 1) n (lcm_some n 1 h (omega arith)) h (l.2 n (dvd_refl n) (one-dvd n)) l.0

pub rule_cycle_some : (rule : Rule) → 1 ≤ rule.interval → 1 ≤ rule_cycle rule
rule_cycle_some rule h =
    let w : ℕ = cond (is_absent rule.by_day) 1 7 in
    let y : ℕ = cond (asks_calendar rule) 146_097 1 in
    let hw : 1 ≤ w = cond_both (is_absent rule.by_day) 1 7 (λ z. 1 ≤ z) (λ _. omega arith) (λ _. omega arith) in
    let hy : 1 ≤ y = cond_both (asks_calendar rule) 146_097 1 (λ z. 1 ≤ z) (λ _. omega arith) (λ _. omega arith) in
    lcm_some (interval_cycle rule.freq rule.interval) (parts_cycle rule) (interval_cycle_some rule.freq rule.interval h) (lcm_some w y hw hy)

pub endless_cycle_some : (end : End) (rule : Rule) → 1 ≤ rule.interval → 1 ≤ endless_cycle end rule
endless_cycle_some Never rule h = rule_cycle_some rule h
endless_cycle_some (Until kind at) rule h = omega arith
endless_cycle_some (Count count) rule h = omega arith
endless_cycle_some (Both kind at count) rule h = omega arith

-- every how many units a rule applies, from 1
abbrev pub HasInterval : Rule → Type 0
HasInterval rule = 1 ≤ rule.interval

pub rules_cycle_some : (rules : List Rule) → All HasInterval rules → 1 ≤ rules_cycle rules
unfolding rules_cycle
rules_cycle_some [] h = omega arith
rules_cycle_some (rule ∷ rules) h =
    let first = All-head HasInterval rule rules h in
    let rest = rules_cycle_some rules (All-tail HasInterval rule rules h) in
    lcm_some (endless_cycle rule.end rule) (rules_cycle rules) (endless_cycle_some rule.end rule first) rest

-- ---- rule by rule, from the front

-- a number joined with the cycle of no rules
pub joined-none : (n : ℕ) → 1 ≤ n → lcm n (rules_cycle []) ≡ n
unfolding rules_cycle
joined-none n h = lcm-one_right n h

-- a number joined with the cycle of a rule and others: first with the rule's, and then with the others'
pub joined-first : (n : ℕ) (rule : Rule) (rules : List Rule) → 1 ≤ n → All HasInterval (rule ∷ rules)
    → lcm (lcm n (endless_cycle rule.end rule)) (rules_cycle rules) ≡ lcm n (rules_cycle (rule ∷ rules))
unfolding rules_cycle
joined-first n rule rules h valid =
    let first = All-head HasInterval rule rules valid in
    lcm_assoc n (endless_cycle rule.end rule) (rules_cycle rules) h (endless_cycle_some rule.end rule first)
    (rules_cycle_some rules (All-tail HasInterval rule rules valid))

-- ---- two lists of rules

pub over : (n : ℕ) → (n ≤ MAX_CYCLE_DAYS → ⊥) → MAX_CYCLE_DAYS < n
over n h = elim (cases_lt 16_777_216 n) [ inl l ↦ l | inr g ↦ absurd (h (omega (arith, g))) ]

-- a cycle that is too long makes the whole too long
pub over_first : (a b : ℕ) → 1 ≤ a → 1 ≤ b → (a ≤ MAX_CYCLE_DAYS → ⊥) → MAX_CYCLE_DAYS < lcm a b
over_first a b ha hb h = omega (arith, over a h, (lcm_above a b ha hb).0)

pub over_second : (a b : ℕ) → 1 ≤ a → 1 ≤ b → (b ≤ MAX_CYCLE_DAYS → ⊥) → MAX_CYCLE_DAYS < lcm a b
over_second a b ha hb h = omega (arith, over b h, (lcm_above a b ha hb).1)

-- the rules of a series have intervals from 1
pub have_intervals : (kind : Kind) (rules : List Rule) → All (IsValidRule kind) rules → All HasInterval rules
have_intervals kind rules valid k d l = (valid k d l).interval_low
