-- A common cycle of two periods and of the rules of zones.
use Rattle.std.proofs.Common.{◌≡◌, ℕ, ◌≤◌, Option, None, Some, MatchOption, sym, subst, arith}
use Rattle.std.specs.Prelude.{IfNone, SomeIff}
use Rattle.std.specs.Int.{◌∣◌}
use Rattle.std.proofs.lemmas.Nat.Gcd.{dvd_trans}
use Rattle.rr_model.specs.Whole.Divisors.{NoMultipleWithin, lcm}
use Rattle.rr_num.proofs.DivisorLemmas.{lcm_is, lcm_some}
use Rattle.rr_utc.specs.Walks.{IsCommonCycle, IsLong, longest_walk}

-- the least common multiple of both periods and 400 years is a multiple of each
all_of : (p r : ℕ) → 1 ≤ p → 1 ≤ r → (1 ≤ lcm (lcm p r) 146_097) × (p ∣ lcm (lcm p r) 146_097) × (r ∣ lcm (lcm p r) 146_097) × (lcm p r ∣ lcm (lcm p r) 146_097)
    × (146_097 ∣ lcm (lcm p r) 146_097)
all_of p r hp hr =
    let both = lcm_is p r hp hr in
    let some = lcm_some p r hp hr in
    let all = lcm_is (lcm p r) 146_097 some (omega arith) in
    (lcm_some (lcm p r) 146_097 some (omega arith), dvd_trans p both.0 all.0, dvd_trans r both.1 all.0, all.0, all.1)

-- if both periods have no common multiple that is walked
pub long_periods : (p r : ℕ) → 1 ≤ p → 1 ≤ r → NoMultipleWithin p r longest_walk → IsLong p r
long_periods p r hp hr none =
    let all = all_of p r hp hr in
    none (lcm (lcm p r) 146_097) all.0 all.1 all.2

-- if they and the zones have none
pub long_zones : (p r both zones : ℕ) → 1 ≤ p → 1 ≤ r → both ≡ lcm p r → zones ∣ 146_097 → NoMultipleWithin both zones longest_walk → IsLong p r
long_zones p r both zones hp hr is divides none =
    let all = all_of p r hp hr in
    none (lcm (lcm p r) 146_097) all.0 (subst (λ z. z ∣ lcm (lcm p r) 146_097) (sym is) all.3) (dvd_trans zones divides all.4)

pub common_is : (p r both zones n : ℕ) → 1 ≤ p → 1 ≤ r → 1 ≤ zones → both ≡ lcm p r → n ≡ lcm both zones → n ≤ longest_walk → IsCommonCycle p r zones n
common_is p r both zones n hp hr hz is found few =
    let pair = lcm_is p r hp hr in
    let some : 1 ≤ both = subst (λ z. 1 ≤ z) (sym is) (lcm_some p r hp hr) in
    let all = lcm_is both zones some hz in
    record {
      some = subst (λ z. 1 ≤ z) (sym found) (lcm_some both zones some hz);
      of_first = subst (λ z. p ∣ z) (sym found) (dvd_trans p (subst (λ z. p ∣ z) (sym is) pair.0) all.0);
      of_second = subst (λ z. r ∣ z) (sym found) (dvd_trans r (subst (λ z. r ∣ z) (sym is) pair.1) all.0);
      of_zones = subst (λ z. zones ∣ z) (sym found) all.1;
      few = few;
    }

-- the same of what the code finds
pub cycle_found : (p r both zones : ℕ) → 1 ≤ p → 1 ≤ r → 1 ≤ zones → zones ∣ 146_097 → both ≡ lcm p r → (found : Option ℕ)
    → SomeIff found (lcm both zones ≤ longest_walk) (lcm both zones) → IfNone found (NoMultipleWithin both zones longest_walk)
    → MatchOption found (IsLong p r) (IsCommonCycle p r zones)
cycle_found p r both zones hp hr hz divides is None value none = long_zones p r both zones hp hr is divides none
cycle_found p r both zones hp hr hz divides is (Some n) value none =
    common_is p r both zones n hp hr hz is value.1 (subst (λ z. z ≤ longest_walk) (sym value.1) value.0)
