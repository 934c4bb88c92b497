use Rattle.std.proofs.Common.{◌≤◌, refl, sym, subst}
use Rattle.rr_num.proofs.DivisorLemmas.{lcm_some}
use Rattle.rr_num.proofs.DivisionLemmas.{is_lcm}
use Rattle.rr_num.proofs.cycle.day_cycle.Goals as goal

pub returns-clause-value : goal.returns-clause-value
returns-clause-value c =
    is_lcm c.interval_cycle-units.result c.parts_cycle-parts.result c.gcd.result _ _ c.interval_cycle-units.ensures.value c.parts_cycle-parts.ensures.value
    c.gcd.ensures.value

pub returns-clause-some : goal.returns-clause-some
returns-clause-some c =
    subst (λ z. 1 ≤ z) (sym (is_lcm c.interval_cycle-units.result c.parts_cycle-parts.result c.gcd.result _ _ refl refl c.gcd.ensures.value))
    (lcm_some c.interval_cycle-units.result c.parts_cycle-parts.result c.interval_cycle-units.ensures.some c.parts_cycle-parts.ensures.some)
