use Rattle.std.proofs.Common.{◌≤◌, subst, sym}
use Rattle.rr_num.proofs.DivisorLemmas.{lcm_some}
use Rattle.rr_utc.proofs.CycleLemmas.{cycle_found, long_periods}
use Rattle.rr_utc.proofs.end.common_cycle.Goals as goal

pub returns-in_err-both : goal.returns-in_err-both
returns-in_err-both c =
    rw c.from_residual.ensures (long_periods c.args.first c.args.second c.requires.first.0 c.requires.second.0 c.in_err-both.ensures.none)

pub lcm_within-requires-2-clause-first : goal.lcm_within-requires-2-clause-first
lcm_within-requires-2-clause-first c =
    subst (λ z. 1 ≤ z) (sym c.in_ok-both.ensures.value.1) (lcm_some c.args.first c.args.second c.requires.first.0 c.requires.second.0)

pub returns : goal.returns
returns c =
    cycle_found c.args.first c.args.second c.in_ok-both.both c.args.zones c.requires.first.0 c.requires.second.0 c.requires.zones.0 c.requires.zones.1
    c.in_ok-both.ensures.value.1 c.lcm_within-2.result c.lcm_within-2.ensures.value c.lcm_within-2.ensures.none
