use Rattle.std.proofs.Common.{◌≡◌, ◌<◌, ◌≤◌, refl, subst, arith}
use Rattle.rr_model.specs.Series.Cycle.{rules_cycle, series_cycle}
use Rattle.rr_model.specs.declared.limits.TheConstants.{MAX_CYCLE_DAYS}
use Rattle.rr_model.specs.declared.refusal.Refusal.TheVariants.{CycleTooLong}
use Rattle.rr_model.specs.declared.rule.Series.{Series}
use Rattle.rr_check.proofs.SeriesCycleLemmas.{have_intervals, over_first, over_second, rules_cycle_some}
use Rattle.rr_check.proofs.cycle.admit.Goals as goal

abbrev IsTooLong : Series → Type 0
IsTooLong s = (CycleTooLong ≡ CycleTooLong) × (MAX_CYCLE_DAYS < series_cycle s)

pub returns-in_default-clause-refused : goal.returns-in_default-clause-refused
returns-in_default-clause-refused c =
    let s = c.series-series.result.now in
    let valid = c.series-series.ensures.sound.valid in
    let a : 1 ≤ rules_cycle s.rules = rules_cycle_some s.rules (have_intervals s.kind s.rules valid.rules) in
    let b : 1 ≤ rules_cycle s.excluded = rules_cycle_some s.excluded (have_intervals s.kind s.excluded valid.excluded) in
    let long = over_first (rules_cycle s.rules) (rules_cycle s.excluded) a b (rw c.as_slice.ensures at c.in_default.ensures) in
    subst IsTooLong c.series-series.ensures.value (refl, long)

pub returns-in_default-cycle_of-clause-refused : goal.returns-in_default-cycle_of-clause-refused
returns-in_default-cycle_of-clause-refused c =
    let s = c.series-series.result.now in
    let valid = c.series-series.ensures.sound.valid in
    let a : 1 ≤ rules_cycle s.rules = rules_cycle_some s.rules (have_intervals s.kind s.rules valid.rules) in
    let b : 1 ≤ rules_cycle s.excluded = rules_cycle_some s.excluded (have_intervals s.kind s.excluded valid.excluded) in
    let long = over_second (rules_cycle s.rules) (rules_cycle s.excluded) a b (rw c.as_slice-2.ensures at c.in_default-cycle_of.ensures) in
    subst IsTooLong c.series-series.ensures.value (refl, long)

pub lcm_within-requires-clause-first : goal.lcm_within-requires-clause-first
lcm_within-requires-clause-first c =
    let s = c.series-series.result.now in
    let a : 1 ≤ rules_cycle s.rules = rules_cycle_some s.rules (have_intervals s.kind s.rules c.series-series.ensures.sound.valid.rules) in
    omega (arith, a, (rw c.as_slice.ensures at c.in-Some.ensures).1)

pub lcm_within-requires-clause-second : goal.lcm_within-requires-clause-second
lcm_within-requires-clause-second c =
    let s = c.series-series.result.now in
    let b : 1 ≤ rules_cycle s.excluded = rules_cycle_some s.excluded (have_intervals s.kind s.excluded c.series-series.ensures.sound.valid.excluded) in
    omega (arith, b, (rw c.as_slice-2.ensures at c.in-Some-cycle_of.ensures).1)
