use Rattle.std.proofs.Common.{◌-◌}
use Rattle.rr_expand.proofs.FinerLemmas.{IsFound}
use Rattle.rr_expand.proofs.finer.fitting_list.Given as goal

abbrev pub invariant-loop-unit : goal.invariant-loop-unit
invariant-loop-unit l = IsFound l.rule l.start l.day l.unit l.out.items

abbrev pub decreases-loop-unit : goal.decreases-loop-unit
decreases-loop-unit l = 86_400 - l.unit
