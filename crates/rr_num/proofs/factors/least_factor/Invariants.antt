use Rattle.std.specs.Prelude.{◌-◌, ◌≤◌}
use Rattle.rr_model.specs.Bounds.{longest_period}
use Rattle.rr_model.specs.Sets.DividingOut.{HasNoFactorBelow}
use Rattle.rr_num.proofs.factors.least_factor.Given as goal

-- no number up to this one divides
abbrev pub invariant-loop-factor : goal.invariant-loop-factor
invariant-loop-factor l = (2 ≤ l.factor) × (l.factor ≤ longest_period) × HasNoFactorBelow l.number l.factor

abbrev pub decreases-loop-factor : goal.decreases-loop-factor
decreases-loop-factor l = l.number - l.factor
