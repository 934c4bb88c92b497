use Rattle.std.specs.Prelude.{◌≤◌, ◌-◌}
use Rattle.rr_decide.specs.Alike.{HaveOneAt}
use Rattle.rr_decide.proofs.long.AlikeNumbers.pass_blocks.Given as goal

-- the places before this one have one number of the stretch
abbrev pub invariant-loop-at : goal.invariant-loop-at
invariant-loop-at l = (l.from ≤ l.at) × (l.at ≤ l.end) × HaveOneAt l.xs l.ys l.self l.from l.at

abbrev pub decreases-loop-at : goal.decreases-loop-at
decreases-loop-at l = l.end - l.at
