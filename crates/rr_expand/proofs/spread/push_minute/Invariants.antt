use Rattle.std.proofs.Common.{◌≡◌, ◌++◌, drop}
use Rattle.rr_expand.specs.Spread.{of_minute}
use Rattle.rr_expand.proofs.spread.push_minute.Given as goal

abbrev pub invariant-loop-second : goal.invariant-loop-second
invariant-loop-second l = l.out.items ++ of_minute l.base (drop l.second-index l.seconds) ≡ l.fn.out.items ++ of_minute l.base l.seconds
