use Rattle.std.specs.Prelude.{IsTrue}
use Rattle.rr_decide.specs.Alike.{AreOf}
use Rattle.rr_decide.proofs.long.AlikeNumbers.has_each.Given as goal

-- if all is true, the numbers at the places of the block before this one are of the stretch
abbrev pub invariant-loop-index : goal.invariant-loop-index
invariant-loop-index l = IsTrue l.all → AreOf l.self l.xs l.from l.index
