use Rattle.std.proofs.Common.{◌≡◌, drop}
use Rattle.rr_io.specs.Memory.{first_of}
use Rattle.rr_io.proofs.memory.first_of.Given as goal

abbrev pub invariant-loop-number : goal.invariant-loop-number
invariant-loop-number l = first_of l.failing l.put ≡ first_of (drop l.number-index l.failing) l.put
