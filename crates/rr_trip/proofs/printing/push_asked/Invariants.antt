use Rattle.std.specs.Prelude.{◌≡◌, ◌++◌, drop}
use Rattle.rr_trip.specs.Printed.{asked_text}
use Rattle.rr_trip.proofs.printing.push_asked.Given as goal

-- the others are left
abbrev pub invariant-loop-byte : goal.invariant-loop-byte
invariant-loop-byte l = l.out.items ++ asked_text (drop l.byte-index l.name) ≡ l.fn.out.items ++ asked_text l.name
