use Rattle.std.specs.Prelude.{◌≡◌, ◌++◌, drop}
use Rattle.rr_trip.specs.Printed.{uid_text}
use Rattle.rr_trip.proofs.printing.push_uid.Given as goal

-- the others are left
abbrev pub invariant-loop-byte : goal.invariant-loop-byte
invariant-loop-byte l = l.out.items ++ uid_text (drop l.byte-index l.uid) ≡ l.fn.out.items ++ uid_text l.uid
