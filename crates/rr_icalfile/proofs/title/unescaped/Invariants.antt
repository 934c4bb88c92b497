use Rattle.std.proofs.Common.{◌≡◌, ◌++◌, false, drop}
use Rattle.rr_icalfile.specs.Words.{unescaped}
use Rattle.rr_icalfile.proofs.title.unescaped.Given as goal

abbrev pub invariant-loop-byte : goal.invariant-loop-byte
invariant-loop-byte l = l.text ++ unescaped l.is_escaped (drop l.byte-index l.value) ≡ unescaped false l.value
