use Rattle.std.proofs.Common.{◌≡◌, ◌++◌, drop, map}
use Rattle.rr_vcalfile.specs.Parts.{lines_in}
use Rattle.rr_vcalfile.specs.Stated.{key_of}
use Rattle.rr_vcalfile.proofs.event.keys_of.Given as goal

abbrev pub invariant-loop-part : goal.invariant-loop-part
invariant-loop-part l = l.keys.items ++ map key_of (map lines_in (drop l.part-index l.parts)) ≡ map key_of (map lines_in l.parts)
