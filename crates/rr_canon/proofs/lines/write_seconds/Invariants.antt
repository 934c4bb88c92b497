use Rattle.std.specs.Prelude.{◌∷◌, take}
use Rattle.std.specs.Io.KnownBytes.{Appends}
use Rattle.rr_model.specs.Sets.DescriptorText.{fields}
use Rattle.rr_canon.proofs.lines.write_seconds.Given as goal

-- the seconds so far were written
abbrev pub invariant-loop-second : goal.invariant-loop-second
invariant-loop-second g l = Appends (g.W.Write.contents l.fn.out) (g.W.Write.contents l.out) (116 ∷ fields (take l.second-index l.times))
