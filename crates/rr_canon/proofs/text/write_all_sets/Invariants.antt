use Rattle.std.specs.Prelude.{map, take}
use Rattle.rr_canon.specs.Versions.{set_line_of}
use Rattle.rr_canon.specs.Written.{WritesLines}
use Rattle.rr_canon.proofs.text.write_all_sets.Given as goal

-- the sets so far were written
abbrev pub invariant-loop-number : goal.invariant-loop-number
invariant-loop-number g l =
    WritesLines (g.W.Write.contents l.fn.out) (g.W.Write.contents l.out) (map (set_line_of l.version) (take l.number l.sets))
