use Rattle.std.proofs.Common.{◌≡◌, drop, map}
use Rattle.std.specs.Prelude.{option_map}
use Rattle.rr_seam.specs.Steps.{key_in_turn}
use Rattle.rr_vcalfile.specs.Gathered.{first_lines}
use Rattle.rr_vcalfile.specs.Parts.{lines_in}
use Rattle.rr_vcalfile.specs.Stated.{gathered_at, with_index}
use Rattle.rr_vcalfile.proofs.gather.gather.Given as goal

abbrev pub invariant-loop-index : goal.invariant-loop-index
invariant-loop-index l =
    key_in_turn (with_index (map lines_in l.parts)) (option_map first_lines l.gathered) (drop l.index-index l.indexes)
    ≡ gathered_at (map lines_in l.parts) l.indexes
