use Rattle.std.proofs.Common.{◌≡◌, drop, map}
use Rattle.serde_json.specs.View.{view}
use Rattle.rr_seam.specs.Steps.{key_in_turn}
use Rattle.rr_graphfile.specs.Parsed.{gathered_in}
use Rattle.rr_graphfile.specs.Stated.{gathered_at, with_index}
use Rattle.rr_graphfile.proofs.gather.gather.Given as goal

abbrev pub invariant-loop-index : goal.invariant-loop-index
invariant-loop-index l =
    key_in_turn (with_index (map view l.items)) (gathered_in l.gathered) (drop l.index-index l.indexes) ≡ gathered_at (map view l.items) l.indexes
