use Rattle.std.proofs.Common.{◌≡◌, drop, map}
use Rattle.serde_json.specs.View.{view}
use Rattle.rr_graphfile.specs.Lengths.{all_dated}
use Rattle.rr_graphfile.specs.Parsed.{turning_in}
use Rattle.rr_graphfile.proofs.LengthLemmas.{all_behind}
use Rattle.rr_graphfile.proofs.lengths.all_dated.Given as goal

-- the other instances are left
abbrev pub invariant-loop-event : goal.invariant-loop-event
invariant-loop-event l =
    all_behind l.dated.items (all_dated (turning_in l.turning) (map view (drop l.event-index l.exceptions)))
    ≡ all_dated (turning_in l.turning) (map view l.exceptions)
