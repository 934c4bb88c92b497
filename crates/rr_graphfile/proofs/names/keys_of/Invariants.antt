use Rattle.std.proofs.Common.{◌≡◌, ◌+◌, ◌++◌, drop, map}
use Rattle.serde_json.specs.View.{view}
use Rattle.rr_graphfile.specs.Items.{keys_from, keys_in}
use Rattle.rr_graphfile.proofs.names.keys_of.Given as goal

abbrev pub invariant-loop-event : goal.invariant-loop-event
invariant-loop-event l =
    (l.number ≡ l.event-index + 1)
    × (l.keys.items ++ keys_from (map view l.items) l.number (map view (drop l.event-index l.items)) ≡ keys_in (map view l.items))
