use Rattle.std.proofs.Common.{◌≡◌, ℕ, List, drop, map}
use Rattle.std.specs.Option.{option_or}
use Rattle.serde_json.specs.View.{view}
use Rattle.rr_graphfile.specs.Items.{name_by_id}
use Rattle.rr_graphfile.specs.Names.{name_under}
use Rattle.rr_graphfile.proofs.names.names_by_id.Given as goal

abbrev pub invariant-loop-event : goal.invariant-loop-event
invariant-loop-event l =
    (id : List ℕ) → option_or (name_under l.names id) (name_by_id id (map view (drop l.event-index l.items))) ≡ name_by_id id (map view l.items)
