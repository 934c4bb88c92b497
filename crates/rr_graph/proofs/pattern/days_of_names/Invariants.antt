use Rattle.std.proofs.Common.{◌≡◌, drop}
use Rattle.serde_json.specs.View.{items_view}
use Rattle.rr_model.specs.Graph.Reading.{days_after}
use Rattle.rr_graph.proofs.pattern.days_of_names.Given as goal

-- the names that are left give the same days after those that the names so far gave
abbrev pub invariant-loop-name : goal.invariant-loop-name
invariant-loop-name l = days_after l.days (items_view (drop l.name-index l.names)) ≡ days_after 0 (items_view l.names)
