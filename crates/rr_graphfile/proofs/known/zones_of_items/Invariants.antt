use Rattle.std.specs.Prelude.{All, take}
use Rattle.serde_json.specs.View.{view}
use Rattle.serde_json.specs.declared.value.Value.{Value}
use Rattle.rr_graphfile.specs.Known.{AreMeant, HasZoneOf}
use Rattle.rr_graphfile.proofs.known.zones_of_items.Given as goal

-- what is kept is meant, and the names of the events so far are kept
abbrev pub invariant-loop-event : goal.invariant-loop-event
invariant-loop-event g l =
    AreMeant (g.N.ZoneNames.meaning l.names) l.zones × All (λ (v : Value). HasZoneOf l.zones (view v)) (take l.event-index l.items)
