use Rattle.std.proofs.Common.{◌≡◌, map, take}
use Rattle.std.specs.List.{filter}
use Rattle.serde_json.specs.Data.{string}
use Rattle.serde_json.specs.View.{view}
use Rattle.rr_model.specs.Graph.Counterpart.{has_weekday}
use Rattle.rr_model.specs.Graph.Text.{day_text}
use Rattle.rr_graph.proofs.names.day_names.Given as goal

abbrev pub invariant-loop-weekday : goal.invariant-loop-weekday
invariant-loop-weekday l = map view l.names.items ≡ map string (map day_text (filter (has_weekday l.days) (take l.weekday-index l.weekday-items)))
