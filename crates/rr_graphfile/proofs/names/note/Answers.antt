use Rattle.std.proofs.Common.{sym, ◌∙◌}
use Rattle.serde_json.specs.View.{view}
use Rattle.std.proofs.lemmas.Map.Text.{btree_map_updates_str}
use Rattle.rr_graphfile.proofs.NameLemmas.{new_noted}
use Rattle.rr_graphfile.proofs.names.note.Goals as goal

pub returns-in-Ok : goal.returns-in-Ok
returns-in-Ok c =
    new_noted (view c.args.event.now) c.in-Some.id.now (sym c.in-Some.ensures) c.args.names.now c.insert.new.self c.own_name.result
    (rw c.as_bytes-id.ensures.value at (sym c.contains_key.ensures ∙ c.if-contains_key.false)) c.own_name.ensures
    (rw c.as_bytes-id.ensures.value at (btree_map_updates_str c.as_bytes-id.result.now c.args.names.now c.insert.new.self _ c.in-Ok.ensures.updates))
