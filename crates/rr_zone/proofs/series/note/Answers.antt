use Rattle.std.proofs.Common.{refl, rules, sym, ◌∙◌}
use Rattle.std.proofs.lemmas.Map.Text.{btree_map_updates_str}
use Rattle.rr_zone.proofs.SeriesLemmas.{new_noted}
use Rattle.rr_zone.proofs.series.note.Goals as goal

pub returns-in-Ok : goal.returns-in-Ok
returns-in-Ok c =
    new_noted c.args.starts.now c.insert.new.self c.args.event.now _ c.if-event.false (search rules)
    (rw c.as_slice-uid.ensures at (sym c.contains_key.ensures ∙ c.if-contains_key.false)) refl
    (rw c.as_slice-uid.ensures at (btree_map_updates_str c.as_slice-uid.result.now c.args.starts.now c.insert.new.self _ c.in-Ok.ensures.updates))
