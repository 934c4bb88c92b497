use Rattle.std.proofs.Common.{◌≡◌, ◌+◌, drop, map}
use Rattle.serde_json.specs.View.{view}
use Rattle.rr_graphfile.specs.Items.{judged_items}
use Rattle.rr_graphfile.proofs.file.judge_items.Given as goal

abbrev pub invariant-loop-item : goal.invariant-loop-item
invariant-loop-item l =
    (l.number ≡ l.item-index + 1) × (judged_items l.number (map view (drop l.item-index l.items)) ≡ judged_items 1 (map view l.items))
