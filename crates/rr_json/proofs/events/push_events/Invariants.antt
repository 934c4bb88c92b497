use Rattle.std.specs.Prelude.{◌≡◌, ◌++◌, drop, false}
use Rattle.serde_json.specs.Written.{items_text}
use Rattle.rr_json.specs.Json.{events_items}
use Rattle.rr_json.proofs.events.push_events.Given as goal

-- with the events that are still to come the text is the whole list
abbrev pub invariant-loop-line : goal.invariant-loop-line
invariant-loop-line l =
    l.out.items ++ items_text l.later (events_items l.only_differences (drop l.line-index l.lines))
    ≡ l.fn.out.items ++ items_text false (events_items l.only_differences l.lines)
