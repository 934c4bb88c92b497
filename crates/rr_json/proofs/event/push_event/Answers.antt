use Rattle.std.proofs.Common.{◌≡◌, ◌++◌, ℕ, List, ap, ◌∙◌}
use Rattle.serde_json.specs.Data.{object}
use Rattle.serde_json.specs.View.{view}
use Rattle.serde_json.specs.Written.{compact_text, has_float}
use Rattle.serde_json.specs.declared.value.Value.TheVariants.{Object}
use Rattle.serde_json.proofs.Views.{view-Object}
use Rattle.rr_json.specs.Event.{event_json}
use Rattle.rr_json.proofs.FloatLemmas.{of_event}
use Rattle.rr_json.proofs.event.push_event.Goals as goal

pub returns : goal.returns
returns c =
    let seen : view (Object c.in_ok-map.map) ≡ event_json c.args.line.now = view-Object c.in_ok-map.map ∙ ap object c.in_ok-map.ensures in
    c.in_ok-extend_from_slice.ensures.items
    ∙ ap (λ (l : List ℕ). c.args.out.now.items ++ l)
    (c.deref.ensures.value ∙ (c.in_ok-text.ensures.text (ap has_float seen ∙ of_event c.args.line.now) ∙ ap compact_text seen))
