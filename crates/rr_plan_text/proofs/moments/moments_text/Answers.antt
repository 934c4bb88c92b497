use Rattle.std.proofs.Common.{◌≡◌, false, ap, ◌∙◌}
use Rattle.serde_json.specs.Data.{Data, Items, array}
use Rattle.serde_json.specs.View.{items_view, view}
use Rattle.serde_json.specs.Written.{compact_text, has_float}
use Rattle.serde_json.specs.declared.value.Value.TheVariants.{Array}
use Rattle.serde_json.proofs.Views.{view-Array}
use Rattle.rr_plan_text.proofs.MomentLemmas.{has_float-moments}
use Rattle.rr_plan_text.proofs.moments.moments_text.Goals as goal

pub returns : goal.returns
returns c =
    let seen : view (Array c.in_ok-values.values) ≡ array (items_view c.in_ok-values.values.items) = view-Array c.in_ok-values.values in
    let made = seen ∙ ap array c.in_ok-values.ensures in
    c.in_ok-to_vec.ensures.text (ap has_float made ∙ has_float-moments c.args.kind c.args.times.now) ∙ ap compact_text made
