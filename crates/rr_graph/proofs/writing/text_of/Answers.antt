use Rattle.std.proofs.Common.{◌++◌, ◌∷◌, [], List, ℕ, ℤ, ap, ◌∙◌, to_z-of_z}
use Rattle.serde_json.specs.Written.{compact_text, has_float}
use Rattle.rr_model.specs.Graph.Text.{event_data, graph_written}
use Rattle.rr_graph.proofs.WrittenDataLemmas.{has_float-event_data}
use Rattle.rr_graph.proofs.writing.text_of.Goals as goal

pub returns : goal.returns
unfolding graph_written
returns c =
    let built =
    c.in_ok-value.ensures ∙ ap (λ (s : ℤ). event_data c.args.kind s c.args.pattern.now c.args.range.now) (to_z-of_z c.ranges.start) in
    let text =
    c.in_ok-text.ensures.text (ap has_float built ∙ has_float-event_data c.args.kind c.args.start c.args.pattern.now c.args.range.now) ∙ ap compact_text built in
    c.in_ok-push.ensures.items ∙ ap (λ (t : List ℕ). t ++ 10 ∷ []) text
