use Rattle.std.proofs.Common.{◌≡◌, ◌++◌, ◌∷◌, [], ℕ, List, ap, ap₂, codes, ◌∙◌}
use Rattle.serde_json.specs.Data.{Data, Members, object, put}
use Rattle.serde_json.specs.View.{view}
use Rattle.serde_json.specs.Written.{compact_text, has_float}
use Rattle.serde_json.specs.declared.value.Value.TheVariants.{Object}
use Rattle.serde_json.proofs.Views.{view-Object}
use Rattle.rr_facts.specs.Facts.{facts_in}
use Rattle.rr_json.specs.Files.{facts_members}
use Rattle.rr_json.specs.Json.{json_refusal_text, refusal_json}
use Rattle.rr_json.proofs.FloatLemmas.{of_refusal}
use Rattle.rr_json.proofs.print.print_json_refusal.Goals as goal

pub returns : goal.returns
unfolding json_refusal_text
returns c =
    let facts = facts_in c.args.facts.now in
    let seen : view (Object c.put.new.map) ≡ refusal_json facts c.args.side c.args.refusal =
    view-Object c.put.new.map
    ∙ ap object
    (c.in_ok-put.ensures.ok
    ∙ ap₂ (λ (d : Data) (ms : Members). put (codes "refused") d ms) c.in_ok-refused_value.ensures
    (c.in_ok-map.ensures ∙ ap (λ (n : ℕ). facts_members facts n) c.status_number.ensures)) in
    c.in_ok-push.ensures.items
    ∙ ap (λ (l : List ℕ). l ++ 10 ∷ [])
    (c.in_ok-text.ensures.text (ap has_float seen ∙ of_refusal facts c.args.side c.args.refusal) ∙ ap compact_text seen)
