use Rattle.std.proofs.Common.{◌≡◌, ◌++◌, ◌∷◌, ℕ, List, ap, false, ◌∙◌}
use Rattle.serde_json.specs.Data.{object}
use Rattle.serde_json.specs.View.{view}
use Rattle.serde_json.specs.Written.{compact_text, has_float, members_text}
use Rattle.serde_json.specs.declared.value.Value.TheVariants.{Object}
use Rattle.serde_json.proofs.Views.{view-Object}
use Rattle.rr_facts.specs.Facts.{facts_in}
use Rattle.rr_json.specs.Files.{facts_members}
use Rattle.rr_json.proofs.FloatLemmas.{of_facts}
use Rattle.rr_json.proofs.PrintLemmas.{without_brace}
use Rattle.rr_json.proofs.print.push_facts.Goals as goal

pub returns : goal.returns
returns c =
    let members = facts_members (facts_in c.args.facts.now) c.args.status in
    let seen : view (Object c.in_ok-map.map) ≡ object members = view-Object c.in_ok-map.map ∙ ap object c.in_ok-map.ensures in
    let text : c.in_ok-text.text.items ≡ 123 ∷ members_text false members =
    c.in_ok-text.ensures.text (ap has_float seen ∙ of_facts (facts_in c.args.facts.now) c.args.status) ∙ ap compact_text seen in
    c.in_ok-extend_from_slice.ensures.items
    ∙ ap (λ (l : List ℕ). c.args.out.now.items ++ l)
    (without_brace c.deref.result.now c.in_ok-text.text.items (members_text false members) c.deref.ensures.value text)
