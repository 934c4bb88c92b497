use Rattle.std.proofs.Common.{◌≡◌, ◌||◌, Bool, false, ap, sym, ◌∙◌}
use Rattle.rr_model.specs.Text.Lines.{physical_lines}
use Rattle.rr_compare.specs.Languages.{is_begin, version_from}
use Rattle.rr_compare.proofs.LanguageLemmas.{empty_passed, none_said, not_said}
use Rattle.rr_compare.proofs.language.is_version_one.Goals.{then-is_begun, else-is_begun}
use Rattle.rr_compare.proofs.language.is_version_one.Goals as goal

pub loop-line-init : goal.loop-line-init
loop-line-init c =
    let left = c.after_empty_lines in empty_passed false 0 c.args.text.now left.result.text.now left.result.number left.ensures.empty

pub loop-line-preserved : goal.loop-line-preserved
loop-line-preserved c =
    let line = c.in-Some.line.now in
    let after = c.in-Some.after.now in
    let left = c.after_empty_lines-in-Some in
    let says = sym c.in_default-head_says.is ∙ c.head_says.ensures in
    let begun : c.if-is_begun.is_begun ≡ (c.loop-line.is_begun || is_begin line) = elim c.if-is_begun.branch [
      | then-is_begun w ↦ w.is_begun-is ∙ w.if-is_begun.true ∙ sym (ap (λ b. b || is_begin line) w.if-is_begun.true)
      | else-is_begun w ↦ w.is_begun-is ∙ w.is_begin-is_begun.ensures ∙ sym (ap (λ b. b || is_begin line) w.if-is_begun.false)
    ] in
    not_said c.args.text.now c.loop-line.rest.now c.loop-line.is_begun c.loop-line.invariant line after c.in-Some.ensures says
    ∙ ap (λ (b : Bool). version_from b (physical_lines after)) (sym begun)
    ∙ empty_passed c.if-is_begun.is_begun 0 after left.result.text.now left.result.number left.ensures.empty

pub returns : goal.returns
returns c = none_said c.args.text.now c.loop-line.rest.now c.loop-line.is_begun c.loop-line.invariant c.in_default.ensures
