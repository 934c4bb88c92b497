use Rattle.std.proofs.Common.{◌↔◌, ◌<◌, ℕ, IsTrue, List, min, ap, ◌∙◌, sym, subst}
use Rattle.rr_model.specs.Text.Digits.{digits_value}
use Rattle.rr_text.proofs.NumberLemmas.{leading_digits-number}
use Rattle.rr_text.proofs.whole_numbers.whole_number.Goals as goal

pub returns-then-is_whole-clause-value : goal.returns-then-is_whole-clause-value
returns-then-is_whole-clause-value c =
    let all = leading_digits-number c.args.text.now (sym c.is_whole.ensures ∙ c.if-is_whole.true) in
    c.number-digits.ensures.value ∙ ap (λ ds. min (digits_value ds) 18446744073709551615) all

pub returns-then-is_whole-clause-over : goal.returns-then-is_whole-clause-over
returns-then-is_whole-clause-over c =
    let all = leading_digits-number c.args.text.now (sym c.is_whole.ensures ∙ c.if-is_whole.true) in
    subst (λ (ds : List ℕ). IsTrue c.number-digits.result.over ↔ (18446744073709551615 < digits_value ds)) all c.number-digits.ensures.over
