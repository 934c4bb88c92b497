use Rattle.std.proofs.Common.{take, ap, ◌∙◌}
use Rattle.std.proofs.lemmas.List.Folds.{length-prefix_len}
use Rattle.rr_model.specs.Text.Digits.{is_digit}
use Rattle.rr_text.proofs.DigitLemmas.{AllPass-leading_digits}
use Rattle.rr_text.proofs.digits.leading_digits.Goals as goal

pub returns : goal.returns
returns c =
    let text = c.args.text.now in
    let front = ap (λ n. take n text) (c.count_digits.ensures ∙ length-prefix_len is_digit text) in
    record { front = front; digits = rw front (AllPass-leading_digits text) }
