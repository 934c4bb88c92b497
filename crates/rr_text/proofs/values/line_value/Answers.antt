use Rattle.std.proofs.Common.{◌∙◌, ap, sym}
use Rattle.std.specs.Str.{str_to_ascii_uppercase}
use Rattle.rr_text.proofs.BlankLemmas.{in_capitals, trimmed_capitals}
use Rattle.rr_text.proofs.values.line_value.Goals as goal

pub returns-then-has_small_letter : goal.returns-then-has_small_letter
returns-then-has_small_letter c =
    c.in_ok-to_ascii_uppercase.ensures.ok ∙ ap str_to_ascii_uppercase c.trim-value.ensures ∙ trimmed_capitals c.args.text.now

pub returns : goal.returns
returns c =
    sym (in_capitals c.trim-value.result.now (sym c.has_small_letter.ensures ∙ c.if-has_small_letter.false))
    ∙ ap str_to_ascii_uppercase c.trim-value.ensures ∙ trimmed_capitals c.args.text.now
