use Rattle.std.proofs.Common.{sym, ap, ◌∙◌}
use Rattle.rr_answer.specs.Command.{number_between}
use Rattle.rr_answer.proofs.WordLemmas.{number_between-within, number_between-outside}
use Rattle.rr_answer.proofs.decimal.number_between.Goals as goal

pub returns-then-value-most-clause-number : goal.returns-then-value-most-clause-number
returns-then-value-most-clause-number c =
    number_between-within c.args.least c.args.most c.number-value.result.value c.as_bytes-digits.result.now c.requires
    (sym c.is_decimal.ensures ∙ c.if-not-is_decimal.false) c.number-value.ensures.value c.if-least-value.true c.if-value-most.true
    ∙ ap (number_between c.args.least c.args.most) c.as_bytes-digits.ensures.value

pub returns-else-least-value-clause-number : goal.returns-else-least-value-clause-number
returns-else-least-value-clause-number c =
    number_between-outside c.args.least c.args.most c.number-value.result.value c.as_bytes-digits.result.now c.requires
    (sym c.is_decimal.ensures ∙ c.if-not-is_decimal.false) c.number-value.ensures.value c.else-least-value.either
    ∙ ap (number_between c.args.least c.args.most) c.as_bytes-digits.ensures.value
