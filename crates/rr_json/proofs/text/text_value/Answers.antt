use Rattle.std.proofs.Common.{◌≡◌, ◌∙◌, IfOk, subst}
use Rattle.serde_json.specs.Data.{Data}
use Rattle.serde_json.specs.View.{view}
use Rattle.rr_json.proofs.TextLemmas.{printed_is, text_is}
use Rattle.rr_json.proofs.text.text_value.Goals as goal

pub returns-in_ok-try_from_str-in-Ok : goal.returns-in_ok-try_from_str-in-Ok
returns-in_ok-try_from_str-in-Ok c =
    c.in_ok-try_from_str-in-Ok.ensures ∙ text_is c.args.text.now c.in-Ok.text.now c.in-Ok.ensures.cases.0 c.in-Ok.ensures.cases.1

pub returns-in-Err : goal.returns-in-Err
returns-in-Err c =
    subst (λ (made : Data). IfOk c.printed_value.result (λ value. view value ≡ made)) (printed_is c.args.text.now c.in-Err.ensures.cases.0)
    c.printed_value.ensures
