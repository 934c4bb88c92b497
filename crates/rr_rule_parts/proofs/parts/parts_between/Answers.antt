use Rattle.std.proofs.Common.{rules, tests, ◌==◌, length, arith}
use Rattle.std.proofs.lemmas.Iterator.Consumers.{YieldsList-turn, YieldsList-end}
use Rattle.std.proofs.lemmas.Iterator.Splits.{YieldsList-from_slice_split}
use Rattle.std.proofs.lemmas.List.{length_push}
use Rattle.std.proofs.lemmas.Result.{err_from_is_err_and}
use Rattle.rr_model.specs.Text.RuleValues.{pieces}
use Rattle.rr_rule_parts.specs.Rules.{with_part}
use Rattle.rr_ical.proofs.KeptLemmas.{refused_answers}
use Rattle.rr_rule_parts.proofs.PartsLemmas.{with_parts-goes_on, with_parts-ends, with_parts-done}
use Rattle.rr_rule_parts.proofs.parts.parts_between.Goals as goal

pub returns-in_err-put_part : goal.returns-in_err-put_part
returns-in_err-put_part c =
    let turn = YieldsList-turn
    (YieldsList-from_slice_split _ (λ b. b == 59) c.args.text.now (cc) (cc) (cc)
    (λ x b q k. search (rules, tests))) c.loop-piece.yielded _ c.loop-piece.yielded_by _ _ c.in-Some.piece c.in-Some.is c.next.ensures.steps in
    let p = err_from_is_err_and c.from_residual.result c.from_residual.ensures.1 in
    let fault = c.in_err-put_part.field-0.0 in
    let parts = c.loop-piece.parts in
    rw (p.1, p.2) (with_parts-ends c.args.line (pieces 59 c.args.text.now) parts (length c.loop-piece.yielded) c.in-Some.piece.now fault _ turn
    (refused_answers (with_part c.args.line parts c.in-Some.piece.now) c.put_part.new.parts fault c.in_err-put_part.ensures) c.loop-piece.invariant)

pub loop-piece-preserved : goal.loop-piece-preserved
loop-piece-preserved c =
    let turn = YieldsList-turn
    (YieldsList-from_slice_split _ (λ b. b == 59) c.args.text.now (cc) (cc) (cc)
    (λ x b q k. search (rules, tests))) c.loop-piece.yielded _ c.loop-piece.yielded_by _ _ c.in-Some.piece c.in-Some.is c.next.ensures.steps in
    with_parts-goes_on c.args.line (pieces 59 c.args.text.now) c.loop-piece.parts _ (length c.loop-piece.yielded) _ c.in-Some.piece.now _ turn
    (length_push c.loop-piece.yielded c.in-Some.piece) c.in_ok-put_part.ensures c.loop-piece.invariant

pub returns : goal.returns
returns c =
    let end = YieldsList-end
    (YieldsList-from_slice_split _ (λ b. b == 59) c.args.text.now (cc) (cc) (cc)
    (λ x b q k. search (rules, tests))) c.loop-piece.yielded _ c.loop-piece.yielded_by _ _ c.in-None.is c.next.ensures.steps in
    with_parts-done c.args.line (pieces 59 c.args.text.now) c.loop-piece.parts (length c.loop-piece.yielded) _ (omega (arith, end.1)) c.loop-piece.invariant
