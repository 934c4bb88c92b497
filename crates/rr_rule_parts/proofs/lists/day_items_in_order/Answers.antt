use Rattle.std.proofs.Common.{rules, tests, ◌==◌, length, arith}
use Rattle.std.proofs.lemmas.Iterator.Consumers.{YieldsList-turn, YieldsList-end}
use Rattle.std.proofs.lemmas.Iterator.Splits.{YieldsList-from_slice_split}
use Rattle.std.proofs.lemmas.List.{length_push}
use Rattle.std.proofs.lemmas.Result.{err_from_is_err_and}
use Rattle.rr_model.specs.Rising.{day_item_lt}
use Rattle.rr_model.specs.Text.RuleValues.{pieces}
use Rattle.rr_rule_parts.specs.Values.{day_item_within}
use Rattle.rr_rule_parts.proofs.PlacedLemmas.{placed-goes_on, placed-ends, placed-done}
use Rattle.rr_rule_parts.proofs.lists.day_items_in_order.Goals as goal

pub returns-in_err-day_item_within : goal.returns-in_err-day_item_within
returns-in_err-day_item_within c =
    let turn = YieldsList-turn
    (YieldsList-from_slice_split _ (λ b. b == 44) c.args.text.now (cc) (cc) (cc)
    (λ x b q k. search (rules, tests))) c.loop-piece.yielded _ c.loop-piece.yielded_by _ _ c.in-Some.piece c.in-Some.is c.next.ensures.steps in
    let p = err_from_is_err_and c.from_residual.result c.from_residual.ensures.1 in
    rw (p.1, p.2) (placed-ends day_item_lt (day_item_within c.args.line) (pieces 44 c.args.text.now) c.loop-piece.items
    (length c.loop-piece.yielded) c.in-Some.piece.now c.in_err-day_item_within.field-0.0 _ turn c.in_err-day_item_within.ensures c.loop-piece.invariant)

pub loop-piece-preserved : goal.loop-piece-preserved
loop-piece-preserved c =
    let turn = YieldsList-turn
    (YieldsList-from_slice_split _ (λ b. b == 44) c.args.text.now (cc) (cc) (cc)
    (λ x b q k. search (rules, tests))) c.loop-piece.yielded _ c.loop-piece.yielded_by _ _ c.in-Some.piece c.in-Some.is c.next.ensures.steps in
    placed-goes_on day_item_lt (day_item_within c.args.line) (pieces 44 c.args.text.now) c.loop-piece.items c.put.new.self
    (length c.loop-piece.yielded) _ c.in-Some.piece.now c.in_ok-day_item_within.field-0 _ turn
    (length_push c.loop-piece.yielded c.in-Some.piece) c.in_ok-day_item_within.ensures c.in_ok-put.ensures.ok c.loop-piece.invariant

pub returns : goal.returns
returns c =
    let end = YieldsList-end
    (YieldsList-from_slice_split _ (λ b. b == 44) c.args.text.now (cc) (cc) (cc)
    (λ x b q k. search (rules, tests))) c.loop-piece.yielded _ c.loop-piece.yielded_by _ _ c.in-None.is c.next.ensures.steps in
    placed-done day_item_lt (day_item_within c.args.line) (pieces 44 c.args.text.now) c.loop-piece.items (length c.loop-piece.yielded) _
    (omega (arith, end.1)) c.loop-piece.invariant
