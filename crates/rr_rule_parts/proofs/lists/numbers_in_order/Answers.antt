use Rattle.std.proofs.Common.{rules, tests, ◌≡◌, ◌==◌, length, to_z, of_z, w16, ap, ◌∙◌, arith}
use Rattle.std.specs.Prelude.{int_lt}
use Rattle.std.proofs.lemmas.Int.{ints, to_z-of_z}
use Rattle.std.proofs.lemmas.Iterator.Consumers.{YieldsList-turn, YieldsList-end}
use Rattle.std.proofs.lemmas.Iterator.Splits.{YieldsList-from_slice_split}
use Rattle.std.proofs.lemmas.List.{length_push}
use Rattle.std.proofs.lemmas.Result.{err_from_is_err_and}
use Rattle.rr_model.specs.Rising.{with_value}
use Rattle.rr_model.specs.Text.RuleValues.{pieces}
use Rattle.rr_rule_parts.specs.Values.{number_within}
use Rattle.rr_rule_parts.proofs.PlacedLemmas.{placed-goes_on, placed-ends, placed-done}
use Rattle.rr_rule_parts.proofs.lists.numbers_in_order.Goals as goal

pub returns-in_err-number_within : goal.returns-in_err-number_within
returns-in_err-number_within c =
    let turn = YieldsList-turn
    (YieldsList-from_slice_split _ (λ b. b == 44) c.args.text.now (cc) (cc) (cc)
    (λ x b q k. search (rules, tests))) c.loop-piece.yielded _ c.loop-piece.yielded_by _ _ c.in-Some.piece c.in-Some.is c.next.ensures.steps in
    let p = err_from_is_err_and c.from_residual.result c.from_residual.ensures.1 in
    rw (p.1, p.2) (placed-ends int_lt (number_within c.args.line c.args.bounds) (pieces 44 c.args.text.now) c.loop-piece.numbers
    (length c.loop-piece.yielded) c.in-Some.piece.now c.in_err-number_within.field-0.0 _ turn c.in_err-number_within.ensures.value c.loop-piece.invariant)

pub loop-piece-preserved : goal.loop-piece-preserved
loop-piece-preserved c =
    let turn = YieldsList-turn
    (YieldsList-from_slice_split _ (λ b. b == 44) c.args.text.now (cc) (cc) (cc)
    (λ x b q k. search (rules, tests))) c.loop-piece.yielded _ c.loop-piece.yielded_by _ _ c.in-Some.piece c.in-Some.is c.next.ensures.steps in
    let n = c.in_ok-number_within.field-0 in
    let back : to_z w16 (of_z w16 n) ≡ n = to_z-of_z w16 n (omega (arith, ints, c.in_ok-number_within.ensures.range, c.requires)) in
    placed-goes_on int_lt (number_within c.args.line c.args.bounds) (pieces 44 c.args.text.now) c.loop-piece.numbers c.put.new.self
    (length c.loop-piece.yielded) _ c.in-Some.piece.now c.in_ok-number_within.field-0 _ turn
    (length_push c.loop-piece.yielded c.in-Some.piece) c.in_ok-number_within.ensures.value (c.in_ok-put.ensures.ok
    ∙ ap (with_value int_lt c.loop-piece.numbers) back) c.loop-piece.invariant

pub returns : goal.returns
returns c =
    let end = YieldsList-end
    (YieldsList-from_slice_split _ (λ b. b == 44) c.args.text.now (cc) (cc) (cc)
    (λ x b q k. search (rules, tests))) c.loop-piece.yielded _ c.loop-piece.yielded_by _ _ c.in-None.is c.next.ensures.steps in
    placed-done int_lt (number_within c.args.line c.args.bounds) (pieces 44 c.args.text.now) c.loop-piece.numbers (length c.loop-piece.yielded) _
    (omega (arith, end.1)) c.loop-piece.invariant
