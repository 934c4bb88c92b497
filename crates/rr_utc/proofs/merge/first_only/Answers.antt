use Rattle.std.proofs.Common.{Some, w64, pos, get_or, FitsSigned, sym, subst, arith, rules}
use Rattle.std.proofs.lemmas.Int.{to_z-of_z}
use Rattle.rr_model.specs.declared.verdict.Side.TheVariants.{A, B}
use Rattle.rr_utc.specs.Between.{IsFirstOnly}
use Rattle.rr_utc.proofs.MergeLemmas.{as_stored_equal, as_stored_less, less_at_a, less_at_b, next_passed, none_passed, of_rests, one_rest}
use Rattle.rr_utc.proofs.merge.first_only.Goals as goal

pub loop-i-init : goal.loop-i-init
loop-i-init c = none_passed c.args.xs.now c.args.ys.now c.requires.xs c.requires.ys

pub returns-then-xs-i : goal.returns-then-xs-i
returns-then-xs-i c =
    let xs = c.args.xs.now in
    let ys = c.args.ys.now in
    let i = c.loop-i.i in
    let x : FitsSigned w64 (get_or xs i (pos 0)) = search rules in
    let y : FitsSigned w64 (get_or ys i (pos 0)) = search rules in
    let less = as_stored_less (get_or xs i (pos 0)) (get_or ys i (pos 0)) x y c.if-xs-i.true in
    subst (λ z. IsFirstOnly xs ys (Some (record { at = z; side = A }))) (sym (to_z-of_z w64 (get_or xs i (pos 0)) x))
    (less_at_a xs ys i c.loop-i.invariant (omega (arith, c.min-both.ensures)) (omega (arith, c.min-both.ensures)) less)

pub returns-then-ys-i : goal.returns-then-ys-i
returns-then-ys-i c =
    let xs = c.args.xs.now in
    let ys = c.args.ys.now in
    let i = c.loop-i.i in
    let x : FitsSigned w64 (get_or xs i (pos 0)) = search rules in
    let y : FitsSigned w64 (get_or ys i (pos 0)) = search rules in
    let less = as_stored_less (get_or ys i (pos 0)) (get_or xs i (pos 0)) y x c.if-ys-i.true in
    subst (λ z. IsFirstOnly xs ys (Some (record { at = z; side = B }))) (sym (to_z-of_z w64 (get_or ys i (pos 0)) y))
    (less_at_b xs ys i c.loop-i.invariant (omega (arith, c.min-both.ensures)) (omega (arith, c.min-both.ensures)) less)

pub loop-i-preserved : goal.loop-i-preserved
loop-i-preserved c =
    let xs = c.args.xs.now in
    let ys = c.args.ys.now in
    let i = c.loop-i.i in
    let x : FitsSigned w64 (get_or xs i (pos 0)) = search rules in
    let y : FitsSigned w64 (get_or ys i (pos 0)) = search rules in
    next_passed xs ys i c.loop-i.invariant (omega (arith, c.min-both.ensures)) (omega (arith, c.min-both.ensures))
    (as_stored_equal (get_or xs i (pos 0)) (get_or ys i (pos 0)) x y c.if-xs-i.false c.if-ys-i.false)

pub first_left-requires-clause-one : goal.first_left-requires-clause-one
first_left-requires-clause-one c = one_rest c.args.xs.now c.args.ys.now c.min-both.result c.min-both.ensures

pub returns : goal.returns
returns c =
    of_rests c.args.xs.now c.args.ys.now c.min-both.result c.loop-i.i c.first_left.result (omega (arith, c.loop-i.auto.i-end, c.loop-i-test.false)) c.loop-i.invariant c.first_left.ensures
