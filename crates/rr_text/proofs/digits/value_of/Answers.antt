use Rattle.std.proofs.Common.{◌+◌, arith}
use Rattle.rr_text.proofs.DigitLemmas.{digits_value_next, digits_value-front}
use Rattle.rr_text.proofs.digits.value_of.Goals as goal

pub returns-in_err-checked_mul : goal.returns-in_err-checked_mul
returns-in_err-checked_mul c =
    let i = c.loop-digit.digit-index in
    let digits = c.args.digits.now in
    let next = digits_value_next digits i c.loop-digit-test.true (c.requires i 0 c.loop-digit-test.true) in
    let front = digits_value-front digits (i + 1) in
    rw c.from_residual.ensures (omega (arith, next, front, c.loop-digit.invariant, c.in_err-checked_mul.ensures))

pub returns-in_err-value : goal.returns-in_err-value
returns-in_err-value c =
    let i = c.loop-digit.digit-index in
    let digits = c.args.digits.now in
    let next = digits_value_next digits i c.loop-digit-test.true (c.requires i 0 c.loop-digit-test.true) in
    let front = digits_value-front digits (i + 1) in
    rw c.from_residual-in_err-value.ensures
    (omega (arith, next, front, c.loop-digit.invariant, c.in_ok-checked_mul.ensures, c.from.ensures, c.in_err-value.ensures))

pub loop-digit-preserved : goal.loop-digit-preserved
loop-digit-preserved c =
    let i = c.loop-digit.digit-index in
    let digits = c.args.digits.now in
    let next = digits_value_next digits i c.loop-digit-test.true (c.requires i 0 c.loop-digit-test.true) in
    omega (arith, next, c.loop-digit.invariant, c.in_ok-checked_mul.ensures, c.from.ensures, c.in_ok-value.ensures)
