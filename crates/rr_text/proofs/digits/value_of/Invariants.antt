use Rattle.std.proofs.Common.{◌≡◌, take}
use Rattle.rr_model.specs.Text.Digits.{digits_value}
use Rattle.rr_text.proofs.digits.value_of.Given as goal

abbrev pub invariant-loop-digit : goal.invariant-loop-digit
invariant-loop-digit l = l.value ≡ digits_value (take l.digit-index l.digits)
