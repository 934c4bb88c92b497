use Rattle.std.proofs.Common.{◌≡◌, [], drop}
use Rattle.std.specs.Prelude.{int_lt}
use Rattle.rr_model.specs.Vcal.Counterpart.{values_of, month_of_item}
use Rattle.rr_vcal.proofs.counterpart.months_of.Given as goal

abbrev pub invariant-loop-item : goal.invariant-loop-item
invariant-loop-item l = values_of int_lt month_of_item l.months (drop l.item-index l.items) ≡ values_of int_lt month_of_item [] l.items
