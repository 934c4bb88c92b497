use Rattle.std.proofs.Common.{◌≡◌, [], drop}
use Rattle.rr_model.specs.Rising.{day_item_lt}
use Rattle.rr_model.specs.Vcal.Counterpart.{values_of, day_of_item}
use Rattle.rr_vcal.proofs.counterpart.days_of.Given as goal

abbrev pub invariant-loop-item : goal.invariant-loop-item
invariant-loop-item l = values_of day_item_lt day_of_item l.days (drop l.item-index l.items) ≡ values_of day_item_lt day_of_item [] l.items
