use Rattle.std.proofs.Common.{◌≡◌, [], drop}
use Rattle.std.specs.Prelude.{int_lt}
use Rattle.rr_model.specs.Vcal.Counterpart.{values_of, year_day_of_item}
use Rattle.rr_vcal.proofs.counterpart.year_days_of.Given as goal

abbrev pub invariant-loop-item : goal.invariant-loop-item
invariant-loop-item l = values_of int_lt year_day_of_item l.days (drop l.item-index l.items) ≡ values_of int_lt year_day_of_item [] l.items
