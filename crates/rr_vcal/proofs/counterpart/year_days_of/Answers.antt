use Rattle.std.proofs.Common.{subst}
use Rattle.rr_model.specs.declared.item.Item.TheVariants.{Every}
use Rattle.rr_vcal_laws.specs.Numbers.{HasDayOfYear}
use Rattle.rr_vcal.proofs.counterpart.year_days_of.Goals as goal

pub as_number-requires : goal.as_number-requires
as_number-requires c = subst HasDayOfYear c.in-YearDay.is (c.requires c.loop-item.item-index Every c.loop-item-test.true)
