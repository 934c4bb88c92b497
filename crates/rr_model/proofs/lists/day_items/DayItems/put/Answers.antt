use Rattle.std.proofs.Common.{◌≡◌}
use Rattle.rr_model.specs.Rising.{below_by, day_item_lt}
use Rattle.rr_model.specs.contracts.rule.DayItemOrd.TheImpl.{cmp-value}
use Rattle.rr_model.proofs.RisingLemmas.{day_item_same}
use Rattle.rr_model.proofs.lists.day_items.DayItems.put.Goals as goal

order : below_by cmp-value.it ≡ day_item_lt
order = λ i a b. day_item_same a b i

pub put_rising-requires : goal.put_rising-requires
put_rising-requires c = rw order c.self.invariant

pub invariant_of-self : goal.invariant_of-self
invariant_of-self c = rw order at c.put_rising.ensures.rises

pub returns-clause-ok : goal.returns-clause-ok
returns-clause-ok c = rw (← c.self.view_is) (rw order at c.put_rising.ensures.ok)
