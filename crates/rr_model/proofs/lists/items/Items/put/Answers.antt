use Rattle.std.proofs.Common.{◌≡◌}
use Rattle.rr_model.specs.Rising.{below_by}
use Rattle.rr_model.specs.Vcal.Items.{item_lt}
use Rattle.rr_model.specs.contracts.item.ItemOrd.TheImpl.{cmp-value}
use Rattle.rr_model.proofs.ItemLemmas.{item_same}
use Rattle.rr_model.proofs.lists.items.Items.put.Goals as goal

order : below_by cmp-value.it ≡ item_lt
order = λ i a b. item_same a b i

pub put_rising-requires : goal.put_rising-requires
put_rising-requires c = rw order c.self.invariant

pub invariant_of-self : goal.invariant_of-self
invariant_of-self c = rw order at c.put_rising.ensures.rises

pub returns-clause-ok : goal.returns-clause-ok
returns-clause-ok c = rw (← c.self.view_is) (rw order at c.put_rising.ensures.ok)
