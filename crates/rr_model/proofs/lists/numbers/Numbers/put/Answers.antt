use Rattle.rr_model.proofs.RisingLemmas.{int_order}
use Rattle.rr_model.proofs.lists.numbers.Numbers.put.Goals as goal

pub put_rising-requires : goal.put_rising-requires
put_rising-requires c = rw int_order c.self.invariant

pub invariant_of-self : goal.invariant_of-self
invariant_of-self c = rw int_order at c.put_rising.ensures.rises
