use Rattle.rr_family.proofs.OrderLemmas.{list_items_rise as law}
use Rattle.rr_family.proofs.laws.list_items_rise.Goals as goal

pub returns : goal.returns
returns c = law
