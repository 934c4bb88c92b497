use Rattle.rr_expand.proofs.KeyWeekLemmas.{equal_keys_have_equal_masks as law}
use Rattle.rr_expand.proofs.laws.equal_keys_have_equal_masks.Goals as goal

pub returns : goal.returns
returns c = law
