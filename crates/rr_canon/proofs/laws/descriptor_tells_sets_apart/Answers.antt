use Rattle.rr_canon.proofs.PrintableLemmas.{descriptor_text_tells}
use Rattle.rr_canon.proofs.laws.descriptor_tells_sets_apart.Goals as goal

pub returns : goal.returns
returns c = descriptor_text_tells
