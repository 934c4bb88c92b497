use Rattle.rr_canon.proofs.StretchTextLemmas.{second_version_tells}
use Rattle.rr_canon.proofs.laws.second_version_tells_sets_apart.Goals as goal

pub returns : goal.returns
returns c = second_version_tells
