use Rattle.rr_canon.specs.declared.version.Version.TheVariants.{First}
use Rattle.rr_answer.proofs.CanonLemmas.{canon_tells_apart as law}
use Rattle.rr_answer.proofs.laws.first_version_tells_apart.Goals as goal

pub returns : goal.returns
returns c = law First
