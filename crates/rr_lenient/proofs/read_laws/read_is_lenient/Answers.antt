use Rattle.rr_lenient.proofs.ReadLemmas.{read_is_lenient as law}
use Rattle.rr_lenient.proofs.read_laws.read_is_lenient.Goals as goal

pub returns : goal.returns
returns c = law
