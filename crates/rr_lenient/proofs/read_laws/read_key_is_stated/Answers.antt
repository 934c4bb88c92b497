use Rattle.rr_lenient.proofs.KeyLemmas.{read_key_is_stated as law}
use Rattle.rr_lenient.proofs.read_laws.read_key_is_stated.Goals as goal

pub returns : goal.returns
returns c = law
