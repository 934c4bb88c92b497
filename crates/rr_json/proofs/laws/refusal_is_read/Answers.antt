use Rattle.rr_json.proofs.LawLemmas.{refusal_is_read}
use Rattle.rr_json.proofs.laws.refusal_is_read.Goals as goal

pub returns : goal.returns
returns c = refusal_is_read
