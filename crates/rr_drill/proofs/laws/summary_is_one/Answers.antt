use Rattle.rr_drill.proofs.CountLemmas.{summary_is_one}
use Rattle.rr_drill.proofs.laws.summary_is_one.Goals as goal

pub returns : goal.returns
returns c = summary_is_one
