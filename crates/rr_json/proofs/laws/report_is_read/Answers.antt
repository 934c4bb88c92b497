use Rattle.rr_json.proofs.LawLemmas.{report_is_read}
use Rattle.rr_json.proofs.laws.report_is_read.Goals as goal

pub returns : goal.returns
returns c = report_is_read
