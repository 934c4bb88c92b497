use Rattle.rr_vcal.proofs.ValidReadLemmas.{answer-valid}
use Rattle.rr_vcal.proofs.calendar.read.Goals as goal

pub returns-clause-valid : goal.returns-clause-valid
returns-clause-valid c = answer-valid c.args.offset c.args.bytes.now c.read_text.result c.read_text.ensures
