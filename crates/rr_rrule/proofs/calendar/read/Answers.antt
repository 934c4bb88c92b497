use Rattle.rr_rrule.proofs.BesideLemmas.{text-valid}
use Rattle.rr_rrule.proofs.calendar.read.Goals as goal

pub returns-clause-valid : goal.returns-clause-valid
returns-clause-valid c = text-valid c.args.offset c.args.bytes.now c.read_text.result c.read_text.ensures
