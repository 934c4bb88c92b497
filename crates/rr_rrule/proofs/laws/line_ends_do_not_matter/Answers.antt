use Rattle.rr_rrule.proofs.LineEndProofs.{line_ends_do_not_matter as law}
use Rattle.rr_rrule.proofs.laws.line_ends_do_not_matter.Goals as goal

pub returns : goal.returns
returns c = law
