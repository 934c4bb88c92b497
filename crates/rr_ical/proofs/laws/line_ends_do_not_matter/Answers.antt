use Rattle.rr_ical.proofs.LineEndLemmas.{line_ends_do_not_matter as law}
use Rattle.rr_ical.proofs.laws.line_ends_do_not_matter.Goals as goal

pub returns : goal.returns
returns c = law
