use Rattle.rr_rrule.proofs.WrittenSeriesLemmas.{calendar_is_read_back as law}
use Rattle.rr_rrule.proofs.laws.calendar_is_read_back.Goals as goal

pub returns : goal.returns
returns c = law
