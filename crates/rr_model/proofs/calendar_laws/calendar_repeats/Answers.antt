use Rattle.rr_model.proofs.CalendarLawProofs.{calendar_repeats as law}
use Rattle.rr_model.proofs.calendar_laws.calendar_repeats.Goals as goal

pub returns : goal.returns
returns c = law
