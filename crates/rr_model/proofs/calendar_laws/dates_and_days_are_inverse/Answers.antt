use Rattle.rr_model.proofs.CalendarLawProofs.{dates_and_days_are_inverse as law}
use Rattle.rr_model.proofs.calendar_laws.dates_and_days_are_inverse.Goals as goal

pub returns : goal.returns
returns c = law
