use Rattle.rr_model.proofs.WeekLemmas.{IsLastWeek-last_week as law}
use Rattle.rr_model.proofs.calendar_laws.last_week_is_greatest.Goals as goal

pub returns : goal.returns
returns c = law
