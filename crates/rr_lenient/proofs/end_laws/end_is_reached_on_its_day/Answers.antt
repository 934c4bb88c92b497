use Rattle.rr_lenient.proofs.EndLawProofs.{end_is_reached_on_its_day as law}
use Rattle.rr_lenient.proofs.end_laws.end_is_reached_on_its_day.Goals as goal

pub returns : goal.returns
returns c = law
