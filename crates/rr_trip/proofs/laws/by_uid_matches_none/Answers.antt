use Rattle.rr_trip.proofs.UidLemmas.{by_uid_matches_none as law}
use Rattle.rr_trip.proofs.laws.by_uid_matches_none.Goals as goal

pub returns : goal.returns
returns c = law
