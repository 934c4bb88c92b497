use Rattle.rr_trip.proofs.ZoneLemmas.{local_printable, local_said}
use Rattle.rr_trip.proofs.zones.said_locally.Goals as goal

pub returns-clause-said : goal.returns-clause-said
returns-clause-said c = local_said c.args.pair.now c.requires c.args.zones

pub returns-clause-printable : goal.returns-clause-printable
returns-clause-printable c = λ h. local_printable c.args.pair.now c.requires c.args.zones h
