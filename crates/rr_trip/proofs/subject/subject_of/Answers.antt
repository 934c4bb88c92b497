use Rattle.rr_trip.proofs.SubjectLemmas.{own_subject}
use Rattle.rr_trip.proofs.subject.subject_of.Goals as goal

pub returns-in-None : goal.returns-in-None
returns-in-None c =
    rw c.in-None.is (own_subject c.args.groups.now c.args.index c.index-groups-index.result c.as_slice.result.now c.as_slice-in-None.result.now
    c.requires.index c.index-groups-index.is c.as_slice.ensures.value c.as_slice-in-None.ensures.value)
