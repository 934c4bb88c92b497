use Rattle.rr_trip.proofs.SubjectLemmas.{pair_subject}
use Rattle.rr_trip.proofs.subject.pair_subject.Goals as goal

pub returns : goal.returns
returns c =
    pair_subject c.args.groups.now c.args.index c.args.found c.index-groups-index.result c.index-groups-found.result c.as_slice.result.now
    c.as_slice-2.result.now c.has_other_title.result c.requires.index c.index-groups-index.is c.requires.found c.index-groups-found.is
    c.as_slice.ensures.value c.as_slice-2.ensures.value c.has_other_title.ensures
