use Rattle.rr_trip.proofs.pair.local_verdict.Goals as goal

pub returns-in-Other-clause-verdict : goal.returns-in-Other-clause-verdict
returns-in-Other-clause-verdict c = rw c.in-Other.is c.equal.ensures.verdict
