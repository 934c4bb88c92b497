use Rattle.rr_decide.proofs.decide.verdict.Goals as goal

pub within-requires : goal.within-requires
within-requires g c = rw c.in-Within.is at c.requires

pub disjoint-requires : goal.disjoint-requires
disjoint-requires g c = rw c.in-Disjoint.is at c.requires
