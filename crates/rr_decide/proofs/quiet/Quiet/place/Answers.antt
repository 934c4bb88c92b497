use Rattle.std.proofs.Common.{inl, inr}
use Rattle.rr_decide.proofs.quiet.Quiet.place.Goals as goal

pub returns-in-Some-clause-placed : goal.returns-in-Some-clause-placed
returns-in-Some-clause-placed c = λ a b h. elim ((c.put.ensures a b).0 h) [ inl new ↦ inr new | inr old ↦ inl (rw c.in-Some.is old.0) ]
