use Rattle.std.proofs.Common.{inl, inr}
use Rattle.rr_decide.proofs.long.next_alike.Goals as goal

pub returns-in-Some-Some : goal.returns-in-Some-Some
returns-in-Some-Some c = λ k low high. elim (c.with_number.ensures k low high) [ inl known ↦ inl known | inr e ↦ inr (cc, cc) ]
