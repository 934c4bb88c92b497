use Rattle.std.proofs.Common.{inl, inr, arith}
use Rattle.rr_decide.proofs.quiet.Quiet.new.Goals as goal

pub returns : goal.returns
returns c = λ a b h. elim h [ inl alike ↦ omega (arith, alike.1) | inr other ↦ elim other [ inl recent ↦ absurd recent | inr placed ↦ absurd placed ] ]
