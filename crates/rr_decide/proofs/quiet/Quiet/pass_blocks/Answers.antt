use Rattle.std.proofs.Common.{inl, inr}
use Rattle.std.proofs.lemmas.Bool.{cases_lt}
use Rattle.rr_decide.proofs.quiet.Quiet.pass_blocks.Goals as goal

pub returns-in-Some-clause-has : goal.returns-in-Some-clause-has
returns-in-Some-clause-has c = λ k low high.
    elim (cases_lt k c.pass_alike-alike.result) [
      | inl l ↦ inl (c.pass_alike-alike.ensures.has k low l)
      | inr g ↦ inr (inl (rw c.in-Some.is (c.pass_blocks.ensures.has k g high)))
    ]
