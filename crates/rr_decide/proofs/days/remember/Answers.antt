use Rattle.std.proofs.Common.{ℕ, inl, inr, subst}
use Rattle.std.specs.Prelude.{Option}
use Rattle.rr_decide.specs.Quiet.{IsAlike}
use Rattle.rr_decide.proofs.days.remember.Goals as goal

pub alike_after-alike-requires-clause-alike : goal.alike_after-alike-requires-clause-alike
alike_after-alike-requires-clause-alike g c = λ x y h. c.requires.quiet x y (inl (subst (λ (o : Option ℕ). IsAlike o x y) c.alike_bound.ensures h))

pub returns-in-Some-Some : goal.returns-in-Some-Some
returns-in-Some-Some g c = λ x y h.
    elim (c.learn.ensures x y h) [
      | inl old ↦ c.requires.quiet x y old
      | inr new ↦ elim new [
        | inl is ↦ rw (is.0, is.1) (c.requires.pair c.in-Some-Some.of_a c.in-Some-Some.of_b c.in-Some-Some.is-0 c.in-Some-Some.is-1)
        | inr alike ↦ c.alike_after-alike.ensures x y alike
      ]
    ]
