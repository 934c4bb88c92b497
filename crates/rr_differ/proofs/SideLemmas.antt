-- Exactly one of two facts.
use Rattle.std.proofs.Common.{◌≡◌, ◌↔◌, ◌⊎◌, inl, inr, refl}
use Rattle.std.specs.Prelude.{IsTrue}
use Rattle.std.proofs.lemmas.Bool.{false≢true}
use Rattle.rr_model.specs.Sets.Verdict.{HoldsOn, HoldsOnlyOf}
use Rattle.rr_model.specs.declared.verdict.Side.{Side}
use Rattle.rr_model.specs.declared.verdict.Side.TheVariants.{A, B, Both}
use Rattle.rr_model.specs.declared.question.Question.TheVariants.{Equal}
use Rattle.rr_decide.specs.Question.{IsShown, shown_by}

pub only_some : (side : Side) (P Q : Type 0) → HoldsOnlyOf side P Q → P ⊎ Q
only_some A P Q h = inl h.0
only_some B P Q h = inr h.0
only_some Both P Q h = absurd h

-- it holds on one side
pub one_side : (side other : Side) (P Q : Type 0) → HoldsOnlyOf side P Q → HoldsOnlyOf other P Q → side ≡ other
one_side A A P Q h g = refl
one_side A B P Q h g = absurd (h.1 g.0)
one_side A Both P Q h g = absurd g
one_side B A P Q h g = absurd (h.1 g.0)
one_side B B P Q h g = refl
one_side B Both P Q h g = absurd g
one_side Both other P Q h g = absurd h

-- of two that are equal none is without the other
pub not_only : (side : Side) (P Q : Type 0) → P ↔ Q → HoldsOnlyOf side P Q → ⊥
not_only A P Q same h = h.1 (same.0 h.0)
not_only B P Q same h = h.1 (same.1 h.0)
not_only Both P Q same h = h

-- ---- as a question has it

pub shown_of_only : (side : Side) (P Q : Type 0) → HoldsOnlyOf side P Q → IsShown (shown_by Equal) P Q
shown_of_only A P Q h = (A, refl, h)
shown_of_only B P Q h = (B, refl, h)
shown_of_only Both P Q h = absurd h

pub only_of_shown : (side : Side) (P Q : Type 0) → IsTrue (shown_by Equal side) → HoldsOn side P Q → HoldsOnlyOf side P Q
only_of_shown A P Q t h = h
only_of_shown B P Q t h = h
only_of_shown Both P Q t h = absurd (false≢true t)
