-- What holds on one side of a comparison, or on both.
use Rattle.std.proofs.Common.{◌↔◌, ◌⊎◌, inl, inr}
use Rattle.rr_model.specs.Sets.Verdict.{HoldsOn, HoldsOnlyOf}
use Rattle.rr_model.specs.declared.verdict.Side.{Side}
use Rattle.rr_model.specs.declared.verdict.Side.TheVariants.{A, B, Both}

-- one at least holds
pub HoldsOn-some : (side : Side) (P Q : Type 0) → HoldsOn side P Q → P ⊎ Q
HoldsOn-some A P Q h = inl h.0
HoldsOn-some B P Q h = inr h.0
HoldsOn-some Both P Q h = inl h.0

-- what is the same holds on the same side
pub HoldsOnlyOf-same : (side : Side) (P P' Q Q' : Type 0) → (P ↔ P') → (Q ↔ Q') → HoldsOnlyOf side P Q → HoldsOnlyOf side P' Q'
HoldsOnlyOf-same A P P' Q Q' f g h = (f.0 h.0, λ q. h.1 (g.1 q))
HoldsOnlyOf-same B P P' Q Q' f g h = (g.0 h.0, λ p. h.1 (f.1 p))
HoldsOnlyOf-same Both P P' Q Q' f g h = h

pub both_ways : (P P' Q Q' : Type 0) → (P ↔ P') → (Q ↔ Q') → (P ↔ Q) → P' ↔ Q'
both_ways P P' Q Q' f g h = ((λ p. g.0 (h.0 (f.1 p))), (λ q. f.0 (h.1 (g.1 q))))
