-- Equal occurrences: each set has its own, and the sets may be turned round, and joined with a third.
use Rattle.rr_model.specs.Moment.{Occurrences}
use Rattle.rr_model.specs.Sets.Verdict.{HaveEqualOccurrences}

pub HaveEqualOccurrences-refl : (P : Occurrences) → HaveEqualOccurrences P P
HaveEqualOccurrences-refl P k t = ((λ p. p), (λ p. p))

pub HaveEqualOccurrences-sym : (P Q : Occurrences) → HaveEqualOccurrences P Q → HaveEqualOccurrences Q P
HaveEqualOccurrences-sym P Q a k t = ((a k t).1, (a k t).0)

pub HaveEqualOccurrences-trans : (P Q R : Occurrences) → HaveEqualOccurrences P Q → HaveEqualOccurrences Q R → HaveEqualOccurrences P R
HaveEqualOccurrences-trans P Q R a b k t = (λ p. (b k t).0 ((a k t).0 p), λ r. (a k t).1 ((b k t).1 r))
