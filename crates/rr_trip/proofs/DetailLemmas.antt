-- What a page says beside a line.
use Rattle.std.proofs.Common.{inl, inr, Option, None, Some, subst}
use Rattle.rr_model.specs.declared.verdict.Side.TheVariants.{A, B, Both}
use Rattle.rr_seam.specs.Stated.{Stated}
use Rattle.rr_trip.specs.Details.{IsDifferenceBy, IsDifferenceFor, IsDifferenceOfJudged}
use Rattle.rr_trip.specs.Pairs.{IsJudged, IsJudgedBoth}
use Rattle.rr_trip.specs.declared.detail.Difference.{Difference}
use Rattle.rr_trip.specs.declared.pair.Judged.{Judged}
use Rattle.rr_trip.specs.declared.pair.Judged.TheVariants.{Told, Compared}
use Rattle.rr_trip.specs.declared.said.Said.TheVariants as said
use Rattle.rr_trip.proofs.ShownLemmas.{pair_of_both}

of_both : (a b : Stated) (j : Judged) (difference : Option Difference) → IsJudgedBoth a b j → IsDifferenceOfJudged j difference
    → IsDifferenceFor (Some a) (Some b) difference
of_both a b (Told (said.Only side)) difference h d = absurd h
of_both a b (Told (said.Refused A refusal)) difference h d = inl (inl (refusal, h.refused), d)
of_both a b (Told (said.Refused B refusal)) difference h d = inl (inr (refusal, h.refused), d)
of_both a b (Told (said.Refused Both refusal)) difference h d = absurd h
of_both a b (Told (said.Alike refusal)) difference h d = inl (inl (refusal, h.refused), d)
of_both a b (Told (said.Floating side)) difference h d = absurd h
of_both a b (Told (said.Length other)) difference h d = absurd h
of_both a b (Told (said.Compared verdict zones)) difference h d = absurd h
of_both a b (Compared pair) difference h d =
    inr (pair_of_both (λ verdict days_a days_b. IsDifferenceBy verdict days_a days_b difference) a b pair h d)

-- if what is known of a key differs, what its events state does
pub difference_is : (a b : Option Stated) (j : Judged) (difference : Option Difference) → IsJudged a b j → IsDifferenceOfJudged j difference
    → IsDifferenceFor a b difference
difference_is None None j difference h d = subst (λ k. IsDifferenceOfJudged k difference) h d
difference_is (Some a) None j difference h d = subst (λ k. IsDifferenceOfJudged k difference) h d
difference_is None (Some b) j difference h d = subst (λ k. IsDifferenceOfJudged k difference) h d
difference_is (Some a) (Some b) j difference h d = of_both a b j difference h d
