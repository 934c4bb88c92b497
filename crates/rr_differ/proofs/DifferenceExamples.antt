-- The order of differences, and the first ones of two small sets, on examples.
use Rattle.std.proofs.Common.{◌≡◌, ◌⊎◌, inl, inr, ℤ, pos, [], ◌∷◌, Contains, refl, subst, sym, arith}
use Rattle.std.proofs.lemmas.Int.{ints}
use Rattle.std.proofs.lemmas.List.Elements.{All-cons, All-nil}
use Rattle.rr_model.specs.Moment.{Occurrences}
use Rattle.rr_model.specs.Sets.Verdict.{HoldsOnlyOf}
use Rattle.rr_model.specs.declared.kind.Kind.{Kind}
use Rattle.rr_model.specs.declared.kind.Kind.TheVariants.{Days, Moments}
use Rattle.rr_model.specs.declared.verdict.Side.{Side}
use Rattle.rr_model.specs.declared.verdict.Side.TheVariants.{A, B, Both}
use Rattle.rr_model.specs.declared.verdict.Verdict.TheVariants.{No}
use Rattle.rr_model.proofs.RisingSetLemmas.{Contains-head}
use Rattle.rr_differ.specs.Differences.{AreFirstDifferences, ComesBefore, IsDifference, IsNamedBy}
use Rattle.rr_differ.specs.declared.difference.Difference.{Difference}
use Rattle.rr_differ.proofs.OrderLemmas.{one_difference}

-- 2024-01-15, the moment at its midnight, and the date after it
abbrev date : Difference
date = record { kind = Days; at = pos 19_737; side = A }

abbrev midnight : Difference
midnight = record { kind = Moments; at = pos 1_705_276_800; side = B }

abbrev next_date : Difference
next_date = record { kind = Days; at = pos 19_738; side = A }

date_before_midnight : ComesBefore date midnight
date_before_midnight = inr (refl, refl, refl)

midnight_before_next_date : ComesBefore midnight next_date
midnight_before_next_date = inl (omega (arith, ints))

-- ---- two small sets

-- days 1 and 2
abbrev two_days : Occurrences
two_days k t = (k ≡ Days) × ((t ≡ pos 1) ⊎ (t ≡ pos 2))

-- day 2
abbrev one_day : Occurrences
one_day k t = (k ≡ Days) × (t ≡ pos 2)

abbrev day_1 : Difference
day_1 = record { kind = Days; at = pos 1; side = A }

lacks : one_day Days (pos 1) → ⊥
lacks h = (let e = h.1 in omega (arith, ints, e))

only_day_1 : (k : Kind) (t : ℤ) (side : Side) → HoldsOnlyOf side (two_days k t) (one_day k t)
    → ◌≡◌ {A = Difference} (record { kind = k; at = t; side = side }) day_1
only_day_1 k t A h = elim h.0.1 [ inl e ↦ one_difference k Days t (pos 1) A A h.0.0 e refl | inr e ↦ absurd (h.1 (h.0.0, e)) ]
only_day_1 k t B h = absurd (h.1 (h.0.0, inr h.0.1))
only_day_1 k t Both h = absurd h

-- of two differences that are asked for there is one
first_of_two : AreFirstDifferences two_days one_day 2 (day_1 ∷ [])
first_of_two = record {
  in_order = tt;
  few = omega arith;
  differ = All-cons (IsDifference two_days one_day) day_1 [] ((refl, inl refl), lacks) (All-nil (IsDifference two_days one_day));
  first = λ d h. inl (subst (Contains (day_1 ∷ [])) (sym (only_day_1 d.kind d.at d.side h)) (Contains-head day_1 []));
}

-- the verdict of equality is no with day 1
named : IsNamedBy (No Days (pos 1) A) (day_1 ∷ [])
named = ([], refl)
