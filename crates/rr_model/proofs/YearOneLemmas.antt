-- Each occurrence of a valid series lies in the year 1 or later.
use Rattle.std.proofs.Common.{inl, inr, List, [], ◌∷◌, ℤ, ◌≤ℤ◌, subst, sym, arith}
use Rattle.std.proofs.lemmas.Int.{ints}
use Rattle.std.proofs.lemmas.List.Elements.{All-contains}
use Rattle.rr_model.specs.Moment.{day_part}
use Rattle.rr_model.specs.Moment.Years.{IsFromYearOne, IsInYears}
use Rattle.rr_model.specs.Series.Occurrences.{IsMemberOfSome, Occurs}
use Rattle.rr_model.specs.declared.kind.Kind.{Kind}
use Rattle.rr_model.specs.declared.rule.Rule.{Rule}
use Rattle.rr_model.specs.Series.Validity.{IsValidSeries}
use Rattle.rr_model.specs.declared.rule.Series.{Series}
use Rattle.rr_model.proofs.OrderLemmas.{day_mono}

-- no member of a rule lies before the start
pub member_late : (rules : List Rule) (k : Kind) (start t : ℤ) → IsMemberOfSome rules k start t → start ≤ℤ t
member_late [] k start t h = absurd h
member_late (rule ∷ rules) k start t (inl h) = h.not_before
member_late (rule ∷ rules) k start t (inr h) = member_late rules k start t h

pub occurs_from_year_one : (series : Series) (k : Kind) (t : ℤ) → IsValidSeries series → Occurs series k t → IsFromYearOne (day_part k t)
occurs_from_year_one series k t v h =
    subst (λ (l : Kind). IsFromYearOne (day_part l t)) (sym h.kind)
    (elim h.stands [
      | inl start ↦ subst (λ (u : ℤ). IsFromYearOne (day_part series.kind u)) (sym start.1) v.start.0
      | inr (inl member) ↦
          let later = day_mono series.kind series.start t (member_late series.rules series.kind series.start t member) in
          omega (arith, ints, v.start.0, later)
      | inr (inr date) ↦ (All-contains (IsInYears series.kind) series.plus t v.plus date).0
    ])
