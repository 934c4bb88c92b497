-- A valid series of vCalendar 1.0 and its counterpart have the same occurrences.
use Rattle.std.proofs.Common.{◌≡◌, inl, inr, ℕ, zero, suc, ◌<◌, List, [], ◌∷◌, ◌++◌, take, length, get_or, refl, ap, arith, ℤ}
use Rattle.std.specs.List.{AllByRecursion}
use Rattle.std.proofs.lemmas.List.Elements.{recursion_from_All}
use Rattle.rr_model.specs.Series.Occurrences.{IsMemberOfSome}
use Rattle.rr_model.specs.Vcal.Counterpart.{rule_of_vrule, rules_of_vrules, series_of_vseries}
use Rattle.rr_model.specs.Vcal.Laws.{VcalCounterpartHasOccurrences}
use Rattle.rr_model.specs.Vcal.Members.{IsVcalMemberOfSome}
use Rattle.rr_model.specs.Vcal.Validity.{IsValidVRule}
use Rattle.rr_model.specs.declared.kind.Kind.{Kind}
use Rattle.rr_model.specs.declared.vcal.VRule.{VRule}
use Rattle.rr_vcal_laws.proofs.CounterpartProofs.{counterpart_has_members}

module _ (kind : Kind) (start t : ℤ) where
  some_member : (rules : List VRule) → AllByRecursion IsValidVRule rules → IsVcalMemberOfSome kind start t rules
      → IsMemberOfSome (rules_of_vrules kind start rules) kind start t
  some_member [] v m = absurd m
  some_member (rule ∷ rules) v (inl m) = inl ((counterpart_has_members rule kind start t v.0).0 m)
  some_member (rule ∷ rules) v (inr m) = inr (some_member rules v.1 m)

  some_vmember : (rules : List VRule) → AllByRecursion IsValidVRule rules → IsMemberOfSome (rules_of_vrules kind start rules) kind start t
      → IsVcalMemberOfSome kind start t rules
  some_vmember [] v m = absurd m
  some_vmember (rule ∷ rules) v (inl m) = inl ((counterpart_has_members rule kind start t v.0).1 m)
  some_vmember (rule ∷ rules) v (inr m) = inr (some_vmember rules v.1 m)

pub counterpart_has_occurrences : VcalCounterpartHasOccurrences
unfolding series_of_vseries
counterpart_has_occurrences series k t valid =
    let v = recursion_from_All IsValidVRule series.rules valid.rules in
    let x = recursion_from_All IsValidVRule series.excluded valid.excluded in (
      (λ o. record {
        kind = o.same_kind;
        stands = elim o.given [
          | inl s ↦ inl (refl, s)
          | inr m ↦ inr (elim m [ inl a ↦ inl (some_member series.kind series.start t series.rules v a) | inr p ↦ inr p ])
        ];
        not_excluded = λ m. o.not_excluded (some_vmember series.kind series.start t series.excluded x m);
        kept = o.kept;
      }),
      (λ o. record {
        same_kind = o.kind;
        given = elim o.stands [
          | inl s ↦ inl s.1
          | inr m ↦ inr (elim m [ inl a ↦ inl (some_vmember series.kind series.start t series.rules v a) | inr p ↦ inr p ])
        ];
        not_excluded = λ m. o.not_excluded (some_member series.kind series.start t series.excluded x m);
        kept = o.kept;
      }),
    )

-- one rule more
pub one_rule_more : (kind : Kind) (start : ℤ) (xs : List VRule) (i : ℕ) (d : VRule) → i < length xs
    → rules_of_vrules kind start (take i xs) ++ rule_of_vrule (get_or xs i d) kind start ∷ [] ≡ rules_of_vrules kind start (take (suc i) xs)
one_rule_more kind start [] i d l = absurd (omega arith)
one_rule_more kind start (x ∷ xs) zero d l = refl
one_rule_more kind start (x ∷ xs) (suc i) d l = ap (λ rs. rule_of_vrule x kind start ∷ rs) (one_rule_more kind start xs i d (omega arith))
