-- Ends whose UNTIL is read as one of the start's kind.
use Rattle.std.proofs.Common.{◌≡◌, true, false, get_or, List, [], ◌∷◌, map, ℤ, refl, sym, ap, ◌∙◌, subst, arith}
use Rattle.std.specs.Prelude.{not}
use Rattle.std.specs.List.{All}
use Rattle.std.proofs.lemmas.Bool.{or_from, or_parts}
use Rattle.std.proofs.lemmas.List.{length-map}
use Rattle.std.proofs.lemmas.List.Elements.{All-map}
use Rattle.rr_model.specs.Moment.{day_part, is_same_kind, moment_at}
use Rattle.rr_model.specs.Moment.Years.{HasFourDigitYear, IsInYears}
use Rattle.rr_model.specs.Rule.Validity.{EndsInYears, HasCountInRange, IsValidRule}
use Rattle.rr_model.specs.Series.Validity.{IsValidSeries}
use Rattle.rr_model.specs.declared.kind.Kind.{Kind}
use Rattle.rr_model.specs.declared.kind.Kind.TheVariants.{Days, Moments}
use Rattle.rr_model.specs.declared.rule.End.{End}
use Rattle.rr_model.specs.declared.rule.End.TheVariants.{Never, Until, Count, Both}
use Rattle.rr_model.specs.declared.rule.Rule.{Rule}
use Rattle.rr_model.specs.declared.rule.Series.{Series}
use Rattle.rr_model.proofs.MomentLemmas.{day_part-moment_at}
use Rattle.rr_model.proofs.WithEndLemmas.{with_end-valid}
use Rattle.rr_lenient.specs.Ends.{is_other_end, any_other_end, has_other_end, until_of_kind, end_of_kind, rule_of_kind, with_ends_of_kind}

-- ---- one UNTIL

-- one of the start's kind stays
pub until_same : (kind other : Kind) (at : ℤ) → is_same_kind kind other ≡ true → at ≡ until_of_kind kind other at
until_same Days Days at h = refl
until_same Moments Moments at h = refl
until_same Days Moments at h = absurd (cc)
until_same Moments Days at h = absurd (cc)

-- one of another kind is the last of its day
pub until_other : (kind other : Kind) (at : ℤ) → is_same_kind kind other ≡ false → moment_at kind (day_part other at) 86_399 ≡ until_of_kind kind other at
until_other Days Days at h = absurd (cc)
until_other Moments Moments at h = absurd (cc)
until_other Days Moments at h = refl
until_other Moments Days at h = refl

-- it stays in the years 1 to 9999
pub until_in_years : (kind other : Kind) (at : ℤ) → IsInYears other at → IsInYears kind (until_of_kind kind other at)
until_in_years Days Days at h = h
until_in_years Moments Moments at h = h
until_in_years Days Moments at h = h
until_in_years Moments Days at h = subst HasFourDigitYear (sym (day_part-moment_at at 86_399 (omega arith))) h

-- ---- one end

pub end_stays : (kind : Kind) (end : End) → is_other_end kind end ≡ false → end_of_kind kind end ≡ end
end_stays kind Never h = refl
end_stays kind (Count n) h = refl
end_stays Days (Until Days at) h = refl
end_stays Moments (Until Moments at) h = refl
end_stays Days (Until Moments at) h = absurd (cc)
end_stays Moments (Until Days at) h = absurd (cc)
end_stays Days (Both Days at n) h = refl
end_stays Moments (Both Moments at n) h = refl
end_stays Days (Both Moments at n) h = absurd (cc)
end_stays Moments (Both Days at n) h = absurd (cc)

own_kind : (kind : Kind) → not (is_same_kind kind kind) ≡ false
own_kind Days = refl
own_kind Moments = refl

pub end_settled : (kind : Kind) (end : End) → is_other_end kind (end_of_kind kind end) ≡ false
end_settled kind Never = refl
end_settled kind (Count n) = refl
end_settled kind (Until other at) = own_kind kind
end_settled kind (Both other at n) = own_kind kind

end_count : (kind : Kind) (end : End) → HasCountInRange end → HasCountInRange (end_of_kind kind end)
end_count kind Never h = h
end_count kind (Count n) h = h
end_count kind (Until other at) h = h
end_count kind (Both other at n) h = h

end_in_years : (kind : Kind) (end : End) → EndsInYears end → EndsInYears (end_of_kind kind end)
end_in_years kind Never h = h
end_in_years kind (Count n) h = h
end_in_years kind (Until other at) h = until_in_years kind other at h
end_in_years kind (Both other at n) h = until_in_years kind other at h

-- ---- rules

pub rules_stay : (kind : Kind) (rules : List Rule) → any_other_end kind rules ≡ false → map (rule_of_kind kind) rules ≡ rules
rules_stay kind [] h = refl
rules_stay kind (rule ∷ rules) h =
    let p = or_parts (is_other_end kind rule.end) (any_other_end kind rules) h in
    ap (λ (end : End). record rule { end = end } ∷ map (rule_of_kind kind) rules) (end_stays kind rule.end p.0)
    ∙ ap (λ (more : List Rule). rule ∷ more) (rules_stay kind rules p.1)

pub rules_settled : (kind : Kind) (rules : List Rule) → any_other_end kind (map (rule_of_kind kind) rules) ≡ false
rules_settled kind [] = refl
rules_settled kind (rule ∷ rules) = or_from _ _ (end_settled kind rule.end) (rules_settled kind rules)

rules_valid : (kind : Kind) (rules : List Rule) → All (IsValidRule kind) rules → All (IsValidRule kind) (map (rule_of_kind kind) rules)
rules_valid kind rules v =
    All-map (IsValidRule kind) (rule_of_kind kind) rules
    (λ k d lt. let rule = get_or rules k d in with_end-valid kind rule (end_of_kind kind rule.end) (v k d lt) (end_count kind rule.end (v k d lt).count))

rules_in_years : (kind : Kind) (rules : List Rule) → All (λ (rule : Rule). EndsInYears rule.end) rules
    → All (λ (rule : Rule). EndsInYears rule.end) (map (rule_of_kind kind) rules)
rules_in_years kind rules v =
    All-map (λ (rule : Rule). EndsInYears rule.end) (rule_of_kind kind) rules (λ k d lt. end_in_years kind (get_or rules k d).end (v k d lt))

no_rules : (kind : Kind) (rules : List Rule) → rules ≡ [] → map (rule_of_kind kind) rules ≡ []
no_rules kind rules e = ap (map (rule_of_kind kind)) e

-- ---- series

-- a series without such an UNTIL is itself
pub series_stays : (series : Series) → has_other_end series ≡ false → with_ends_of_kind series ≡ series
series_stays series h =
    let p = or_parts (any_other_end series.kind series.rules) (any_other_end series.kind series.excluded) h in
    ap (λ (rules : List Rule). record series { rules = rules; excluded = map (rule_of_kind series.kind) series.excluded })
    (rules_stay series.kind series.rules p.0)
    ∙ ap (λ (excluded : List Rule). record series { excluded = excluded }) (rules_stay series.kind series.excluded p.1)

-- and there is none once they are read
pub series_settled : (series : Series) → has_other_end (with_ends_of_kind series) ≡ false
series_settled series = or_from _ _ (rules_settled series.kind series.rules) (rules_settled series.kind series.excluded)

pub series_valid : (series : Series) → IsValidSeries series → IsValidSeries (with_ends_of_kind series)
series_valid series v = record {
  start = v.start;
  start_counts = λ none. (let e = v.start_counts none in (e.0, e.1, no_rules series.kind series.rules e.2, no_rules series.kind series.excluded e.3, e.4, e.5));
  rules = rules_valid series.kind series.rules v.rules;
  excluded = rules_valid series.kind series.excluded v.excluded;
  few_rules = omega (arith, v.few_rules, length-map series.rules (rule_of_kind series.kind), length-map series.excluded (rule_of_kind series.kind));
  ends = rules_in_years series.kind series.rules v.ends;
  excluded_ends = rules_in_years series.kind series.excluded v.excluded_ends;
  plus = v.plus;
  minus = v.minus;
  plus_rises = v.plus_rises;
  minus_rises = v.minus_rises;
  few_dates = v.few_dates;
}
