-- The counterpart of a valid series of vCalendar 1.0 is a valid series.
use Rattle.std.proofs.Common.{◌≡◌, ℕ, suc, ◌+◌, ◌≤◌, true, List, [], ◌∷◌, length, refl, ap, ◌∙◌, sym, subst, ℤ, arith}
use Rattle.std.specs.Prelude.{int_lt, All}
use Rattle.std.specs.List.{AllByRecursion}
use Rattle.std.proofs.lemmas.List.Elements.{recursion_from_All, All-from_recursion}
use Rattle.rr_model.specs.Moment.Years.{IsInYears}
use Rattle.rr_model.specs.Rising.{Rises}
use Rattle.rr_model.specs.Rule.Validity.{IsValidRule, EndsInYears}
use Rattle.rr_model.specs.Series.Validity.{IsValidSeries}
use Rattle.rr_model.specs.Vcal.Counterpart.{rule_of_vrule, rules_of_vrules, series_of_vseries}
use Rattle.rr_model.specs.Vcal.Validity.{IsValidVRule, IsValidVSeries}
use Rattle.rr_model.specs.declared.kind.Kind.{Kind}
use Rattle.rr_model.specs.declared.limits.TheConstants.{MAX_DATES}
use Rattle.rr_model.specs.declared.rule.Rule.{Rule}
use Rattle.rr_model.specs.declared.vcal.VRule.{VRule}
use Rattle.rr_model.specs.declared.vcal.VSeries.{VSeries}
use Rattle.rr_vcal_laws.proofs.ValidRuleLemmas.{counterpart_is_valid}

abbrev EndIsInYears : Rule → Type 0
EndIsInYears rule = EndsInYears rule.end

abbrev HasEndInYears : VRule → Type 0
HasEndInYears rule = EndsInYears rule.end

module _ (kind : Kind) (start : ℤ) where
  all_valid : (rules : List VRule) → AllByRecursion IsValidVRule rules → AllByRecursion (IsValidRule kind) (rules_of_vrules kind start rules)
  all_valid [] h = tt
  all_valid (rule ∷ rules) h = (counterpart_is_valid rule kind start h.0, all_valid rules h.1)

  same_end : (rule : VRule) → (rule_of_vrule rule kind start).end ≡ rule.end
  unfolding rule_of_vrule
  same_end rule = refl

  all_end : (rules : List VRule) → AllByRecursion HasEndInYears rules → AllByRecursion EndIsInYears (rules_of_vrules kind start rules)
  all_end [] h = tt
  all_end (rule ∷ rules) h = (subst EndsInYears (sym (same_end rule)) h.0, all_end rules h.1)

  same_length : (rules : List VRule) → length (rules_of_vrules kind start rules) ≡ length rules
  same_length [] = refl
  same_length (rule ∷ rules) = ap (λ (n : ℕ). suc n) (same_length rules)

-- a series with the parts of the counterpart is the counterpart
pub series_is : (series : VSeries) (start : ℤ) (rules excluded : List Rule) (plus minus : List ℤ) → start ≡ series.start
    → rules ≡ rules_of_vrules series.kind series.start series.rules → excluded ≡ rules_of_vrules series.kind series.start series.excluded
    → plus ≡ series.plus → minus ≡ series.minus
    → series_of_vseries series
    ≡ record { kind = series.kind; start = start; start_counts = true; rules = rules; excluded = excluded; plus = plus; minus = minus }
unfolding series_of_vseries
series_is series start rules excluded plus minus same made out added taken =
    sym (λ i. record { kind = series.kind; start = same i; start_counts = true; rules = made i; excluded = out i; plus = added i; minus = taken i })

-- and it is valid
pub series_is_valid : (series : VSeries) (start : ℤ) (rules excluded : List Rule) (plus minus : List ℤ) → start ≡ series.start
    → rules ≡ rules_of_vrules series.kind series.start series.rules → excluded ≡ rules_of_vrules series.kind series.start series.excluded
    → plus ≡ series.plus → minus ≡ series.minus → Rises int_lt plus → Rises int_lt minus
    → IsValidVSeries series
    → IsValidSeries (record { kind = series.kind; start = start; start_counts = true; rules = rules; excluded = excluded; plus = plus; minus = minus })
series_is_valid series start rules excluded plus minus same made out added taken plus_rises minus_rises valid = record {
  start = subst (IsInYears series.kind) (sym same) valid.start;
  start_counts = λ e. absurd (cc);
  rules =
      subst (All (IsValidRule series.kind)) (sym made) (All-from_recursion _ _
      (all_valid series.kind series.start series.rules (recursion_from_All _ series.rules valid.rules)));
  excluded =
      subst (All (IsValidRule series.kind)) (sym out) (All-from_recursion _ _
      (all_valid series.kind series.start series.excluded (recursion_from_All _ series.excluded valid.excluded)));
  few_rules =
      let given = ap length made ∙ same_length series.kind series.start series.rules in
      let left_out = ap length out ∙ same_length series.kind series.start series.excluded in
      omega (arith, given, left_out, valid.few_rules);
  ends =
      subst (All EndIsInYears) (sym made) (All-from_recursion _ _ (all_end series.kind series.start series.rules
      (recursion_from_All HasEndInYears series.rules valid.ends)));
  excluded_ends =
      subst (All EndIsInYears) (sym out) (All-from_recursion _ _ (all_end series.kind series.start series.excluded
      (recursion_from_All HasEndInYears series.excluded valid.excluded_ends)));
  plus = subst (All (IsInYears series.kind)) (sym added) valid.plus;
  minus = subst (All (IsInYears series.kind)) (sym taken) valid.minus;
  plus_rises = plus_rises;
  minus_rises = minus_rises;
  few_dates =
      subst (λ (l : List ℤ). length l + length minus ≤ MAX_DATES) (sym added)
      (subst (λ (l : List ℤ). length series.plus + length l ≤ MAX_DATES) (sym taken) valid.few_dates);
}
