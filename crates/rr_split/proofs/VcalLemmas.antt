-- Events of vCalendar 1.0 with one rule: what they keep, and that they are taken out of a set.
use Rattle.std.proofs.Common.{◌↔◌, ℕ, ◌≤◌, List, [], All, Contains, get_or, length, inl, inr, ℤ, sym, subst, refl, arith}
use Rattle.std.proofs.lemmas.List.Elements.{All-nil, All-cons, Contains-get_or}
use Rattle.rr_family.specs.Profile.{IsFirstRule, IsProfileEnd, IsRuleOf, VcalOccurrences}
use Rattle.rr_model.specs.Moment.{Occurrences}
use Rattle.rr_model.specs.Moment.Years.{IsInYears}
use Rattle.rr_model.specs.Rule.Validity.{EndsInYears}
use Rattle.rr_model.specs.Sets.Sketch.{StandsFor, StandsIn}
use Rattle.rr_model.specs.Sets.Verdict.{HaveEqualOccurrences}
use Rattle.rr_model.specs.Vcal.Members.{IsVcalMember, OccursInVseries}
use Rattle.rr_model.specs.Vcal.Validity.{IsValidVRule, IsValidVSeries}
use Rattle.rr_model.specs.declared.kind.Kind.{Kind}
use Rattle.rr_model.specs.declared.rule.End.{End}
use Rattle.rr_model.specs.declared.rule.End.TheVariants.{Never, Until, Count, Both}
use Rattle.rr_model.specs.declared.sketch.Sketch.{Sketch}
use Rattle.rr_model.specs.declared.vcal.VRule.{VRule}
use Rattle.rr_model.proofs.EqualLemmas.{HaveEqualOccurrences-sym, HaveEqualOccurrences-trans}
use Rattle.rr_model.proofs.RisingSetLemmas.{Contains-none}
use Rattle.rr_plan.specs.Plan.{IsTakenBy}
use Rattle.rr_split.specs.Left.{IsBeyond, IsLeft}
use Rattle.rr_split.specs.Vcal.{IsRuleEvent, event_of}
use Rattle.rr_split.specs.declared.limits.TheConstants.{MAX_EXCEPTIONS}
use Rattle.rr_split.proofs.TakeLemmas.{not_all_out, taken_by, taken_out}

-- ---- the first rule of a set is that of its own occurrences

module _ (P Q : Occurrences) (same : HaveEqualOccurrences P Q) where
  rule_of : (rule : VRule) (kind : Kind) (start : ℤ) → IsRuleOf P rule kind start → IsRuleOf Q rule kind start
  rule_of rule kind start r =
      record { valid = r.valid; few = r.few; end = r.end; begins = r.begins; years = r.years; equal = HaveEqualOccurrences-trans _ P Q r.equal same }

module _ (P Q : Occurrences) (same : HaveEqualOccurrences P Q) where
  first_rule_of : (rule : VRule) (kind : Kind) (start : ℤ) → IsFirstRule P rule kind start → IsFirstRule Q rule kind start
  first_rule_of rule kind start f = record {
    is_rule = rule_of P Q same rule kind start f.is_rule;
    none_before = λ other k s r. f.none_before other k s (rule_of Q P (HaveEqualOccurrences-sym P Q same) other k s r);
    sketch = f.sketch;
    valid = f.valid;
    stands = HaveEqualOccurrences-trans _ P Q f.stands same;
    days = f.days;
    window = f.window;
    items = f.items;
    ends = f.ends;
  }

end_in_years : (end : End) → IsProfileEnd end → EndsInYears end
end_in_years Never e = tt
end_in_years (Count n) e = tt
end_in_years (Until kind at) e = absurd e
end_in_years (Both kind at n) e = absurd e

-- ---- an event with the rule

module _ (P : Occurrences) (rule : VRule) (kind : Kind) (start : ℤ) (first : IsFirstRule P rule kind start) where
  -- it has its own occurrences
  own : HaveEqualOccurrences P (VcalOccurrences rule kind start)
  own = HaveEqualOccurrences-sym (VcalOccurrences rule kind start) P first.is_rule.equal

  -- it keeps what is not taken out
  event_keeps : (minus : List ℤ) (k : Kind) (t : ℤ)
      → OccursInVseries (event_of rule kind start minus) k t ↔ (VcalOccurrences rule kind start k t × (Contains minus t → ⊥))
  event_keeps minus k t = (
    λ o. (
      (
        o.same_kind,
        elim o.given [
          | inl e ↦ subst (IsVcalMember rule kind start) (sym e) first.is_rule.begins
          | inr x ↦ elim x [ inl y ↦ elim y [ inl m ↦ m | inr none ↦ absurd none ] | inr c ↦ absurd (Contains-none t c) ]
        ],
      ),
      o.kept,
    ),
    λ m. record { same_kind = (m.0).0; given = inr (inl (inl (m.0).1)); kept = m.1; not_excluded = λ x. x },
  )

  event_valid : (minus : List ℤ) → All (IsInYears kind) minus → length minus ≤ MAX_EXCEPTIONS → IsValidVSeries (event_of rule kind start minus)
  event_valid minus years few = record {
    start = first.is_rule.years;
    rules = All-cons IsValidVRule rule [] first.is_rule.valid (All-nil IsValidVRule);
    excluded = All-nil IsValidVRule;
    few_rules = omega arith;
    ends = All-cons (λ rule. EndsInYears rule.end) rule [] (end_in_years rule.end first.is_rule.end) (All-nil (λ rule. EndsInYears rule.end));
    excluded_ends = All-nil (λ rule. EndsInYears rule.end);
    plus = All-nil (IsInYears kind);
    minus = years;
    few_dates = omega (arith, few);
  }

  -- nothing is taken out of the event with the rule alone
  pub whole_event : IsRuleEvent (event_of rule kind start [])
  whole_event = record {
    rule = rule;
    is = refl;
    first = first_rule_of P (VcalOccurrences rule kind start) own rule kind start first;
    valid = event_valid [] (All-nil (IsInYears kind)) (omega arith);
    rises = tt;
    cancelled = All-nil (IsVcalMember rule kind start);
    keeps = λ all. Contains-none start (all start first.is_rule.begins);
  }

  pub whole_event_has : HaveEqualOccurrences (OccursInVseries (event_of rule kind start [])) P
  whole_event_has k t = (
    (λ o. (first.is_rule.equal k t).0 (((event_keeps [] k t).0 o).0)),
    (λ p. (event_keeps [] k t).1 ((first.is_rule.equal k t).1 p, Contains-none t)),
  )

-- the event is taken out of a set
pub event_taken : (rest days left : Sketch) (rule : VRule) (kind : Kind) (start : ℤ) (n : ℕ) (minus : List ℤ) → IsFirstRule (StandsIn days) rule kind start
    → IsBeyond days rest n minus → All (IsInYears kind) minus → n ≤ MAX_EXCEPTIONS → IsLeft rest days left
    → IsTakenBy IsRuleEvent OccursInVseries (StandsIn rest) (event_of rule kind start minus) (StandsIn left)
event_taken rest days left rule kind start n minus first beyond years few of_left =
    let P = StandsIn days in
    let E = VcalOccurrences rule kind start in
    let of_event : StandsFor days E = own P rule kind start first in
    let short = beyond.few in
    let out = taken_out rest days left E n minus of_event beyond of_left in
    taken_by rest days left E n minus of_event beyond of_left IsRuleEvent OccursInVseries (event_of rule kind start minus)
    (record {
      rule = rule;
      is = refl;
      first = first_rule_of P E of_event rule kind start first;
      valid = event_valid P rule kind start first minus years (omega (arith, few, short));
      rises = beyond.rises;
      cancelled = λ i d l. (out (get_or minus i d) (Contains-get_or minus i d l)).1;
      keeps = λ all. not_all_out rest days left E n minus of_event beyond of_left (λ t e. all t e.1);
    })
    (event_keeps P rule kind start first minus)
