-- Plans of events of vCalendar 1.0: of one rule alone, and of events that were taken one after another.
use Rattle.std.proofs.Common.{◌≡◌, ℕ, ◌+◌, ◌≤◌, List, [], ◌∷◌, All, length, ℤ, refl, sym, ap, subst, ◌∙◌, arith}
use Rattle.std.specs.Prelude.{None, Some, int_lt}
use Rattle.std.proofs.lemmas.List.Elements.{All-nil}
use Rattle.rr_family.proofs.FirstLemmas.{one_first_rule}
use Rattle.rr_find.specs.Found.{IsFound}
use Rattle.rr_find.specs.declared.found.Found.{Found}
use Rattle.rr_model.specs.Moment.Years.{IsInYears}
use Rattle.rr_model.specs.Rising.{Rises}
use Rattle.rr_model.specs.Sets.Sketch.{StandsIn}
use Rattle.rr_model.specs.Sets.Verdict.{HaveEqualOccurrences}
use Rattle.rr_model.specs.Vcal.Members.{OccursInVseries}
use Rattle.rr_model.specs.declared.kind.Kind.{Kind}
use Rattle.rr_model.specs.declared.sketch.Sketch.{Sketch}
use Rattle.rr_model.specs.declared.vcal.VSeries.{VSeries}
use Rattle.rr_model.proofs.RisingSetLemmas.{Contains-none}
use Rattle.rr_plan.specs.Few.{IsOneOf}
use Rattle.rr_plan.specs.Plan.{IsSplitBy}
use Rattle.rr_plan.proofs.SplitLemmas.{split_alone, split_begins}
use Rattle.rr_split.specs.Vcal.{HasOneOutside, HasOutsideOfYears, IsRuleAlone, IsRuleEvent, IsVcalPlanOf, event_of, many_taken_out}
use Rattle.rr_split.specs.declared.limits.TheConstants.{MAX_EXCEPTIONS}
use Rattle.rr_split.specs.declared.vcal.VcalPlan.{VcalPlan}
use Rattle.rr_split.proofs.SoFarLemmas.{split_into_single}
use Rattle.rr_split.proofs.VcalLemmas.{whole_event, whole_event_has}

-- what is taken out of an event
abbrev pub minus_of : VSeries → List ℤ
minus_of event = event.minus

-- only one rule is found, and its event is that of the other
same_event : (s : Sketch) (a b : Found) → IsFound (StandsIn s) (Some a) → IsFound (StandsIn s) (Some b)
    → event_of a.rule a.kind a.start [] ≡ event_of b.rule b.kind b.start []
same_event s a b first other =
    let same = one_first_rule (StandsIn s) a.rule b.rule a.kind b.kind a.start b.start first other in
    λ i. event_of (same.0 i) (same.1 i) (same.2 i) []

-- the plan of the rule that is found is its event alone
pub alone_is_plan : (s : Sketch) (most : ℕ) (found : Found) (plan : VcalPlan) → 1 ≤ most → IsFound (StandsIn s) (Some found) → IsRuleAlone found plan
    → plan.kind ≡ s.kind → IsVcalPlanOf most s plan
alone_is_plan s most found plan some first alone of_kind =
    let events = alone.events in
    let single = alone.single in
    let one : length plan.events.items ≡ 1 = ap length events in
    let none : length plan.single ≡ 0 = ap length single in
    let kept : many_taken_out plan.events.items ≡ 0 = ap many_taken_out events in
    let event = event_of found.rule found.kind found.start [] in
    let whole : IsSplitBy IsRuleEvent OccursInVseries (StandsIn s) (event ∷ []) (IsOneOf plan.kind []) =
    split_alone IsRuleEvent OccursInVseries (StandsIn s) (IsOneOf plan.kind []) event (whole_event (StandsIn s) found.rule found.kind found.start first)
    (whole_event_has (StandsIn s) found.rule found.kind found.start first) (λ k t none. Contains-none t none.there) in
    record {
      split = subst (λ es. IsSplitBy IsRuleEvent OccursInVseries (StandsIn s) es (IsOneOf plan.kind plan.single)) (sym events)
          (subst (λ ts. IsSplitBy IsRuleEvent OccursInVseries (StandsIn s) (event ∷ []) (IsOneOf plan.kind ts)) (sym single) whole);
      few = omega (arith, one, some);
      few_exceptions = omega (arith, none, kept);
      rises = subst (Rises int_lt) (sym single) tt;
      years = subst (All (IsInYears plan.kind)) (sym single) (All-nil (IsInYears plan.kind));
      kind = of_kind;
      alone = λ other it. record { events = events ∙ ap (λ (e : VSeries). e ∷ []) (same_event s found other first it); single = single };
    }

-- events that were taken, and what is left
pub events_are_plan : (s rest : Sketch) (most room : ℕ) (plan : VcalPlan) → IsFound (StandsIn s) None
    → IsSplitBy IsRuleEvent OccursInVseries (StandsIn s) plan.events.items (StandsIn rest)
    → HaveEqualOccurrences (IsOneOf rest.kind plan.single) (StandsIn rest) → plan.kind ≡ s.kind → length plan.events.items ≤ most
    → many_taken_out plan.events.items + room ≡ MAX_EXCEPTIONS → length plan.single ≤ room → Rises int_lt plan.single
    → All (IsInYears plan.kind) plan.single → IsVcalPlanOf most s plan
events_are_plan s rest most room plan none split equal of_kind few many single rises years = record {
  split = split_into_single IsRuleEvent OccursInVseries minus_of s rest plan.events.items plan.single split equal plan.kind of_kind;
  few = few;
  few_exceptions = omega (arith, many, single);
  rises = rises;
  years = years;
  kind = of_kind;
  alone = λ found it. absurd (none found.rule found.kind found.start it.is_rule);
}

-- all occurrences are single
pub single_is_plan : (s : Sketch) (most : ℕ) (plan : VcalPlan) → IsFound (StandsIn s) None → plan.events.items ≡ []
    → HaveEqualOccurrences (IsOneOf s.kind plan.single) (StandsIn s) → plan.kind ≡ s.kind → length plan.single ≤ MAX_EXCEPTIONS
    → Rises int_lt plan.single → All (IsInYears plan.kind) plan.single → IsVcalPlanOf most s plan
single_is_plan s most plan none no_events equal of_kind few rises years =
    let long : length plan.events.items ≡ 0 = ap length no_events in
    let kept : many_taken_out plan.events.items ≡ 0 = ap many_taken_out no_events in
    events_are_plan s s most MAX_EXCEPTIONS plan none
    (subst (λ es. IsSplitBy IsRuleEvent OccursInVseries (StandsIn s) es (StandsIn s)) (sym no_events)
    (split_begins IsRuleEvent OccursInVseries (StandsIn s))) equal of_kind (omega (arith, long)) (omega (arith, kept)) few rises years

-- one of the few occurrences of a set lies outside of the years
pub outside_of_years : (s : Sketch) (kind : Kind) (moments : List ℤ) → HaveEqualOccurrences (IsOneOf s.kind moments) (StandsIn s) → kind ≡ s.kind
    → HasOneOutside kind moments → HasOutsideOfYears s
outside_of_years s kind moments equal of_kind one =
    (one.0, (equal s.kind one.0).0 (record { same_kind = refl; there = one.1 }), subst (λ k. IsInYears k one.0 → ⊥) of_kind one.2)
