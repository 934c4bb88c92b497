-- Plans: of one event alone, and of parts that were taken one after another.
use Rattle.std.proofs.Common.{◌≡◌, ℕ, ◌+◌, ◌≤◌, List, [], ◌∷◌, get_or, length, ℤ, refl, sym, ap, subst, ◌∙◌, arith}
use Rattle.std.specs.Prelude.{None, Some, int_lt}
use Rattle.std.proofs.lemmas.List.Elements.{All-nil, Contains-get_or}
use Rattle.rr_family.proofs.FirstLemmas.{one_first_pattern}
use Rattle.rr_graphfind.specs.Found.{IsFirstRepeat, IsGraphFound}
use Rattle.rr_graph.proofs.FirstOccurrenceLemmas.{counterpart_starts_first}
use Rattle.rr_model.specs.Calendar.{IsDayWithin}
use Rattle.rr_model.specs.Graph.Counterpart.{series_of_graph}
use Rattle.rr_model.specs.Graph.Occurrences.{IsGraphOccurrence}
use Rattle.rr_model.specs.Graph.Validity.{IsValidGraphEvent}
use Rattle.rr_model.specs.Moment.{Occurrences, day_part}
use Rattle.rr_model.specs.Rising.{Rises}
use Rattle.rr_model.specs.Sets.Sketch.{StandsIn}
use Rattle.rr_model.specs.Sets.Verdict.{HaveEqualOccurrences}
use Rattle.rr_model.specs.declared.graph.GraphEvent.{GraphEvent}
use Rattle.rr_model.specs.declared.graph.Repeat.{Repeat}
use Rattle.rr_model.specs.declared.graph.Repeat.TheVariants as repeat
use Rattle.rr_model.specs.declared.kind.Kind.{Kind}
use Rattle.rr_model.specs.declared.sketch.Sketch.{Sketch}
use Rattle.rr_plan.specs.Few.{IsOneOf}
use Rattle.rr_plan.specs.Plan.{AreWithin, BeginsOnPattern, IsKept, IsPart, IsSplit, many_cancelled, whole_event}
use Rattle.rr_plan.specs.declared.part.Part.{Part}
use Rattle.rr_plan.proofs.OneLemmas.{split_of_one}
use Rattle.rr_plan.proofs.SplitLemmas.{split_begins}
use Rattle.rr_split.specs.Promise.{IsEventAlone, IsPlanOf}
use Rattle.rr_split.specs.declared.limits.TheConstants.{MAX_EXCEPTIONS}
use Rattle.rr_split.specs.declared.split.Plan.{Plan}
use Rattle.rr_split.proofs.SoFarLemmas.{kind_of_rest, split_into_single}

-- ---- the event of the first pattern

abbrev the_event : Kind → ℤ → Repeat → GraphEvent
the_event kind start r = record { kind = kind; start = start; repeat = r }

module _ (P : Occurrences) (kind : Kind) (start : ℤ) where
  found_has : (r : Repeat) → IsFirstRepeat P r kind start
      → IsValidGraphEvent (the_event kind start r) × HaveEqualOccurrences (IsGraphOccurrence (the_event kind start r)) P
  found_has repeat.Once f = absurd f
  found_has (repeat.Pattern pattern range) f = (f.is_pattern.valid, f.is_pattern.equal)

  found_begins : (r : Repeat) → IsFirstRepeat P r kind start → BeginsOnPattern r
  found_begins repeat.Once f = absurd f
  found_begins (repeat.Pattern pattern range) f = f.begins

  -- if no pattern has the set, none is found
  none_found : (r : Repeat) → IsGraphFound P None → IsFirstRepeat P r kind start → ⊥
  none_found repeat.Once none f = f
  none_found (repeat.Pattern pattern range) none f = none pattern range kind start f.is_pattern

  -- only one is found
  one_found : (kind' : Kind) (start' : ℤ) (r r' : Repeat) → IsFirstRepeat P r kind start → IsFirstRepeat P r' kind' start'
      → the_event kind start r ≡ the_event kind' start' r'
  one_found kind' start' repeat.Once r' f g = absurd f
  one_found kind' start' (repeat.Pattern pattern range) repeat.Once f g = absurd g
  one_found kind' start' (repeat.Pattern pattern range) (repeat.Pattern pattern' range') f g =
      one_first_pattern P pattern pattern' range range' kind kind' start start' f g

-- the plan of the event that is found is that event alone
pub alone_is_plan : (s : Sketch) (most : ℕ) (event : GraphEvent) (plan : Plan) → 1 ≤ most → IsGraphFound (StandsIn s) (Some event) → IsEventAlone event plan
    → plan.kind ≡ s.kind → IsPlanOf most s plan
alone_is_plan s most event plan some found alone of_kind =
    let has = found_has (StandsIn s) event.kind event.start event.repeat found in
    let begins = found_begins (StandsIn s) event.kind event.start event.repeat found in
    let first = counterpart_starts_first event has.0 in
    let whole = split_of_one (StandsIn s) event plan.kind (series_of_graph event).start has.0 begins first.occurs has.1 in
    let parts = alone.parts in
    let single = alone.single in
    let one : length plan.parts.items ≡ 1 = ap length parts in
    let none : length plan.single ≡ 0 = ap length single in
    let kept : many_cancelled plan.parts.items ≡ 0 = ap many_cancelled parts in
    record {
      split = subst (λ ps. IsSplit (StandsIn s) ps (IsOneOf plan.kind plan.single)) (sym parts)
          (subst (λ ts. IsSplit (StandsIn s) (whole_event event ∷ []) (IsOneOf plan.kind ts)) (sym single) whole);
      few = omega (arith, one, some);
      few_exceptions = omega (arith, none, kept);
      rises = subst (Rises int_lt) (sym single) tt;
      within = subst (AreWithin plan.kind) (sym single) (All-nil _);
      kind = of_kind;
      alone = λ other it. (
          let same = one_found (StandsIn s) event.kind event.start other.kind other.start event.repeat other.repeat found it in
          subst (λ (e : GraphEvent). IsEventAlone e plan) same alone);
    }

-- ---- parts, one after another

-- what a part cancels
abbrev pub cancelled_of : Part → List ℤ
cancelled_of part = part.cancelled

-- the single ones are within the limit, since what is left has no other kind than the set
within_of_kind : (s rest : Sketch) (parts : List Part) (single : List ℤ) (kind : Kind) → IsSplit (StandsIn s) parts (StandsIn rest)
    → HaveEqualOccurrences (IsOneOf rest.kind single) (StandsIn rest) → kind ≡ s.kind → AreWithin rest.kind single → AreWithin kind single
within_of_kind s rest parts single kind split equal of_kind within i d l =
    let t = get_or single i d in
    let stands = (equal rest.kind t).0 (record { same_kind = refl; there = Contains-get_or single i d l }) in
    let same : rest.kind ≡ s.kind = kind_of_rest IsPart IsKept cancelled_of s rest parts single split equal rest.kind t stands in
    subst (λ k. IsDayWithin 0 (day_part k t)) (same ∙ sym of_kind) (within i d l)

pub parts_are_plan : (s rest : Sketch) (most room : ℕ) (plan : Plan) → IsGraphFound (StandsIn s) None
    → IsSplit (StandsIn s) plan.parts.items (StandsIn rest) → HaveEqualOccurrences (IsOneOf rest.kind plan.single) (StandsIn rest)
    → plan.kind ≡ s.kind → length plan.parts.items ≤ most → many_cancelled plan.parts.items + room ≡ MAX_EXCEPTIONS → length plan.single ≤ room
    → Rises int_lt plan.single → AreWithin rest.kind plan.single → IsPlanOf most s plan
parts_are_plan s rest most room plan none split equal of_kind few many single rises within = record {
  split = split_into_single IsPart IsKept cancelled_of s rest plan.parts.items plan.single split equal plan.kind of_kind;
  few = few;
  few_exceptions = omega (arith, many, single);
  rises = rises;
  within = within_of_kind s rest plan.parts.items plan.single plan.kind split equal of_kind within;
  kind = of_kind;
  alone = λ event it. absurd (none_found (StandsIn s) event.kind event.start event.repeat none it);
}

-- all occurrences are single
pub single_is_plan : (s : Sketch) (most : ℕ) (plan : Plan) → IsGraphFound (StandsIn s) None → plan.parts.items ≡ []
    → HaveEqualOccurrences (IsOneOf s.kind plan.single) (StandsIn s) → plan.kind ≡ s.kind → length plan.single ≤ MAX_EXCEPTIONS
    → Rises int_lt plan.single → AreWithin s.kind plan.single → IsPlanOf most s plan
single_is_plan s most plan none no_parts equal of_kind few rises within =
    let long : length plan.parts.items ≡ 0 = ap length no_parts in
    let kept : many_cancelled plan.parts.items ≡ 0 = ap many_cancelled no_parts in
    parts_are_plan s s most MAX_EXCEPTIONS plan none
    (subst (λ ps. IsSplit (StandsIn s) ps (StandsIn s)) (sym no_parts) (split_begins IsPart IsKept (StandsIn s))) equal of_kind
    (omega (arith, long)) (omega (arith, kept)) few rises within
