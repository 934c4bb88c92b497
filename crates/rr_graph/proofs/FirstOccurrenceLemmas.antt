-- The counterpart starts at the first occurrence, and a recurrence without one is refused.
use Rattle.std.proofs.Common.{◌≡◌, List, [], ℤ, ◌≤ℤ◌, inl, inr, refl, arith, Option, None, Some, Err}
use Rattle.std.proofs.lemmas.Int.{ints}
use Rattle.rr_model.specs.declared.kind.Kind.{Kind}
use Rattle.rr_model.specs.declared.refusal.Refusal.TheVariants.{NoOccurrence}
use Rattle.rr_model.specs.declared.rule.Rule.{Rule}
use Rattle.rr_model.specs.declared.rule.Series.{Series}
use Rattle.rr_model.specs.Series.Occurrences.{Occurs}
use Rattle.rr_model.specs.Graph.Counterpart.{series_from, series_of_repeat, series_of_graph}
use Rattle.rr_model.specs.Graph.Occurrences.{first_repeat_day}
use Rattle.rr_model.specs.Graph.Reading.{with_occurrence}
use Rattle.rr_model.specs.declared.graph.Repeat.{Repeat}
use Rattle.rr_model.specs.declared.graph.Repeat.TheVariants as repeat
use Rattle.rr_model.proofs.RisingSetLemmas.{Contains-none}
use Rattle.rr_model.proofs.YearOneLemmas.{member_late}
use Rattle.rr_graph.specs.FirstOccurrence.{GraphCounterpartStartsFirst, RefusedWhereNoneOccurs}
use Rattle.rr_pattern.proofs.FirstDayLemmas.{none_is_none}
use Rattle.rr_graph.proofs.OccurrenceLemmas.{counterpart_has_occurrences}
use Rattle.rr_pattern.proofs.PatternParts.{IsCountedRange}
use Rattle.rr_pattern.proofs.ValidPatternLemmas.{range_counts}

-- ---- the start

-- the start occurs, and nothing before it
abbrev StartsFirst : Series → Kind → Type 0
StartsFirst series kind = Occurs series kind series.start × ((t : ℤ) → Occurs series kind t → series.start ≤ℤ t)

from_starts_first : (kind : Kind) (start : ℤ) (rules : List Rule) → StartsFirst (series_from kind start rules) kind
from_starts_first kind start rules = (
  record { kind = refl; stands = inl (refl, refl); kept = Contains-none start; not_excluded = λ m. m },
  λ t o. elim o.stands [
    | inl s ↦ omega (arith, ints, s.1)
    | inr m ↦ elim m [ inl a ↦ member_late rules kind start t a | inr p ↦ absurd (Contains-none t p) ]
  ],
)

repeat_starts_first : (r : Repeat) (kind : Kind) (start : ℤ) → StartsFirst (series_of_repeat r kind start) kind
repeat_starts_first repeat.Once kind start = from_starts_first kind start []
repeat_starts_first (repeat.Pattern pattern range) kind start = from_starts_first kind _ _

pub counterpart_starts_first : GraphCounterpartStartsFirst
unfolding series_of_graph
counterpart_starts_first event valid =
    let first = repeat_starts_first event.repeat event.kind event.start in record {
      occurs = (counterpart_has_occurrences event event.kind _ valid).1 first.0;
      none_before = λ other o. first.1 other ((counterpart_has_occurrences event event.kind other valid).0 o);
    }

-- ---- no occurrence

pub refused_where_none_occurs : RefusedWhereNoneOccurs
refused_where_none_occurs recurrence valid =
    let good : IsCountedRange recurrence.range = (valid.0, range_counts recurrence.range.end valid.1) in
    let none = none_is_none recurrence.pattern recurrence.range good in
    let found = first_repeat_day recurrence.pattern recurrence.range in
    (λ h. none.0 (nothing_found found h), λ h. refused found (none.1 h))
  where
    nothing_found : (o : Option ℤ) → with_occurrence recurrence o ≡ Err NoOccurrence → o ≡ None
    nothing_found None h = refl
    nothing_found (Some d) h = absurd (cc)

    refused : (o : Option ℤ) → o ≡ None → with_occurrence recurrence o ≡ Err NoOccurrence
    refused None h = refl
    refused (Some d) h = absurd (cc)
