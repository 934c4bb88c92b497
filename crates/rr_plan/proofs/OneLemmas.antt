-- A set that one event has is split into that event alone.
use Rattle.std.proofs.Common.{List, [], ◌∷◌, inl, inr, ℤ}
use Rattle.std.proofs.lemmas.List.Elements.{All-cons, All-nil}
use Rattle.rr_model.specs.Graph.Occurrences.{IsGraphOccurrence}
use Rattle.rr_model.specs.Graph.Validity.{IsValidGraphEvent}
use Rattle.rr_model.specs.Moment.{Occurrences}
use Rattle.rr_model.specs.Sets.Verdict.{HaveEqualOccurrences}
use Rattle.rr_model.specs.declared.graph.GraphEvent.{GraphEvent}
use Rattle.rr_model.specs.declared.kind.Kind.{Kind}
use Rattle.rr_model.proofs.RisingSetLemmas.{Contains-none}
use Rattle.rr_plan.specs.Few.{IsOneOf}
use Rattle.rr_plan.specs.Plan.{BeginsOnPattern, IsPart, IsSplit, whole_event}
use Rattle.rr_plan.specs.declared.part.Part.{Part}

pub split_of_one : (P : Occurrences) (event : GraphEvent) (kind : Kind) (first : ℤ) → IsValidGraphEvent event → BeginsOnPattern event.repeat
    → IsGraphOccurrence event event.kind first → HaveEqualOccurrences (IsGraphOccurrence event) P → IsSplit P (whole_event event ∷ []) (IsOneOf kind [])
split_of_one P event kind first valid begins occurs equal = record {
  each = All-cons IsPart (whole_event event) []
      (record {
        valid = valid;
        begins = begins;
        cancelled = All-nil (IsGraphOccurrence event event.kind);
        within = All-nil _;
        keeps = λ all. Contains-none first (all first occurs);
      }) (All-nil IsPart);
  equal = λ k t. (
    (λ h. elim h [ inl kept ↦ (equal k t).0 kept.occurs | inr one ↦ absurd (Contains-none t one.there) ]),
    (λ p. inl (record { occurs = (equal k t).1 p; not_cancelled = Contains-none t })),
  );
  apart = ((λ k t kept one. Contains-none t one.there), tt);
}
