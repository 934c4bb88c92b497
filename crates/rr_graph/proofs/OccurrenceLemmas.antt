-- A valid event has the occurrences of its counterpart, and keeps them if it starts at the first of them.
use Rattle.std.proofs.Common.{◌≡◌, ◌↔◌, ℤ, inl, inr, refl, sym, ap, ◌∙◌, subst}
use Rattle.std.specs.Prelude.{unwrap_or}
use Rattle.std.proofs.lemmas.Bool.{eq-eqb, and_from}
use Rattle.rr_model.specs.Moment.{day_part, second_part, moment_at}
use Rattle.rr_model.specs.declared.kind.Kind.{Kind}
use Rattle.rr_model.specs.declared.rule.Series.{Series}
use Rattle.rr_model.specs.Graph.Occurrences.{is_pattern_day, OccursAt, IsRepeatDay}
use Rattle.rr_model.specs.Graph.Counterpart.{series_of_repeat, series_of_graph}
use Rattle.rr_model.specs.Graph.Laws.{GraphCounterpartHasOccurrences}
use Rattle.rr_model.specs.Graph.Validity.{IsRepeatFrom}
use Rattle.rr_model.specs.Moment.Years.{IsInYears}
use Rattle.rr_model.specs.Series.Occurrences.{Occurs}
use Rattle.rr_model.specs.declared.graph.Repeat.{Repeat}
use Rattle.rr_model.specs.declared.graph.Repeat.TheVariants as repeat
use Rattle.rr_model.proofs.RisingSetLemmas.{Contains-none}
use Rattle.rr_graph.specs.Moved.{repeat_from, MovingStartKeepsOccurrences}
use Rattle.rr_pattern.proofs.PatternParts.{PatternIsSynchronised}
use Rattle.rr_pattern.proofs.PatternLemmas.{pattern_chooses}
use Rattle.rr_pattern.proofs.FirstDayLemmas.{found_is_first, same_from_first}
use Rattle.rr_pattern.proofs.RepeatLemmas.{same_occurrences, at_day, at_time}
use Rattle.rr_pattern.proofs.MovedStartLemmas.{moved_days}
use Rattle.rr_pattern.proofs.ValidPatternLemmas.{used_members, counted_range}

pub pattern_is_synchronised : PatternIsSynchronised
pattern_is_synchronised pattern range end kind start first valid good found =
    let at = moment_at kind first (second_part kind start) in
    let f = found_is_first pattern range first good found in
    pattern_chooses pattern end kind at at valid
    ∙ and_from _ _ (eq-eqb (second_part kind at) (second_part kind at) refl)
    (ap (λ d. is_pattern_day pattern d d) (at_day kind start first) ∙ same_from_first pattern range.start_day first first valid.0 f.has_it.in_pattern
    ∙ f.has_it.in_pattern)

module _ (kind : Kind) (start t : ℤ) (years : IsInYears kind start) where
  repeat_occurs : (r : Repeat) → IsRepeatFrom (day_part kind start) r → OccursAt r kind start t ↔ Occurs (series_of_repeat r kind start) kind t
  repeat_occurs repeat.Once v = (
    (λ e. record { kind = refl; stands = inl (refl, e); kept = Contains-none t; not_excluded = λ m. m }),
    (λ o. elim o.stands [ inl s ↦ s.1 | inr m ↦ elim m [ inl a ↦ absurd a | inr p ↦ absurd (Contains-none t p) ] ]),
  )
  repeat_occurs (repeat.Pattern pattern range) v =
      let first = v.3.0 in
      let found = v.3.1 in
      let good = counted_range range kind start years v.2 v.1 in
      let same = same_occurrences pattern range kind start first t (used_members pattern v.0) good v.2 found in (
        (λ h. record { kind = refl; stands = inr (inl (inl (same.0 h))); kept = Contains-none t; not_excluded = λ m. m }),
        (λ o. elim o.stands [
          | inl s ↦ (
              let here : t ≡ moment_at kind first (second_part kind start) =
              s.1 ∙ ap (λ x. moment_at kind (unwrap_or x range.start_day) (second_part kind start)) found in
              let day : day_part kind t ≡ first = ap (day_part kind) here ∙ at_day kind start first in (
                ap (second_part kind) here ∙ at_time kind start first,
                subst (IsRepeatDay pattern range) (sym day) (found_is_first pattern range first good found).has_it,
              ))
          | inr m ↦ elim m [ inl a ↦ elim a [ inl b ↦ same.1 b | inr c ↦ absurd c ] | inr p ↦ absurd (Contains-none t p) ]
        ]),
      )

  -- the same with the start moved to the first
  repeat_moved : (r : Repeat) → IsRepeatFrom (day_part kind start) r
      → OccursAt r kind start t ↔ OccursAt (repeat_from r (day_part kind (series_of_repeat r kind start).start)) kind (series_of_repeat r kind start).start t
  repeat_moved repeat.Once v = (λ e. e, λ e. e)
  repeat_moved (repeat.Pattern pattern range) v =
      let first = v.3.0 in
      let found = v.3.1 in
      let at : (series_of_repeat (repeat.Pattern pattern range) kind start).start ≡ moment_at kind first (second_part kind start) =
      ap (λ x. moment_at kind (unwrap_or x range.start_day) (second_part kind start)) found in
      let good = counted_range range kind start years v.2 v.1 in
      let same = moved_days pattern range first (used_members pattern v.0) good found (day_part kind t) in
      let time = at_time kind start first in
      let moved = repeat_from (repeat.Pattern pattern range) first in
      let from_first : OccursAt (repeat.Pattern pattern range) kind start t ↔ OccursAt moved kind (moment_at kind first (second_part kind start)) t =
      ((λ h. (h.0 ∙ sym time, same.0 h.1)), (λ h. (h.0 ∙ time, same.1 h.1))) in
      subst (λ x. OccursAt (repeat.Pattern pattern range) kind start t ↔ OccursAt (repeat_from (repeat.Pattern pattern range) (day_part kind x)) kind x t)
      (sym at)
      (subst (λ d. OccursAt (repeat.Pattern pattern range) kind start t
      ↔ OccursAt (repeat_from (repeat.Pattern pattern range) d) kind (moment_at kind first (second_part kind start)) t)
      (sym (at_day kind start first)) from_first)

-- an occurrence of a series is one of its kind
of_kind : (series : Series) (k : Kind) (t : ℤ) → Occurs series k t → Occurs series series.kind t
of_kind series k t o = record { kind = refl; stands = o.stands; kept = o.kept; not_excluded = o.not_excluded }

kind_is : (r : Repeat) (kind : Kind) (start : ℤ) → (series_of_repeat r kind start).kind ≡ kind
kind_is repeat.Once kind start = refl
kind_is (repeat.Pattern pattern range) kind start = refl

pub counterpart_has_occurrences : GraphCounterpartHasOccurrences
unfolding series_of_graph
counterpart_has_occurrences event k t valid =
    let same = repeat_occurs event.kind event.start t valid.start event.repeat valid.repeats in
    let series = series_of_repeat event.repeat event.kind event.start in
    let kind = kind_is event.repeat event.kind event.start in (
      (λ o. subst (λ x. Occurs series x t) (sym o.same_kind) (same.0 o.occurs)),
      (λ o. (
          let same_kind : k ≡ event.kind = o.kind ∙ kind in
          record { same_kind = same_kind; occurs = same.1 (subst (λ x. Occurs series x t) kind (of_kind series k t o)) })),
    )

pub moving_start_keeps_occurrences : MovingStartKeepsOccurrences
unfolding series_of_graph
moving_start_keeps_occurrences event k t valid =
    let same = repeat_moved event.kind event.start t valid.start event.repeat valid.repeats in (
      (λ o. record { same_kind = o.same_kind; occurs = same.0 o.occurs }),
      (λ o. record { same_kind = o.same_kind; occurs = same.1 o.occurs }),
    )
