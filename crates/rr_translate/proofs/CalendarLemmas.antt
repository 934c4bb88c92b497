-- The text of RFC 5545 that is written for a series states its occurrences.
use Rattle.std.proofs.Common.{◌≡◌, ◌≤◌, true, false, [], ◌∷◌, Contains, None, ℤ, pos, refl, sym, subst, ◌∙◌, inl, inr, ap, arith}
use Rattle.std.proofs.lemmas.Bool.{false≢true}
use Rattle.std.proofs.lemmas.Int.{ints}
use Rattle.rr_model.specs.Calendar.{first_day_of_year}
use Rattle.rr_model.specs.Moment.Years.{IsInYears}
use Rattle.rr_model.specs.Rule.Validity.{EndsInYears, IsValidRule}
use Rattle.std.proofs.lemmas.List.Elements.{All-nil, All-cons}
use Rattle.rr_model.specs.Series.Cycle.{series_cycle}
use Rattle.rr_model.specs.Series.Occurrences.{Occurs}
use Rattle.rr_model.specs.Series.Soundness.{IsSound}
use Rattle.rr_model.specs.Series.Validity.{IsEmptySeries, IsValidSeries}
use Rattle.rr_rule_parts.specs.Calendars.{reads_calendar}
use Rattle.rr_model.specs.Text.WriteLaws.{IsOneEnd}
use Rattle.rr_model.specs.Text.Written.{calendar_written}
use Rattle.rr_model.specs.declared.kind.Kind.{Kind}
use Rattle.rr_model.specs.declared.kind.Kind.TheVariants.{Days}
use Rattle.rr_model.specs.declared.lang.Lang.TheVariants.{Rrule}
use Rattle.rr_model.specs.declared.rule.Series.{Series}
use Rattle.rr_model.specs.declared.limits.TheConstants.{MAX_CYCLE_DAYS}
use Rattle.rr_model.proofs.RisingSetLemmas.{Contains-head, Contains-none}
use Rattle.rr_rrule.proofs.WrittenSeriesLemmas.{calendar_is_read_back}
use Rattle.rr_translate.specs.OneEnd.{with_one_ends}
use Rattle.rr_translate.specs.Target.{States}
use Rattle.rr_translate.specs.Translated.{IsCalendarText}
use Rattle.rr_translate.proofs.OneEndLemmas.{ends_are_one, excluded_ends_are_one, same_occurrences, same_series_cycle, series_sound, series_valid}
use Rattle.rr_translate.proofs.SoundLemmas.{sound_is_not_refused}

-- ---- the empty series

-- what is read of the text of the empty series: its start, which is excluded
abbrev none_left : Series
none_left = record { kind = Days; start = pos 0; start_counts = true; rules = []; excluded = []; plus = []; minus = pos 0 ∷ [] }

-- the empty series
abbrev none_given : Series
none_given = record { kind = Days; start = pos 0; start_counts = false; rules = []; excluded = []; plus = []; minus = [] }

same_text : calendar_written none_given ≡ calendar_written none_left
unfolding calendar_written
same_text = refl

left_is_empty : (k : Kind) (t : ℤ) → Occurs none_left k t → ⊥
left_is_empty k t o = elim o.stands [
  | inl x ↦ o.kept (subst (Contains (pos 0 ∷ [])) (sym x.1) (Contains-head (pos 0) []))
  | inr y ↦ elim y [ inl m ↦ absurd m | inr p ↦ absurd (Contains-none t p) ]
]

given_is_empty : (k : Kind) (t : ℤ) → Occurs none_given k t → ⊥
given_is_empty k t o = elim o.stands [
  | inl x ↦ false≢true x.0
  | inr y ↦ elim y [ inl m ↦ absurd m | inr p ↦ absurd (Contains-none t p) ]
]

-- a series that is empty
is_none : (series : Series) → series.start_counts ≡ false → IsEmptySeries series → series ≡ none_given
is_none series e (kind, start, rules, excluded, plus, minus) = rw (kind, start, rules, excluded, plus, minus, e) refl

-- ---- every series

same_start : (series : Series) → (with_one_ends series).start_counts ≡ series.start_counts
unfolding with_one_ends
same_start series = refl

-- read again, its text states the series with one end for each rule
written_states : (series : Series) → IsSound series → series.start_counts ≡ true
    → States Rrule (Occurs series) (calendar_written (with_one_ends series))
written_states series s counts = record {
  series = with_one_ends series;
  is_read = calendar_is_read_back (with_one_ends series) (series_valid series s.valid) (same_start series ∙ counts) (ends_are_one series)
      (excluded_ends_are_one series);
  sound = sound_is_not_refused (with_one_ends series) (series_sound series s);
  equal = same_occurrences series s;
}

zero_in_years : IsInYears Days (pos 0)
unfolding first_day_of_year
zero_in_years = (omega (arith, ints), omega (arith, ints))

left_valid : IsValidSeries none_left
left_valid = record {
  start = zero_in_years;
  start_counts = λ e. absurd (false≢true (sym e));
  rules = All-nil (IsValidRule Days);
  excluded = All-nil (IsValidRule Days);
  few_rules = omega arith;
  ends = All-nil (λ rule. EndsInYears rule.end);
  excluded_ends = All-nil (λ rule. EndsInYears rule.end);
  plus = All-nil (IsInYears Days);
  minus = All-cons (IsInYears Days) (pos 0) [] zero_in_years (All-nil (IsInYears Days));
  plus_rises = tt;
  minus_rises = tt;
  few_dates = omega arith;
}

same_given : with_one_ends none_given ≡ none_given
unfolding with_one_ends
same_given = refl

empty_states : States Rrule (Occurs none_given) (calendar_written (with_one_ends none_given))
empty_states = record {
  series = none_left;
  is_read =
      ap (reads_calendar None) (ap calendar_written same_given ∙ same_text)
      ∙ calendar_is_read_back none_left left_valid refl (All-nil (λ rule. IsOneEnd rule.end)) (All-nil (λ rule. IsOneEnd rule.end));
  sound = refl;
  equal = λ k t. (λ o. absurd (left_is_empty k t o), λ o. absurd (given_is_empty k t o));
}

-- the text that is written for a sound series whose cycle is within the limit
pub is_calendar_text : (series : Series) → IsSound series → series_cycle series ≤ MAX_CYCLE_DAYS
    → IsCalendarText series (calendar_written (with_one_ends series))
is_calendar_text series s few = record {
  written = refl;
  few = subst (λ n. n ≤ MAX_CYCLE_DAYS) (sym (same_series_cycle series)) few;
  states = elim series.start_counts as (λ b. series.start_counts ≡ b → States Rrule (Occurs series) (calendar_written (with_one_ends series))) [
    | true ↦ λ e. written_states series s e
    | false ↦ λ e. subst (λ x. States Rrule (Occurs x) (calendar_written (with_one_ends x))) (sym (is_none series e (s.valid.start_counts e))) empty_states
  ] refl;
}
