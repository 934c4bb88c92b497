-- The counterpart of a valid event is valid, and its rule fits its start.
use Rattle.std.proofs.Common.{◌≡◌, [], ◌∷◌, ℤ, ◌≤ℤ◌, refl, sym, subst, arith, Result, Ok, Err}
use Rattle.std.specs.Prelude.{IfOk, unwrap_or}
use Rattle.std.proofs.lemmas.List.Elements.{All-cons, All-nil}
use Rattle.rr_model.specs.Moment.{day_part, second_part, moment_at}
use Rattle.rr_model.specs.Moment.Years.{IsInYears}
use Rattle.rr_model.specs.Rule.Validity.{EndsInYears, HasCountInRange, IsValidRule}
use Rattle.rr_model.specs.Series.Soundness.{EndsNotBefore, FitsStart, IsSound}
use Rattle.rr_model.specs.declared.kind.Kind.{Kind}
use Rattle.rr_model.specs.declared.kind.Kind.TheVariants.{Days}
use Rattle.rr_model.specs.declared.refusal.NoMemory.{NoMemory}
use Rattle.rr_model.specs.declared.rule.Rule.{Rule}
use Rattle.rr_model.specs.declared.rule.Series.{Series}
use Rattle.rr_model.specs.Graph.Occurrences.{IsWithinRange}
use Rattle.rr_model.specs.Graph.Counterpart.{end_of_range, rule_of_pattern, series_from, series_of_repeat, series_of_graph}
use Rattle.rr_model.specs.Graph.Validity.{IsRangeEnd, IsRepeatFrom, IsValidGraphEvent}
use Rattle.rr_model.specs.declared.graph.GraphEvent.{GraphEvent}
use Rattle.rr_model.specs.declared.graph.Pattern.{Pattern}
use Rattle.rr_model.specs.declared.graph.RangeEnd.{RangeEnd}
use Rattle.rr_model.specs.declared.graph.RangeEnd.TheVariants.{NoEnd, EndDate, Numbered}
use Rattle.rr_model.specs.declared.graph.Repeat.{Repeat}
use Rattle.rr_model.specs.declared.graph.Repeat.TheVariants as repeat
use Rattle.rr_graph.specs.Moved.{GraphCounterpartIsSound}
use Rattle.rr_pattern.proofs.FirstDayLemmas.{found_is_first}
use Rattle.rr_pattern.proofs.RepeatLemmas.{at_day, at_time, not_after, rule_end}
use Rattle.rr_graph.proofs.OccurrenceLemmas.{pattern_is_synchronised}
use Rattle.rr_pattern.proofs.ValidPatternLemmas.{used_members, few_intervals, counted_range}
use Rattle.rr_pattern.proofs.ValidRuleLemmas.{pattern_counterpart_is_valid}

-- a day lies in the years 1 to 9999, and so does the moment on it at the second of the start
at_in_years : (kind : Kind) (start day : ℤ) → IsInYears Days day → IsInYears kind (moment_at kind day (second_part kind start))
at_in_years kind start day years = subst (IsInYears Days) (sym (at_day kind start day)) years

counts : (kind : Kind) (start : ℤ) (end : RangeEnd) → IsRangeEnd end → HasCountInRange (end_of_range kind (second_part kind start) end)
counts kind start NoEnd h = tt
counts kind start (EndDate day) h = tt
counts kind start (Numbered n) h = h

ends : (kind : Kind) (start : ℤ) (end : RangeEnd) → IsRangeEnd end → EndsInYears (end_of_range kind (second_part kind start) end)
ends kind start NoEnd h = tt
ends kind start (EndDate day) h = at_in_years kind start day h
ends kind start (Numbered n) h = tt

-- the range does not end before one of its days
not_over : (pattern : Pattern) (kind : Kind) (start from first : ℤ) (end : RangeEnd) → IsWithinRange pattern from end first
    → EndsNotBefore kind (moment_at kind first (second_part kind start)) (end_of_range kind (second_part kind start) end)
not_over pattern kind start from first NoEnd h = tt
not_over pattern kind start from first (EndDate last) h =
    let at = moment_at kind first (second_part kind start) in
    (refl, (not_after kind start at last (at_time kind start first)).0 (subst (λ d. d ≤ℤ last) (sym (at_day kind start first)) h))
not_over pattern kind start from first (Numbered n) h = tt

-- a series of one rule or of none
alone : (kind : Kind) (start : ℤ) → IsInYears kind start → IsSound (series_from kind start [])
alone kind start years = record {
  valid = record {
    start = years;
    start_counts = λ e. absurd (cc);
    rules = All-nil _;
    excluded = All-nil _;
    few_rules = omega arith;
    ends = All-nil _;
    excluded_ends = All-nil _;
    plus = All-nil _;
    minus = All-nil _;
    plus_rises = tt;
    minus_rises = tt;
    few_dates = omega arith;
  };
  rules = All-nil _;
  excluded = All-nil _;
}

with_rule : (kind : Kind) (start : ℤ) (rule : Rule) → IsInYears kind start → IsValidRule kind rule → EndsInYears rule.end → FitsStart kind start rule
    → IsSound (series_from kind start (rule ∷ []))
with_rule kind start rule years valid end fits = record {
  valid = record {
    start = years;
    start_counts = λ e. absurd (cc);
    rules = All-cons (IsValidRule kind) rule [] valid (All-nil _);
    excluded = All-nil _;
    few_rules = omega arith;
    ends = All-cons (λ r. EndsInYears r.end) rule [] end (All-nil _);
    excluded_ends = All-nil _;
    plus = All-nil _;
    minus = All-nil _;
    plus_rises = tt;
    minus_rises = tt;
    few_dates = omega arith;
  };
  rules = All-cons (FitsStart kind start) rule [] fits (All-nil _);
  excluded = All-nil _;
}

repeat_is_sound : (r : Repeat) (kind : Kind) (start : ℤ) → IsInYears kind start → IsRepeatFrom (day_part kind start) r → IsSound (series_of_repeat r kind start)
repeat_is_sound repeat.Once kind start years v = alone kind start years
repeat_is_sound (repeat.Pattern pattern range) kind start years v =
    let first = v.3.0 in
    let found = v.3.1 in
    let good = counted_range range kind start years v.2 v.1 in
    let used = used_members pattern v.0 in
    let is_first = found_is_first pattern range first good found in
    let end = end_of_range kind (second_part kind start) range.end in
    let at = moment_at kind first (second_part kind start) in
    let rule = rule_of_pattern pattern end in
    let same_end = rule_end pattern end in
    let sound : IsSound (series_from kind at (rule ∷ [])) =
    with_rule kind at rule (at_in_years kind start first is_first.in_years)
    (pattern_counterpart_is_valid pattern kind end used (omega (arith, few_intervals pattern v.0)) (counts kind start range.end v.1))
    (subst EndsInYears (sym same_end) (ends kind start range.end v.1))
    (record {
      synchronised = pattern_is_synchronised pattern range end kind start first used good found;
      end = subst (EndsNotBefore kind at) (sym same_end) (not_over pattern kind start range.start_day first range.end is_first.has_it.within_range);
    }) in
    subst (λ x. IsSound (series_from kind (moment_at kind (unwrap_or x range.start_day) (second_part kind start)) (rule ∷ []))) (sym found) sound

pub counterpart_is_sound : GraphCounterpartIsSound
unfolding series_of_graph
counterpart_is_sound event valid = repeat_is_sound event.repeat event.kind event.start valid.start valid.repeats

-- so is what a call answers that takes memory
pub answer_is_sound : (event : GraphEvent) → IsValidGraphEvent event → (r : Result Series NoMemory) → IfOk r (λ series. series ≡ series_of_graph event)
    → IfOk r IsSound
answer_is_sound event valid (Ok series) same = subst IsSound (sym same) (counterpart_is_sound event valid)
answer_is_sound event valid (Err none) same = tt
