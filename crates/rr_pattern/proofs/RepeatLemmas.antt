-- A Graph pattern and range have the occurrences of their counterpart, which starts at their first day.
use Rattle.std.proofs.Common.{◌≡◌, ◌↔◌, ℕ, ◌==◌, Bool, false, ◌&&◌, ℤ, pos, nat_abs, ◌+ℤ◌, ◌-ℤ◌}
use Rattle.std.proofs.Common.{◌≤ℤ◌, ◌<ℤ◌, refl, sym, ap, ◌∙◌, subst, arith, Some}
use Rattle.std.specs.Prelude.{unwrap_or}
use Rattle.std.proofs.lemmas.Int.{ints}
use Rattle.std.proofs.lemmas.Bool.{eq-eqb, eqb-true, and_parts, and_from}
use Rattle.rr_model.specs.Whole.Count.{count_from}
use Rattle.rr_model.specs.Moment.{day_part, second_part, moment_at}
use Rattle.rr_model.specs.Rule.Chosen.{is_chosen}
use Rattle.rr_model.specs.Rule.Member.{members_to, IsMember, IsWithinEnd}
use Rattle.rr_model.specs.declared.kind.Kind.{Kind}
use Rattle.rr_model.specs.declared.kind.Kind.TheVariants.{Days, Moments}
use Rattle.rr_model.specs.declared.rule.End.{End}
use Rattle.rr_model.specs.declared.rule.Rule.{Rule}
use Rattle.rr_model.proofs.WholeLemmas.{floor_whole, floor_mod_below}
use Rattle.rr_model.proofs.MomentLemmas.{day_part-moment_at, second_part-moment_at}
use Rattle.rr_model.specs.Graph.Occurrences.{is_pattern_day, pattern_days_to, IsWithinRange, IsRepeatDay, first_repeat_day, OccursAt}
use Rattle.rr_model.specs.Graph.Counterpart.{end_of_range, rule_of_pattern}
use Rattle.rr_pattern.proofs.PatternParts.{HasUsedMembers, IsCountedRange, IsFirstDay, SameOccurrences}
use Rattle.rr_model.specs.declared.graph.Pattern.{Pattern}
use Rattle.rr_model.specs.declared.graph.Range.{Range}
use Rattle.rr_model.specs.declared.graph.RangeEnd.{RangeEnd}
use Rattle.rr_model.specs.declared.graph.RangeEnd.TheVariants.{NoEnd, EndDate, Numbered}
use Rattle.rr_model.specs.declared.graph.Repeat.TheVariants as repeat
use Rattle.rr_pattern.proofs.DayCountLemmas.{at_start_second, count_between}
use Rattle.rr_pattern.proofs.MonthLemmas.{narrow_front}
use Rattle.rr_pattern.proofs.PatternLemmas.{pattern_chooses}
use Rattle.rr_pattern.proofs.FirstDayLemmas.{same_from_first, found_is_first, first_some}

-- ---- a moment at the start's second of another day

pub at_day : (kind : Kind) (start day : ℤ) → day_part kind (moment_at kind day (second_part kind start)) ≡ day
at_day Days start day = refl
at_day Moments start day = day_part-moment_at day (second_part Moments start) (floor_mod_below start 86_400 (omega arith))

pub at_time : (kind : Kind) (start day : ℤ) → second_part kind (moment_at kind day (second_part kind start)) ≡ second_part kind start
at_time Days start day = refl
at_time Moments start day = second_part-moment_at day (second_part Moments start) (floor_mod_below start 86_400 (omega arith))

-- moments at one second of the day lie as their days do
not_before : (kind : Kind) (start t day : ℤ) → second_part kind t ≡ second_part kind start
    → (day ≤ℤ day_part kind t) ↔ (moment_at kind day (second_part kind start) ≤ℤ t)
not_before Days start t day e = (λ h. h, λ h. h)
not_before Moments start t day e = let w = floor_whole t 86_400 (omega arith) in (λ h. omega (arith, ints, w, e, h), λ h. omega (arith, ints, w, e, h))

pub not_after : (kind : Kind) (start t day : ℤ) → second_part kind t ≡ second_part kind start
    → (day_part kind t ≤ℤ day) ↔ (t ≤ℤ moment_at kind day (second_part kind start))
not_after Days start t day e = (λ h. h, λ h. h)
not_after Moments start t day e = let w = floor_whole t 86_400 (omega arith) in (λ h. omega (arith, ints, w, e, h), λ h. omega (arith, ints, w, e, h))

pub rule_end : (pattern : Pattern) (end : End) → (rule_of_pattern pattern end).end ≡ end
unfolding rule_of_pattern
rule_end pattern end = refl

module _ (pattern : Pattern) (range : Range) (kind : Kind) (start first : ℤ) (valid : HasUsedMembers pattern) (good : IsCountedRange range)
    (found : first_repeat_day pattern range ≡ Some first) where
  abbrev second : ℕ
  second = second_part kind start

  abbrev rule : Rule
  rule = rule_of_pattern pattern (end_of_range kind second range.end)

  -- the counterpart's start
  abbrev at_first : ℤ
  at_first = moment_at kind first second

  is_first : IsFirstDay pattern range first
  is_first = found_is_first pattern range first good found

  from_start : (d : ℤ) → is_pattern_day pattern first d ≡ is_pattern_day pattern range.start_day d
  from_start d = same_from_first pattern range.start_day first d valid.0 is_first.has_it.in_pattern

  same_test : is_chosen rule kind at_first ≡ at_start_second (is_pattern_day pattern range.start_day) kind at_first
  same_test = λ i t. (pattern_chooses pattern (end_of_range kind second range.end) kind at_first t valid
      ∙ ap (λ q. (second_part kind t == second_part kind at_first) && is_pattern_day pattern q (day_part kind t)) (at_day kind start first)
      ∙ ap (λ b. (second_part kind t == second_part kind at_first) && b) (from_start (day_part kind t))) i

  chosen_is : (t : ℤ) → is_chosen rule kind at_first t ≡ ((second_part kind t == second) && is_pattern_day pattern range.start_day (day_part kind t))
  chosen_is t = ap (λ (p : ℤ → Bool). p t) same_test
      ∙ ap (λ s. (second_part kind t == s) && is_pattern_day pattern range.start_day (day_part kind t)) (at_time kind start first)

  none_before : (d : ℤ) → range.start_day ≤ℤ d → d <ℤ first → is_pattern_day pattern range.start_day d ≡ false
  unfolding first_repeat_day
  none_before d l h = (first_some (is_pattern_day pattern range.start_day) range.start_day first _ found).none_before d l h

  -- as many members from the counterpart's start as days of the pattern from the range's start
  same_count : (t : ℤ) → second_part kind t ≡ second → first ≤ℤ day_part kind t
      → members_to rule kind at_first t ≡ pattern_days_to pattern range.start_day (day_part kind t)
  same_count t e l =
      let test = is_pattern_day pattern range.start_day in
      let d = day_part kind t in
      ap (λ p. count_from p at_first (nat_abs ((t -ℤ at_first) +ℤ pos 1))) same_test
      ∙ count_between test kind at_first t (e ∙ sym (at_time kind start first)) ((not_before kind start t first e).0 l)
      ∙ ap (λ q. count_from test q (nat_abs ((d -ℤ q) +ℤ pos 1))) (at_day kind start first)
      ∙ sym (narrow_front test test range.start_day first d is_first.has_it.not_before l none_before (λ x a b. refl))

  within : (end : RangeEnd) (t : ℤ) → second_part kind t ≡ second → first ≤ℤ day_part kind t
      → members_to rule kind at_first t ≡ pattern_days_to pattern range.start_day (day_part kind t)
      → IsWithinRange pattern range.start_day end (day_part kind t) ↔ IsWithinEnd (end_of_range kind second end) kind t (members_to rule kind at_first t)
  within NoEnd t e l count = (λ h. tt, λ h. tt)
  within (EndDate last) t e l count =
      let same = not_after kind start t last e in
      (λ h. (refl, same.0 h), λ h. same.1 h.1)
  within (Numbered n) t e l count = (λ h. omega (arith, h, count), λ h. omega (arith, h, count))

  of_rule : (t : ℤ) → IsWithinEnd rule.end kind t (members_to rule kind at_first t)
      ≡ IsWithinEnd (end_of_range kind second range.end) kind t (members_to rule kind at_first t)
  of_rule t = ap (λ e. IsWithinEnd e kind t (members_to rule kind at_first t)) (rule_end pattern (end_of_range kind second range.end))

  to_member : (t : ℤ) → second_part kind t ≡ second → IsRepeatDay pattern range (day_part kind t) → IsMember rule kind at_first t
  to_member t e h =
      let l = is_first.none_before (day_part kind t) h in record {
        chosen = chosen_is t ∙ and_from _ _ (eq-eqb (second_part kind t) second e) h.in_pattern;
        not_before = (not_before kind start t first e).0 l;
        within_end = subst (λ (X : Type 0). X) (sym (of_rule t)) ((within range.end t e l (same_count t e l)).0 h.within_range);
      }

  from_member : (t : ℤ) → IsMember rule kind at_first t → (second_part kind t ≡ second) × IsRepeatDay pattern range (day_part kind t)
  from_member t m =
      let c = sym (chosen_is t) ∙ m.chosen in
      let e = eqb-true (second_part kind t) second (and_parts _ _ c).0 in
      let l = (not_before kind start t first e).1 m.not_before in (
        e,
        record {
          in_pattern = (and_parts _ _ c).1;
          not_before = omega (arith, ints, is_first.has_it.not_before, l);
          within_range = (within range.end t e l (same_count t e l)).1 (subst (λ (X : Type 0). X) (of_rule t) m.within_end);
        },
      )

pub same_occurrences : SameOccurrences
same_occurrences pattern range kind start first t valid good same found =
    let at : moment_at kind (unwrap_or (first_repeat_day pattern range) range.start_day) (second_part kind start)
    ≡ moment_at kind first (second_part kind start) = rw found refl in
    subst (λ x. OccursAt (repeat.Pattern pattern range) kind start t
    ↔ IsMember (rule_of_pattern pattern (end_of_range kind (second_part kind start) range.end)) kind x t) (sym at)
    ((λ h. to_member pattern range kind start first valid good found t h.0 h.1), (λ m. from_member pattern range kind start first valid good found t m))
