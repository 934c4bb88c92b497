-- A Graph pattern keeps its days if the range's start is moved to the first of them.
use Rattle.std.proofs.Common.{◌≡◌, ◌↔◌, Bool, false, ℤ, pos, nat_abs, ◌+ℤ◌, ◌-ℤ◌, ◌≤ℤ◌, ◌<ℤ◌, refl, sym, ap, ◌∙◌, arith, Some}
use Rattle.std.proofs.lemmas.Int.{ints}
use Rattle.rr_model.specs.Whole.Count.{count_from}
use Rattle.rr_model.specs.Graph.Occurrences.{is_pattern_day, pattern_days_to, IsWithinRange, IsRepeatDay, first_repeat_day}
use Rattle.rr_pattern.proofs.PatternParts.{HasUsedMembers, IsCountedRange, IsFirstDay}
use Rattle.rr_pattern.specs.Begun.{begun_on}
use Rattle.rr_model.specs.declared.graph.Pattern.{Pattern}
use Rattle.rr_model.specs.declared.graph.Range.{Range}
use Rattle.rr_model.specs.declared.graph.RangeEnd.{RangeEnd}
use Rattle.rr_model.specs.declared.graph.RangeEnd.TheVariants.{NoEnd, EndDate, Numbered}
use Rattle.rr_pattern.proofs.MonthLemmas.{narrow_front}
use Rattle.rr_pattern.proofs.FirstDayLemmas.{same_from_first, found_is_first, first_some}

before : (pattern : Pattern) (range : Range) (first : ℤ) → first_repeat_day pattern range ≡ Some first → (d : ℤ) → range.start_day ≤ℤ d → d <ℤ first
    → is_pattern_day pattern range.start_day d ≡ false
unfolding first_repeat_day
before pattern range first found = (first_some (is_pattern_day pattern range.start_day) range.start_day first _ found).none_before

module _ (pattern : Pattern) (range : Range) (first : ℤ) (valid : HasUsedMembers pattern) (good : IsCountedRange range)
    (found : first_repeat_day pattern range ≡ Some first) where
  is_first : IsFirstDay pattern range first
  is_first = found_is_first pattern range first good found

  same_test : is_pattern_day pattern first ≡ is_pattern_day pattern range.start_day
  same_test = λ i d. same_from_first pattern range.start_day first d valid.0 is_first.has_it.in_pattern i

  same_count : (d : ℤ) → first ≤ℤ d → pattern_days_to pattern first d ≡ pattern_days_to pattern range.start_day d
  same_count d l =
      let test = is_pattern_day pattern range.start_day in
      ap (λ p. count_from p first (nat_abs ((d -ℤ first) +ℤ pos 1))) same_test
      ∙ sym (narrow_front test test range.start_day first d is_first.has_it.not_before l (before pattern range first found) (λ x a b. refl))

  within : (end : RangeEnd) (d : ℤ) → first ≤ℤ d → IsWithinRange pattern range.start_day end d ↔ IsWithinRange pattern first end d
  within NoEnd d l = (λ h. tt, λ h. tt)
  within (EndDate last) d l = (λ h. h, λ h. h)
  within (Numbered n) d l = (λ h. omega (arith, h, same_count d l), λ h. omega (arith, h, same_count d l))

  pub moved_days : (d : ℤ) → IsRepeatDay pattern range d ↔ IsRepeatDay pattern (begun_on range first) d
  moved_days d = (
    (λ r. (let l = is_first.none_before d r in
        record { in_pattern = ap (λ (p : ℤ → Bool). p d) same_test ∙ r.in_pattern; not_before = l; within_range = (within range.end d l).0 r.within_range })),
    (λ r. record {
      in_pattern = sym (ap (λ (p : ℤ → Bool). p d) same_test) ∙ r.in_pattern;
      not_before =
          omega (arith, ints, is_first.has_it.not_before, r.not_before);
      within_range = (within range.end d r.not_before).1 r.within_range;
    }),
  )
