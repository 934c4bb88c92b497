-- Which intervals the divisors of a set's units leave out.
use Rattle.std.proofs.Common.{◌≡◌, ℕ, ◌≤◌, true, List, [], ◌∷◌, IsTrue, ℤ, ◌-ℤ◌, ◌≤ℤ◌, inl, inr, refl, sym, ap, subst, ◌∙◌, arith}
use Rattle.std.specs.Int.{◌∣◌}
use Rattle.std.specs.List.{AllByRecursion}
use Rattle.std.proofs.lemmas.Int.{ints}
use Rattle.std.proofs.lemmas.Bool.{cases_Bool, false≢true}
use Rattle.rr_check.proofs.RuleCycleLemmas.{interval_cycle_some}
use Rattle.rr_family.specs.DaySets.{window_days}
use Rattle.rr_family.specs.Divisors.{HasDivisors, IsFinite, IsLeftOut, ReachesEnd, divisor_of}
use Rattle.rr_family.specs.Lasting.{is_occupied}
use Rattle.rr_family.specs.Profile.{IsRuleOf, list_items, most_family_interval}
use Rattle.rr_family.specs.Shift.{family_cycle, items_have_day}
use Rattle.rr_family.specs.Walks.{IsNearEnd, IsNearWindow}
use Rattle.rr_family.specs.Windows.{HasWindow, IsWindowEnd}
use Rattle.rr_family.specs.declared.divisors.Divisors.{Divisors}
use Rattle.rr_family.specs.declared.window.Window.{Window}
use Rattle.rr_family.specs.declared.window.WindowEnd.{WindowEnd}
use Rattle.rr_family.specs.declared.window.WindowEnd.TheVariants.{Last, Cycle}
use Rattle.rr_family.proofs.DivisorLemmas.{divides_none, interval_divides, one_unit}
use Rattle.rr_family.proofs.ProfileLemmas.{last_is_late, list_covers}
use Rattle.std.proofs.lemmas.List.Elements.{recursion_from_All}
use Rattle.rr_find.specs.Found.{HasNoRuleOfFamily, HasNoRuleBelow, days_up_to, found_of}
use Rattle.rr_find.proofs.RuleLemmas.{IsListed, first_is, listed_rule, no_item, rule_days}
use Rattle.rr_model.specs.Moment.{day_part}
use Rattle.rr_model.specs.Moment.Units.{is_whole_days, unit_number}
use Rattle.rr_model.specs.Sets.Sketch.{IsNearDay, IsValidSketch, StandsIn}
use Rattle.rr_model.specs.Vcal.Counterpart.{family_freq}
use Rattle.rr_model.specs.Vcal.Members.{family_unit}
use Rattle.rr_model.specs.Vcal.Validity.{IsItemOf}
use Rattle.rr_model.specs.Whole.{divides}
use Rattle.rr_model.specs.declared.item.Item.{Item}
use Rattle.rr_model.specs.declared.kind.Kind.{Kind}
use Rattle.rr_model.specs.declared.kind.Kind.TheVariants.{Days}
use Rattle.rr_model.specs.declared.rule.Freq.{Freq}
use Rattle.rr_model.specs.declared.sketch.Sketch.{Sketch}
use Rattle.rr_model.specs.declared.vcal.FamilyKind.{FamilyKind}
use Rattle.rr_model.specs.declared.vcal.FamilyKind.TheVariants as family
use Rattle.rr_model.specs.declared.vcal.VRule.{VRule}

-- ---- units

unit_is : (f : FamilyKind) (d : ℤ) → unit_number (family_freq f) 0 Days d ≡ family_unit f d
unit_is family.D d = refl
unit_is family.W d = refl
unit_is family.MD d = refl
unit_is family.MP d = refl
unit_is family.YM d = refl
unit_is family.YD d = refl

whole : (f : FamilyKind) → IsTrue (is_whole_days (family_freq f))
whole family.D = refl
whole family.W = refl
whole family.MD = refl
whole family.MP = refl
whole family.YM = refl
whole family.YD = refl

some_interval : (f : FamilyKind) → 1 ≤ most_family_interval f
some_interval family.D = omega arith
some_interval family.W = omega arith
some_interval family.MD = omega arith
some_interval family.MP = omega arith
some_interval family.YM = omega arith
some_interval family.YD = omega arith

-- ---- items at two intervals

same_day : (f : FamilyKind) (m n : ℕ) (start d : ℤ) (items : List Item)
    → divides m (family_unit f d -ℤ family_unit f start) ≡ divides n (family_unit f d -ℤ family_unit f start)
    → items_have_day f m start items d ≡ items_have_day f n start items d
same_day f m n start d [] same = refl
same_day f m n start d (item ∷ items) same = rw (same, same_day f m n start d items same) refl

-- ---- a rule of this kind and interval that has the set

module _ (s : Sketch) (w : Window) (f : FamilyKind) (interval : ℕ) (valid : IsValidSketch s) (has : HasWindow s w) (rule : VRule) (kind : Kind) (start : ℤ)
    (r : IsRuleOf (StandsIn s) rule kind start) (same_family : rule.family ≡ f) (same_interval : rule.interval ≡ interval) where
  same_first : day_part kind start ≡ w.first
  same_first = first_is s w rule kind start valid has r

  -- its items have the occupied days up to an occupied one
  items_have : (d later : ℤ) → w.first ≤ℤ d → d ≤ℤ later → is_occupied s later ≡ true → items_have_day f interval w.first rule.items d ≡ is_occupied s d
  items_have d later l h occupied =
      subst (λ x. items_have_day f interval x rule.items d ≡ is_occupied s d) same_first
      (subst (λ n. items_have_day f n (day_part kind start) rule.items d ≡ is_occupied s d) same_interval
      (subst (λ g. items_have_day g rule.interval (day_part kind start) rule.items d ≡ is_occupied s d) same_family
      ((rule_days s rule kind start valid r).1 d later (omega (arith, ints, same_first, l)) h occupied)))

  -- the interval divides how far the unit of an occupied day lies from that of the first
  in_unit : (d : ℤ) → w.first ≤ℤ d → is_occupied s d ≡ true → divides interval (unit_number (family_freq f) 0 Days d -ℤ unit_number (family_freq f) 0 Days w.first) ≡ true
  in_unit d l occupied =
      ap (λ x. divides interval (x -ℤ unit_number (family_freq f) 0 Days w.first)) (unit_is f d)
      ∙ ap (λ x. divides interval (family_unit f d -ℤ x)) (unit_is f w.first)
      ∙ elim (cases_Bool (divides interval (family_unit f d -ℤ family_unit f w.first))) [
        | inl holds ↦ holds
        | inr out ↦ absurd (false≢true (sym (no_item f interval w.first d rule.items out) ∙ items_have d d l (omega (arith, ints)) occupied ∙ occupied))
      ]

  module _ (divisors : Divisors) (known : HasDivisors s w divisors) where
    pub interval_of_rule_divides : 1 ≤ interval → interval ∣ divisor_of divisors (family_freq f) 0
    interval_of_rule_divides low =
        interval_divides s w.first known.days divisors (family_freq f) 0 interval known.are (whole f) (omega arith) low in_unit

    -- if all days up to the last one lie in one unit, a rule of interval 1 has the set too
    module _ (near : IsNearWindow w) (zero : divisor_of divisors (family_freq f) 0 ≡ 0) (last : ℤ) (many : ℕ) (is : w.end ≡ Last last many) where
      ends : IsWindowEnd s w.first (Last last many)
      ends = subst (λ end. IsWindowEnd s w.first end) is has.end

      late : w.first ≤ℤ last
      late = last_is_late s w.first last has.one_second.first_day ends.0

      near_last : IsNearDay last
      near_last = subst (λ end. IsNearEnd end) is near.end

      abbrev days : ℕ
      days = window_days w.first last

      reaches : known.days ≡ days
      reaches = subst (λ end. ReachesEnd w.first end known.days) is known.reaches_end

      in_first_unit : (d : ℤ) → w.first ≤ℤ d → d ≤ℤ last → family_unit f d ≡ family_unit f w.first
      in_first_unit d l h =
          sym (unit_is f d)
          ∙ one_unit s w.first last known.days divisors (family_freq f) 0 known.are (whole f) (omega arith) zero ends.0.occupied late
          (omega (arith, ints, reaches, late)) d l h
          ∙ unit_is f w.first

      listed : IsListed s f 1 w.first days
      listed =
          list_covers s f 1 w.first days rule.items
          (subst (λ g. AllByRecursion (IsItemOf g) rule.items) same_family (recursion_from_All (IsItemOf rule.family) rule.items r.valid.items)) (λ d l h.
          let before : d ≤ℤ last = omega (arith, ints, h, late) in
          let same = in_first_unit d l before in
          same_day f 1 interval w.first d rule.items (divides_none 1 _ _ same ∙ sym (divides_none interval _ _ same))
          ∙ items_have d last l before ends.0.occupied)

      pub rule_of_interval_one : IsRuleOf (StandsIn s) (found_of w f 1 (list_items s f 1 w.first days)).rule (found_of w f 1 (list_items s f 1 w.first days)).kind
          (found_of w f 1 (list_items s f 1 w.first days)).start
      rule_of_interval_one =
          let low = near.first.0 in
          let high = near_last.1 in
          (listed_rule s w f 1 days valid has (omega arith) (some_interval f) (interval_cycle_some (family_freq f) 1 (omega arith))
          (ap (λ end. days_up_to w.first (family_cycle f 1) end) is) (omega (arith, ints, low, high, late)) listed).is_rule

-- ---- no rule

pub no_rule_if_left_out : (s : Sketch) (w : Window) (divisors : Divisors) (f : FamilyKind) (freq : Freq) (interval : ℕ) → IsValidSketch s → HasWindow s w → IsNearWindow w
    → HasDivisors s w divisors → freq ≡ family_freq f → 1 ≤ interval → HasNoRuleBelow s interval → IsLeftOut w.end (divisor_of divisors freq 0) interval
    → HasNoRuleOfFamily s f interval
no_rule_if_left_out s w divisors f freq interval valid has near known is low below (inl apart) rule kind start r same_family same_interval =
    apart (subst (λ u. interval ∣ divisor_of divisors u 0) (sym is) (interval_of_rule_divides s w f interval valid has rule kind start r same_family same_interval divisors known low))
no_rule_if_left_out s w divisors f freq interval valid has near known is low below (inr one) rule kind start r same_family same_interval =
    by_end w.end refl one.2
  where
    by_end : (end : WindowEnd) → w.end ≡ end → IsFinite end → ⊥
    by_end (Cycle period from) e finite = finite
    by_end (Last last many) e finite =
        below _ _ _ (rule_of_interval_one s w f interval valid has rule kind start r same_family same_interval divisors known near (ap (λ u. divisor_of divisors u 0) (sym is) ∙ one.0) last many e)
        one.1
