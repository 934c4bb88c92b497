-- What the search over intervals and kinds has found so far.
use Rattle.std.proofs.Common.{◌≡◌, ℕ, ◌+◌, ◌<◌, ◌≤◌, ◌==◌, Bool, true, false, ◌&&◌, ◌||◌, Option, None, Some, ℤ, inl, inr, refl, sym, ap, ◌∙◌, arith}
use Rattle.std.specs.Prelude.{is_some, nat_lt}
use Rattle.std.proofs.lemmas.Bool.{cases_Bool, cases_eq, false≢true}
use Rattle.std.proofs.lemmas.Bool.Decides.{nat_tests}
use Rattle.rr_family.specs.Profile.{IsRuleOf, comes_before, kind_place, most_family_interval}
use Rattle.rr_family.specs.Windows.{IsWindowOf}
use Rattle.rr_family.proofs.PlaceLemmas.{one_kind}
use Rattle.rr_find.specs.Found.{HasNoRuleOfFamily, HasNoRuleBefore, HasNoRuleBelow, IsFound, IsFoundAt, IsFoundOf}
use Rattle.rr_find.specs.declared.found.Found.{Found}
use Rattle.rr_find.proofs.RuleLemmas.{rule_days}
use Rattle.rr_model.specs.Sets.Sketch.{IsValidSketch, StandsIn}
use Rattle.rr_model.specs.declared.kind.Kind.{Kind}
use Rattle.rr_model.specs.declared.sketch.Sketch.{Sketch}
use Rattle.rr_model.specs.declared.vcal.FamilyKind.{FamilyKind}
use Rattle.rr_model.specs.declared.vcal.FamilyKind.TheVariants as family
use Rattle.rr_model.specs.declared.vcal.VRule.{VRule}

-- ---- kinds

six_kinds : (f : FamilyKind) → kind_place f < 6
six_kinds family.D = omega arith
six_kinds family.W = omega arith
six_kinds family.MD = omega arith
six_kinds family.MP = omega arith
six_kinds family.YM = omega arith
six_kinds family.YD = omega arith

few_intervals : (f : FamilyKind) → most_family_interval f ≤ 999
few_intervals family.D = omega arith
few_intervals family.W = omega arith
few_intervals family.MD = omega arith
few_intervals family.MP = omega arith
few_intervals family.YM = omega arith
few_intervals family.YD = omega arith

-- ---- one interval

-- above the greatest interval of a kind no rule is looked for
pub no_rule_above : (s : Sketch) (f : FamilyKind) (interval : ℕ) → most_family_interval f < interval → HasNoRuleOfFamily s f interval
no_rule_above s f interval above rule kind start r same_family same_interval =
    omega (arith, above, r.few, ap most_family_interval same_family, same_interval)

pub none_before_first : (s : Sketch) (interval : ℕ) → HasNoRuleBefore s interval 0
none_before_first s interval rule kind start r same before = omega (arith, before)

pub none_before_next : (s : Sketch) (f : FamilyKind) (interval place : ℕ) → kind_place f ≡ place → HasNoRuleBefore s interval place
    → HasNoRuleOfFamily s f interval
    → HasNoRuleBefore s interval (place + 1)
none_before_next s f interval place at so_far none rule kind start r same before =
    elim (cases_eq (kind_place rule.family) place) [
      | inl here ↦ none rule kind start r (one_kind rule.family f (here ∙ sym at)) same
      | inr other ↦ so_far rule kind start r same (omega (arith, before, other))
    ]

pub found_at : (s : Sketch) (f : FamilyKind) (interval place : ℕ) (found : Found) → kind_place f ≡ place → HasNoRuleBefore s interval place
    → IsFoundOf s f interval (Some found) → IsFoundAt s interval (Some found)
found_at s f interval place found at so_far is =
    (is.0, is.2, λ rule kind start r same before. so_far rule kind start r same (omega (arith, before, at, ap kind_place is.1)))

-- ---- all intervals

pub none_below_first : (s : Sketch) → HasNoRuleBelow s 1
none_below_first s rule kind start r below = omega (arith, below, r.valid.interval_low)

pub none_below_next : (s : Sketch) (interval : ℕ) → HasNoRuleBelow s interval → IsFoundAt s interval None → HasNoRuleBelow s (interval + 1)
none_below_next s interval so_far none rule kind start r below =
    elim (cases_eq rule.interval interval) [
      | inl here ↦ none rule kind start r here (six_kinds rule.family)
      | inr other ↦ so_far rule kind start r (omega (arith, below, other))
    ]

pub none_at_all : (s : Sketch) (interval : ℕ) → 1_000 ≤ interval → HasNoRuleBelow s interval → IsFound (StandsIn s) None
none_at_all s interval last so_far rule kind start r =
    so_far rule kind start r (omega (arith, last, r.few, few_intervals rule.family))

pub first_of_all : (s : Sketch) (interval : ℕ) (found : Found) → IsValidSketch s → HasNoRuleBelow s interval → IsFoundAt s interval (Some found)
    → IsFound (StandsIn s) (Some found)
first_of_all s interval found valid so_far is = record {
  is_rule = is.0.is_rule;
  none_before = λ rule kind start r. not_before rule kind start r;
  sketch = s;
  valid = valid;
  stands = λ k t. (λ h. h, λ h. h);
  days = is.0.days;
  window = is.0.window;
  items = is.0.items;
  ends = is.0.ends;
}
  where
    earlier : (a b c : Bool) → (a || (b && c)) ≡ true → a ≡ false → (b ≡ true) × (c ≡ true)
    earlier false true true h e = (refl, refl)
    earlier false true false h e = absurd (false≢true h)
    earlier false false c h e = absurd (false≢true h)
    earlier true b c h e = absurd (false≢true (sym e))

    not_before : (rule : VRule) (kind : Kind) (start : ℤ) → IsRuleOf (StandsIn s) rule kind start
        → comes_before rule.interval rule.family found.rule.interval found.rule.family ≡ false
    not_before rule kind start r =
        elim (cases_Bool (comes_before rule.interval rule.family found.rule.interval found.rule.family)) [
          | inr none ↦ none
          | inl before ↦ absurd (elim (cases_Bool (nat_lt rule.interval found.rule.interval)) [
            | inl less ↦ so_far rule kind start r (let l : rule.interval < found.rule.interval = grind (arith, nat_tests) in omega (arith, l, is.1))
            | inr not_less ↦ (
                let parts = earlier (nat_lt rule.interval found.rule.interval) (rule.interval == found.rule.interval)
                (nat_lt (kind_place rule.family) (kind_place found.rule.family)) before not_less in
                let same : rule.interval ≡ found.rule.interval = (let a = parts.0 in grind (arith, nat_tests)) in
                let less : kind_place rule.family < kind_place found.rule.family = (let a = parts.1 in grind (arith, nat_tests)) in
                is.2 rule kind start r (same ∙ is.1) less)
          ])
        ]

pub none_without_window : (s : Sketch) → IsValidSketch s → IsWindowOf s None → IsFound (StandsIn s) None
none_without_window s valid none rule kind start r = none kind start r.years (rule_days s rule kind start valid r).0

pub first_if_some : (s : Sketch) (interval : ℕ) (answer : Option Found) → IsValidSketch s → HasNoRuleBelow s interval → is_some answer ≡ true
    → IsFoundAt s interval answer → IsFound (StandsIn s) answer
first_if_some s interval None valid so_far some is = absurd (false≢true some)
first_if_some s interval (Some found) valid so_far some is = first_of_all s interval found valid so_far is
