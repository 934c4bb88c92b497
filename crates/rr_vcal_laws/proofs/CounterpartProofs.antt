-- A valid vCalendar rule and its counterpart have the same members, and are synchronised alike.
use Rattle.std.proofs.Common.{◌≡◌, ℕ, zero, suc, ◌+◌, ◌≤◌, ◌==◌, ◌&&◌, Bool, true, if◌then◌else◌, List, length, refl, sym, ap, ◌∙◌, arith, subst, ℤ, pos}
use Rattle.std.proofs.Common.{nat_abs, ◌+ℤ◌, ◌-ℤ◌}
use Rattle.std.specs.Prelude.{IsTrue}
use Rattle.std.specs.List.{list_any}
use Rattle.std.proofs.lemmas.Bool.Decides.{nat_tests}
use Rattle.rr_model.specs.Rule.Chosen.{is_chosen}
use Rattle.rr_model.specs.Rule.Member.{IsWithinEnd, members_to}
use Rattle.rr_model.specs.Whole.Count.{count_from}
use Rattle.rr_model.specs.Moment.{day_part, second_part}
use Rattle.rr_model.specs.declared.kind.Kind.{Kind}
use Rattle.rr_model.specs.declared.rule.End.{End}
use Rattle.rr_model.specs.Vcal.Members.{item_has_day, is_vcal_candidate, vcal_members_to}
use Rattle.rr_model.specs.Vcal.Counterpart.{rule_of_vrule}
use Rattle.rr_model.specs.Vcal.Validity.{IsValidVRule}
use Rattle.rr_model.specs.Vcal.Laws.{CounterpartHasMembers, CounterpartIsSynchronised}
use Rattle.rr_model.specs.declared.vcal.FamilyKind.{FamilyKind}
use Rattle.rr_model.specs.declared.vcal.FamilyKind.TheVariants as family
use Rattle.rr_model.specs.declared.item.Item.{Item}
use Rattle.rr_model.specs.declared.vcal.VRule.{VRule}
use Rattle.rr_vcal_laws.proofs.MemberLemmas.{AreItemsOf, items_by_recursion, daily_choice, weekly_choice}
use Rattle.rr_vcal_laws.proofs.MonthlyLemmas.{by_day_choice, by_position_choice}
use Rattle.rr_vcal_laws.proofs.YearlyLemmas.{by_month_choice, by_year_day_choice}

abbrev rule_with : FamilyKind → ℕ → List Item → End → VRule
rule_with f interval items end = record { family = f; interval = interval; items = items; end = end }

choice_of : (f : FamilyKind) (interval : ℕ) (items : List Item) (end : End) (kind : Kind) (start t : ℤ) → AreItemsOf f items → 1 ≤ length items
    → is_vcal_candidate (rule_with f interval items end) kind start t ≡ is_chosen (rule_of_vrule (rule_with f interval items end) kind start) kind start t
choice_of family.D interval items end kind start t h some = daily_choice interval items end kind start t h some
choice_of family.W interval items end kind start t h some = weekly_choice interval items end kind start t h some
choice_of family.MD interval items end kind start t h some = by_day_choice interval items end kind start t h some
choice_of family.MP interval items end kind start t h some = by_position_choice interval items end kind start t h some
choice_of family.YM interval items end kind start t h some = by_month_choice interval items end kind start t h some
choice_of family.YD interval items end kind start t h some = by_year_day_choice interval items end kind start t h some

-- the two tests are the same at every moment
pub same_choices : (rule : VRule) (kind : Kind) (start t : ℤ) → IsValidVRule rule
    → is_vcal_candidate rule kind start t ≡ is_chosen (rule_of_vrule rule kind start) kind start t
same_choices rule kind start t v =
    choice_of rule.family rule.interval rule.items rule.end kind start t (items_by_recursion rule.family rule.items v.items) v.some_item

-- tests that are the same count the same
count-same : (p q : ℤ → Bool) → ((t : ℤ) → p t ≡ q t) → (from : ℤ) (n : ℕ) → count_from p from n ≡ count_from q from n
unfolding count_from
count-same p q same from zero = refl
count-same p q same from (suc n) =
    ap (λ (k : ℕ). k + (if p (from +ℤ pos n) then 1 else 0)) (count-same p q same from n)
    ∙ ap (λ (b : Bool). count_from q from n + (if b then 1 else 0)) (same (from +ℤ pos n))

same_members_to : (rule : VRule) (kind : Kind) (start t : ℤ) → IsValidVRule rule
    → vcal_members_to rule kind start t ≡ members_to (rule_of_vrule rule kind start) kind start t
same_members_to rule kind start t v =
    count-same (is_vcal_candidate rule kind start) (is_chosen (rule_of_vrule rule kind start) kind start) (λ u. same_choices rule kind start u v) start
    (nat_abs ((t -ℤ start) +ℤ pos 1))

pub counterpart_has_members : CounterpartHasMembers
unfolding rule_of_vrule
counterpart_has_members rule kind start t v = (
  λ m. record {
    chosen = subst IsTrue (same_choices rule kind start t v) m.candidate;
    not_before = m.not_before;
    within_end = subst (λ n. IsWithinEnd rule.end kind t n) (same_members_to rule kind start t v) m.within_end;
  },
  λ m. record {
    candidate = subst IsTrue (sym (same_choices rule kind start t v)) m.chosen;
    not_before = m.not_before;
    within_end = subst (λ n. IsWithinEnd rule.end kind t n) (sym (same_members_to rule kind start t v)) m.within_end;
  },
)

-- the second of the start is its own
own_second : (rule : VRule) (kind : Kind) (start : ℤ)
    → is_vcal_candidate rule kind start start
    ≡ list_any (λ item. item_has_day rule.family rule.interval (day_part kind start) item (day_part kind start)) rule.items
unfolding is_vcal_candidate
own_second rule kind start =
    let self : (second_part kind start == second_part kind start) ≡ true = grind (arith, nat_tests) in
    ap (λ (b : Bool). b && list_any (λ item. item_has_day rule.family rule.interval (day_part kind start) item (day_part kind start)) rule.items) self

pub counterpart_is_synchronised : CounterpartIsSynchronised
counterpart_is_synchronised rule kind start v =
    let same = sym (own_second rule kind start) ∙ same_choices rule kind start start v in
    (subst IsTrue same, subst IsTrue (sym same))
