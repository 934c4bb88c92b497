-- Yearly rules and their counterparts, and the choice of every rule.
use Rattle.std.proofs.Common.{◌≡◌, ℕ, ◌≤◌, ◌==◌, ◌&&◌, ◌||◌, Bool, true, false, List, [], ◌∷◌, length, refl, sym, ap, ◌∙◌, arith, ℤ, pos, ◌-ℤ◌, ◌<ℤ◌}
use Rattle.std.specs.Prelude.{int_lt}
use Rattle.std.specs.List.{list_any}
use Rattle.std.specs.Ordering.{int_eq}
use Rattle.std.proofs.lemmas.Int.{ints}
use Rattle.std.proofs.lemmas.Bool.Decides.{Decides-int_eq}
use Rattle.rr_model.specs.Calendar.{day_of_month, day_of_year, month_of, year_of, days_in_year}
use Rattle.rr_model.specs.Rule.Candidate.{date_parts_hold, lists}
use Rattle.rr_model.specs.Rule.Chosen.{is_chosen}
use Rattle.rr_model.specs.Rule.Filled.{filled_rule}
use Rattle.rr_model.specs.Moment.{day_part}
use Rattle.rr_model.specs.Rising.{day_item_lt}
use Rattle.rr_model.specs.Rule.Validity.{is_absent}
use Rattle.rr_model.specs.declared.kind.Kind.{Kind}
use Rattle.rr_model.specs.declared.rule.End.{End}
use Rattle.rr_model.proofs.CalendarLemmas.{days_into_year_below, IsDate-year_of}
use Rattle.rr_model.specs.Vcal.Members.{item_holds, is_vcal_candidate}
use Rattle.rr_model.specs.Vcal.Counterpart.{rule_of_vrule, values_of, day_of_item, month_of_item, month_day_of_item, year_day_of_item}
use Rattle.rr_model.specs.declared.vcal.FamilyKind.TheVariants as family
use Rattle.rr_model.specs.declared.item.Item.{Item}
use Rattle.rr_model.specs.declared.item.Item.TheVariants.{Every, Weekday, MonthDay, Place, Month, YearDay}
use Rattle.rr_model.specs.declared.vcal.VRule.{VRule}
use Rattle.rr_model.proofs.TestLemmas.{and_true}
use Rattle.rr_vcal_laws.proofs.CounterpartLemmas.{holds_of, int_eq-pos, or_none}
use Rattle.rr_vcal_laws.proofs.MemberLemmas.{same_choice, AreItemsOf, GivesNone, values-none, present-values_of}
use Rattle.rr_vcal_laws.proofs.MonthlyLemmas.{lists-values, from_back}

-- a number counted from the front is none counted from the back
never_back : (n : ℕ) (b : ℤ) → b <ℤ pos 0 → int_eq (pos n) b ≡ false
never_back n b h = by (int_eq (pos n) b) refl
  where
    by : (t : Bool) → int_eq (pos n) b ≡ t → int_eq (pos n) b ≡ false
    by true e =
        let same : pos n ≡ b = (Decides-int_eq (pos n) b).0 e in
        absurd (omega (arith, ints, same))
    by false e = e

-- ---- yearly rules by day

year_day-none : (items : List Item) → AreItemsOf family.YD items
    → GivesNone day_of_item items × (GivesNone month_day_of_item items × GivesNone month_of_item items)
year_day-none [] h = (tt, (tt, tt))
year_day-none (YearDay k ∷ items) h =
    let more = year_day-none items h.1 in
    ((refl, more.0), ((refl, more.1.0), (refl, more.1.1)))
year_day-none (Every ∷ items) h = absurd h.0
year_day-none (Weekday k ∷ items) h = absurd h.0
year_day-none (MonthDay n ∷ items) h = absurd h.0
year_day-none (Place n k ∷ items) h = absurd h.0
year_day-none (Month m ∷ items) h = absurd h.0

year_day-present : (items : List Item) → AreItemsOf family.YD items → 1 ≤ length items → is_absent (values_of int_lt year_day_of_item [] items) ≡ false
year_day-present [] h some = absurd (omega arith)
year_day-present (YearDay k ∷ items) h some = present-values_of int_lt year_day_of_item (pos k ∷ []) items refl
year_day-present (Every ∷ items) h some = absurd h.0
year_day-present (Weekday k ∷ items) h some = absurd h.0
year_day-present (MonthDay n ∷ items) h some = absurd h.0
year_day-present (Place n k ∷ items) h some = absurd h.0
year_day-present (Month m ∷ items) h some = absurd h.0

-- the day's number in its year from the back
abbrev year_back : ℤ → ℤ
year_back d = (pos (day_of_year d) -ℤ pos (days_in_year (year_of d))) -ℤ pos 1

year_back-below : (d : ℤ) → year_back d <ℤ pos 0
unfolding day_of_year
year_back-below d = omega (arith, ints, days_into_year_below d)

year_day-holds : (start d : ℤ) (items : List Item) → AreItemsOf family.YD items
    → list_any (λ item. item_holds start item d) items ≡ list_any (λ item. holds_of (λ (x : ℤ). int_eq x (pos (day_of_year d))) (year_day_of_item item)) items
year_day-holds start d [] h = refl
year_day-holds start d (YearDay k ∷ items) h =
    ap (λ (b : Bool). b || list_any (λ item. item_holds start item d) items) (sym (int_eq-pos k (day_of_year d)))
    ∙ ap (λ (b : Bool). int_eq (pos k) (pos (day_of_year d)) || b) (year_day-holds start d items h.1)
year_day-holds start d (Every ∷ items) h = absurd h.0
year_day-holds start d (Weekday k ∷ items) h = absurd h.0
year_day-holds start d (MonthDay n ∷ items) h = absurd h.0
year_day-holds start d (Place n k ∷ items) h = absurd h.0
year_day-holds start d (Month m ∷ items) h = absurd h.0

year_day-never : (d : ℤ) (items : List Item) → AreItemsOf family.YD items
    → list_any (λ item. holds_of (λ (x : ℤ). int_eq x (year_back d)) (year_day_of_item item)) items ≡ false
year_day-never d [] h = refl
year_day-never d (YearDay k ∷ items) h =
    ap (λ (b : Bool). b || list_any (λ item. holds_of (λ (x : ℤ). int_eq x (year_back d)) (year_day_of_item item)) items)
    (never_back k (year_back d) (year_back-below d))
    ∙ year_day-never d items h.1
year_day-never d (Every ∷ items) h = absurd h.0
year_day-never d (Weekday k ∷ items) h = absurd h.0
year_day-never d (MonthDay n ∷ items) h = absurd h.0
year_day-never d (Place n k ∷ items) h = absurd h.0
year_day-never d (Month m ∷ items) h = absurd h.0

abbrev by_year_day : ℕ → List Item → End → VRule
by_year_day interval items end = record { family = family.YD; interval = interval; items = items; end = end }

by_year_day-dates : (interval : ℕ) (items : List Item) (end : End) (kind : Kind) (start d : ℤ) → AreItemsOf family.YD items → 1 ≤ length items
    → list_any (λ item. item_holds (day_part kind start) item d) items
    ≡ date_parts_hold (filled_rule (rule_of_vrule (by_year_day interval items end) kind start) kind start) d
unfolding rule_of_vrule
by_year_day-dates interval items end kind start d h some =
    let none = year_day-none items h in
    let days = values-none day_item_lt day_of_item [] items none.0 in
    let month_days = values-none int_lt month_day_of_item [] items none.1.0 in
    let months = values-none int_lt month_of_item [] items none.1.1 in
    let present = year_day-present items h some in
    let ys = values_of int_lt year_day_of_item [] items in
    let never : lists ys (year_back d) ≡ false = lists-values year_day_of_item items (year_back d) ∙ year_day-never d items h in
    let front : list_any (λ item. item_holds (day_part kind start) item d) items ≡ lists ys (pos (day_of_year d)) =
    year_day-holds (day_part kind start) d items h ∙ sym (lists-values year_day_of_item items (pos (day_of_year d))) in
    rw (days, month_days, months, present)
    (front ∙ sym (or_none (lists ys (pos (day_of_year d)))) ∙ ap (λ (b : Bool). lists ys (pos (day_of_year d)) || b) (sym never)
    ∙ sym (and_true (lists ys (pos (day_of_year d)) || lists ys (year_back d)))
    ∙ sym (and_true ((lists ys (pos (day_of_year d)) || lists ys (year_back d)) && true)))

pub by_year_day_choice : (interval : ℕ) (items : List Item) (end : End) (kind : Kind) (start t : ℤ) → AreItemsOf family.YD items → 1 ≤ length items
    → is_vcal_candidate (by_year_day interval items end) kind start t ≡ is_chosen (rule_of_vrule (by_year_day interval items end) kind start) kind start t
by_year_day_choice interval items end kind start t h some =
    same_choice (by_year_day interval items end) kind start t (by_year_day-dates interval items end kind start (day_part kind t) h some)

-- ---- yearly rules by month

month-none : (items : List Item) → AreItemsOf family.YM items → GivesNone day_of_item items × GivesNone year_day_of_item items
month-none [] h = (tt, tt)
month-none (Month m ∷ items) h =
    let more = month-none items h.1 in
    ((refl, more.0), (refl, more.1))
month-none (Every ∷ items) h = absurd h.0
month-none (Weekday k ∷ items) h = absurd h.0
month-none (MonthDay n ∷ items) h = absurd h.0
month-none (Place n k ∷ items) h = absurd h.0
month-none (YearDay k ∷ items) h = absurd h.0

month-present : (items : List Item) → AreItemsOf family.YM items → 1 ≤ length items → is_absent (values_of int_lt month_of_item [] items) ≡ false
month-present [] h some = absurd (omega arith)
month-present (Month m ∷ items) h some = present-values_of int_lt month_of_item (pos m ∷ []) items refl
month-present (Every ∷ items) h some = absurd h.0
month-present (Weekday k ∷ items) h some = absurd h.0
month-present (MonthDay n ∷ items) h some = absurd h.0
month-present (Place n k ∷ items) h some = absurd h.0
month-present (YearDay k ∷ items) h some = absurd h.0

from_back-below : (d : ℤ) → from_back d <ℤ pos 0
from_back-below d = omega (arith, ints, (IsDate-year_of d).3)

and_over : (a r b : Bool) → ((a && b) || (r && b)) ≡ ((a || r) && b)
and_over true r true = refl
and_over true true false = refl
and_over true false false = refl
and_over false r b = refl

month-holds : (start d : ℤ) (items : List Item) → AreItemsOf family.YM items
    → list_any (λ item. item_holds start item d) items
    ≡ (list_any (λ item. holds_of (λ (x : ℤ). int_eq x (pos (month_of d))) (month_of_item item)) items && (day_of_month start == day_of_month d))
month-holds start d [] h = refl
month-holds start d (Month m ∷ items) h =
    ap (λ (b : Bool). (b && (day_of_month start == day_of_month d)) || list_any (λ item. item_holds start item d) items) (sym (int_eq-pos m (month_of d)))
    ∙ ap (λ (b : Bool). (int_eq (pos m) (pos (month_of d)) && (day_of_month start == day_of_month d)) || b) (month-holds start d items h.1)
    ∙ and_over (int_eq (pos m) (pos (month_of d))) (list_any (λ item. holds_of (λ (x : ℤ). int_eq x (pos (month_of d))) (month_of_item item)) items)
    (day_of_month start == day_of_month d)
month-holds start d (Every ∷ items) h = absurd h.0
month-holds start d (Weekday k ∷ items) h = absurd h.0
month-holds start d (MonthDay n ∷ items) h = absurd h.0
month-holds start d (Place n k ∷ items) h = absurd h.0
month-holds start d (YearDay k ∷ items) h = absurd h.0

month_shape : (m o : Bool) → (m && o) ≡ ((((m && true) && true) && ((o || false) || false)) && true)
month_shape true true = refl
month_shape true false = refl
month_shape false o = refl

abbrev by_month : ℕ → List Item → End → VRule
by_month interval items end = record { family = family.YM; interval = interval; items = items; end = end }

by_month-dates : (interval : ℕ) (items : List Item) (end : End) (kind : Kind) (start d : ℤ) → AreItemsOf family.YM items → 1 ≤ length items
    → list_any (λ item. item_holds (day_part kind start) item d) items
    ≡ date_parts_hold (filled_rule (rule_of_vrule (by_month interval items end) kind start) kind start) d
unfolding rule_of_vrule
by_month-dates interval items end kind start d h some =
    let none = month-none items h in
    let days = values-none day_item_lt day_of_item [] items none.0 in
    let year_days = values-none int_lt year_day_of_item [] items none.1 in
    let present = month-present items h some in
    let own = day_of_month (day_part kind start) in
    let ms = values_of int_lt month_of_item [] items in
    rw (days, year_days, present, int_eq-pos own (day_of_month d), never_back own (from_back d) (from_back-below d))
    (month-holds (day_part kind start) d items h
    ∙ ap (λ (b : Bool). b && (own == day_of_month d)) (sym (lists-values month_of_item items (pos (month_of d))))
    ∙ month_shape (lists ms (pos (month_of d))) (own == day_of_month d))

pub by_month_choice : (interval : ℕ) (items : List Item) (end : End) (kind : Kind) (start t : ℤ) → AreItemsOf family.YM items → 1 ≤ length items
    → is_vcal_candidate (by_month interval items end) kind start t ≡ is_chosen (rule_of_vrule (by_month interval items end) kind start) kind start t
by_month_choice interval items end kind start t h some =
    same_choice (by_month interval items end) kind start t (by_month-dates interval items end kind start (day_part kind t) h some)
