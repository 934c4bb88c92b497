-- The other kinds of rules and their counterparts.
use Rattle.std.proofs.Common.{◌≡◌, ℕ, ◌≤◌, ◌==◌, ◌&&◌, ◌||◌, Bool, true, false, List, [], ◌∷◌, Option, length, refl, sym, ap, ◌∙◌, arith, ℤ, pos, nat_abs, ◌-ℤ◌}
use Rattle.std.specs.Prelude.{int_lt}
use Rattle.std.specs.List.{list_any}
use Rattle.std.specs.Ordering.{int_eq}
use Rattle.std.proofs.lemmas.Int.{ints}
use Rattle.std.proofs.lemmas.Bool.Decides.{nat_tests, Decides-int_eq}
use Rattle.rr_model.specs.Calendar.{day_of_month, month_of, year_of, days_in_month, weekday_of}
use Rattle.rr_model.specs.Rule.Candidate.{date_parts_hold, day_item_holds, is_ordinal_of_day, lists}
use Rattle.rr_model.specs.Rule.Chosen.{is_chosen}
use Rattle.rr_model.specs.Rule.Filled.{filled_rule}
use Rattle.rr_model.specs.Moment.{day_part}
use Rattle.rr_model.specs.Rising.{day_item_lt}
use Rattle.rr_model.specs.Rule.Validity.{is_absent}
use Rattle.rr_model.specs.declared.kind.Kind.{Kind}
use Rattle.rr_model.specs.declared.rule.End.{End}
use Rattle.rr_model.specs.Vcal.Members.{item_holds, is_vcal_candidate}
use Rattle.rr_model.specs.Vcal.Counterpart.{rule_of_vrule, values_of, day_item, day_of_item, month_of_item, month_day_of_item, year_day_of_item}
use Rattle.rr_model.specs.declared.vcal.FamilyKind.TheVariants as family
use Rattle.rr_model.specs.declared.item.Item.{Item}
use Rattle.rr_model.specs.declared.item.Item.TheVariants.{Every, Weekday, MonthDay, Place, Month, YearDay}
use Rattle.rr_model.specs.declared.vcal.VRule.{VRule}
use Rattle.rr_model.proofs.TestLemmas.{and_true}
use Rattle.rr_vcal_laws.proofs.CounterpartLemmas.{holds_of, any-values_of}
use Rattle.rr_vcal_laws.proofs.MemberLemmas.{same_choice, AreItemsOf, GivesNone, values-none, present-values_of, day_item-same}

-- two numbers of which neither is below the other are the same to every test
int-same : (p : ℤ → Bool) (x y : ℤ) → int_lt x y ≡ false → int_lt y x ≡ false → p x ≡ p y
int-same p x y h k =
    let same : x ≡ y = grind (arith, ints, nat_tests, h, k) in
    ap p same

or_or : (a b r s : Bool) → ((a || r) || (b || s)) ≡ ((a || b) || (r || s))
or_or true b r s = refl
or_or false true true s = refl
or_or false true false s = refl
or_or false false r s = refl

any-or : {X : Type 0} (p q : X → Bool) (xs : List X) → (list_any p xs || list_any q xs) ≡ list_any (λ x. p x || q x) xs
any-or p q [] = refl
any-or p q (x ∷ xs) = or_or (p x) (q x) (list_any p xs) (list_any q xs) ∙ ap (λ (b : Bool). (p x || q x) || b) (any-or p q xs)

-- a list of numbers of items has a number
pub lists-values : (value : Item → Option ℤ) (items : List Item) (n : ℤ)
    → lists (values_of int_lt value [] items) n ≡ list_any (λ item. holds_of (λ (x : ℤ). int_eq x n) (value item)) items
lists-values value items n = any-values_of int_lt (λ x. int_eq x n) (int-same (λ x. int_eq x n)) value [] items

-- ---- monthly rules by day

pub month_day-none : (items : List Item) → AreItemsOf family.MD items
    → GivesNone day_of_item items × (GivesNone month_of_item items × GivesNone year_day_of_item items)
month_day-none [] h = (tt, (tt, tt))
month_day-none (MonthDay n ∷ items) h =
    let more = month_day-none items h.1 in
    ((refl, more.0), ((refl, more.1.0), (refl, more.1.1)))
month_day-none (Every ∷ items) h = absurd h.0
month_day-none (Weekday k ∷ items) h = absurd h.0
month_day-none (Place n k ∷ items) h = absurd h.0
month_day-none (Month m ∷ items) h = absurd h.0
month_day-none (YearDay k ∷ items) h = absurd h.0

month_day-present : (items : List Item) → AreItemsOf family.MD items → 1 ≤ length items → is_absent (values_of int_lt month_day_of_item [] items) ≡ false
month_day-present [] h some = absurd (omega arith)
month_day-present (MonthDay n ∷ items) h some = present-values_of int_lt month_day_of_item (n ∷ []) items refl
month_day-present (Every ∷ items) h some = absurd h.0
month_day-present (Weekday k ∷ items) h some = absurd h.0
month_day-present (Place n k ∷ items) h some = absurd h.0
month_day-present (Month m ∷ items) h some = absurd h.0
month_day-present (YearDay k ∷ items) h some = absurd h.0

-- the day's number from the front and from the back
abbrev from_front : ℤ → ℤ
from_front d = pos (day_of_month d)

abbrev pub from_back : ℤ → ℤ
from_back d = (pos (day_of_month d) -ℤ pos (days_in_month (year_of d) (month_of d))) -ℤ pos 1

month_day-holds : (start d : ℤ) (items : List Item) → AreItemsOf family.MD items
    → list_any (λ item. item_holds start item d) items
    ≡ list_any (λ item. holds_of (λ (x : ℤ). int_eq x (from_front d)) (month_day_of_item item) || holds_of (λ (x : ℤ). int_eq x (from_back d))
    (month_day_of_item item)) items
month_day-holds start d [] h = refl
month_day-holds start d (MonthDay n ∷ items) h = ap (λ (b : Bool). (int_eq n (from_front d) || int_eq n (from_back d)) || b) (month_day-holds start d items h.1)
month_day-holds start d (Every ∷ items) h = absurd h.0
month_day-holds start d (Weekday k ∷ items) h = absurd h.0
month_day-holds start d (Place n k ∷ items) h = absurd h.0
month_day-holds start d (Month m ∷ items) h = absurd h.0
month_day-holds start d (YearDay k ∷ items) h = absurd h.0

abbrev by_day : ℕ → List Item → End → VRule
by_day interval items end = record { family = family.MD; interval = interval; items = items; end = end }

by_day-dates : (interval : ℕ) (items : List Item) (end : End) (kind : Kind) (start d : ℤ) → AreItemsOf family.MD items → 1 ≤ length items
    → list_any (λ item. item_holds (day_part kind start) item d) items
    ≡ date_parts_hold (filled_rule (rule_of_vrule (by_day interval items end) kind start) kind start) d
unfolding rule_of_vrule
by_day-dates interval items end kind start d h some =
    let none = month_day-none items h in
    let days = values-none day_item_lt day_of_item [] items none.0 in
    let months = values-none int_lt month_of_item [] items none.1.0 in
    let year_days = values-none int_lt year_day_of_item [] items none.1.1 in
    let present = month_day-present items h some in
    rw (days, months, year_days, present) (rw present
    (month_day-holds (day_part kind start) d items h
    ∙ sym (any-or (λ item. holds_of (λ (x : ℤ). int_eq x (from_front d)) (month_day_of_item item))
    (λ item. holds_of (λ (x : ℤ). int_eq x (from_back d)) (month_day_of_item item)) items)
    ∙ ap (λ (b : Bool). b || list_any (λ item. holds_of (λ (x : ℤ). int_eq x (from_back d)) (month_day_of_item item)) items)
    (sym (lists-values month_day_of_item items (from_front d)))
    ∙ ap (λ (b : Bool). lists (values_of int_lt month_day_of_item [] items) (from_front d) || b) (sym (lists-values month_day_of_item items (from_back d)))
    ∙ sym (and_true (lists (values_of int_lt month_day_of_item [] items) (from_front d) || lists (values_of int_lt month_day_of_item [] items) (from_back d)))))

pub by_day_choice : (interval : ℕ) (items : List Item) (end : End) (kind : Kind) (start t : ℤ) → AreItemsOf family.MD items → 1 ≤ length items
    → is_vcal_candidate (by_day interval items end) kind start t ≡ is_chosen (rule_of_vrule (by_day interval items end) kind start) kind start t
by_day_choice interval items end kind start t h some =
    same_choice (by_day interval items end) kind start t (by_day-dates interval items end kind start (day_part kind t) h some)

-- ---- monthly rules by position

pub place-none : (items : List Item) → AreItemsOf family.MP items
    → GivesNone month_day_of_item items × (GivesNone month_of_item items × GivesNone year_day_of_item items)
place-none [] h = (tt, (tt, tt))
place-none (Place n k ∷ items) h =
    let more = place-none items h.1 in
    ((refl, more.0), ((refl, more.1.0), (refl, more.1.1)))
place-none (Every ∷ items) h = absurd h.0
place-none (Weekday k ∷ items) h = absurd h.0
place-none (MonthDay n ∷ items) h = absurd h.0
place-none (Month m ∷ items) h = absurd h.0
place-none (YearDay k ∷ items) h = absurd h.0

place-present : (items : List Item) → AreItemsOf family.MP items → 1 ≤ length items → is_absent (values_of day_item_lt day_of_item [] items) ≡ false
place-present [] h some = absurd (omega arith)
place-present (Place n k ∷ items) h some = present-values_of day_item_lt day_of_item (day_item n k ∷ []) items refl
place-present (Every ∷ items) h some = absurd h.0
place-present (Weekday k ∷ items) h some = absurd h.0
place-present (MonthDay n ∷ items) h some = absurd h.0
place-present (Month m ∷ items) h some = absurd h.0
place-present (YearDay k ∷ items) h some = absurd h.0

-- a place is not 0
not_zero : (n : ℤ) → 1 ≤ nat_abs n → int_eq n (pos 0) ≡ false
not_zero n h = by (int_eq n (pos 0)) refl
  where
    by : (b : Bool) → int_eq n (pos 0) ≡ b → int_eq n (pos 0) ≡ false
    by true e =
        let zero_is : n ≡ pos 0 = (Decides-int_eq n (pos 0)).0 e in
        absurd (omega (arith, ap nat_abs zero_is))
    by false e = e

place-holds : (start d : ℤ) (items : List Item) → AreItemsOf family.MP items
    → list_any (λ item. item_holds start item d) items ≡ list_any (λ item. holds_of (day_item_holds false d) (day_of_item item)) items
place-holds start d [] h = refl
place-holds start d (Place n k ∷ items) h =
    ap (λ (b : Bool). ((k == weekday_of d) && (b || is_ordinal_of_day n false d)) || list_any (λ item. item_holds start item d) items) (sym (not_zero n h.0.0))
    ∙ ap (λ (b : Bool). ((k == weekday_of d) && (int_eq n (pos 0) || is_ordinal_of_day n false d)) || b) (place-holds start d items h.1)
place-holds start d (Every ∷ items) h = absurd h.0
place-holds start d (Weekday k ∷ items) h = absurd h.0
place-holds start d (MonthDay n ∷ items) h = absurd h.0
place-holds start d (Month m ∷ items) h = absurd h.0
place-holds start d (YearDay k ∷ items) h = absurd h.0

abbrev by_position : ℕ → List Item → End → VRule
by_position interval items end = record { family = family.MP; interval = interval; items = items; end = end }

by_position-dates : (interval : ℕ) (items : List Item) (end : End) (kind : Kind) (start d : ℤ) → AreItemsOf family.MP items → 1 ≤ length items
    → list_any (λ item. item_holds (day_part kind start) item d) items
    ≡ date_parts_hold (filled_rule (rule_of_vrule (by_position interval items end) kind start) kind start) d
unfolding rule_of_vrule
by_position-dates interval items end kind start d h some =
    let none = place-none items h in
    let month_days = values-none int_lt month_day_of_item [] items none.0 in
    let months = values-none int_lt month_of_item [] items none.1.0 in
    let year_days = values-none int_lt year_day_of_item [] items none.1.1 in
    let present = place-present items h some in
    rw (month_days, months, year_days, present)
    (place-holds (day_part kind start) d items h
    ∙ sym (any-values_of day_item_lt (day_item_holds false d) (day_item-same (day_item_holds false d)) day_of_item [] items))

pub by_position_choice : (interval : ℕ) (items : List Item) (end : End) (kind : Kind) (start t : ℤ) → AreItemsOf family.MP items → 1 ≤ length items
    → is_vcal_candidate (by_position interval items end) kind start t ≡ is_chosen (rule_of_vrule (by_position interval items end) kind start) kind start t
by_position_choice interval items end kind start t h some =
    same_choice (by_position interval items end) kind start t (by_position-dates interval items end kind start (day_part kind t) h some)
