-- Lemmas of the counterpart of a vCalendar rule: what its lists and its filled time parts hold of.
use Rattle.std.proofs.Common.{◌≡◌, ℕ, ◌/◌, ◌%◌, ◌<◌, ◌==◌, ◌&&◌, ◌||◌, Bool, true, false, if◌then◌else◌, List, [], ◌∷◌, Option, None, Some, refl, sym, ap}
use Rattle.std.proofs.Common.{◌∙◌, arith, ℤ, pos}
use Rattle.std.specs.List.{list_any}
use Rattle.std.specs.Ordering.{int_eq}
use Rattle.std.proofs.lemmas.Bool.{and_parts}
use Rattle.std.proofs.lemmas.Bool.Decides.{nat_tests, Decides-int_eq, Decides-eqb, same_from_decides}
use Rattle.rr_model.specs.Rule.Candidate.{time_parts_hold}
use Rattle.rr_model.specs.Rule.Filled.{wants_hour, wants_minute, wants_second, hour_of, minute_of, second_of, filled_rule}
use Rattle.rr_model.specs.Moment.{second_part}
use Rattle.rr_model.specs.Rising.{with_value}
use Rattle.rr_model.specs.declared.kind.Kind.{Kind}
use Rattle.rr_model.specs.declared.kind.Kind.TheVariants.{Days, Moments}
use Rattle.rr_model.proofs.WholeLemmas.{floor_mod_below}
use Rattle.rr_model.specs.Vcal.Counterpart.{family_freq, with_option, values_of, rule_of_vrule}
use Rattle.rr_model.specs.declared.item.Item.{Item}
use Rattle.rr_model.specs.declared.vcal.FamilyKind.{FamilyKind}
use Rattle.rr_model.specs.declared.vcal.FamilyKind.TheVariants as family
use Rattle.rr_model.specs.declared.vcal.VRule.{VRule}
use Rattle.rr_model.proofs.TestLemmas.{or_swap, same_truth, eqb-same, without_or}

-- ---- a test of the values of a rising list

or_again : (a c : Bool) → (a || c) ≡ (a || (a || c))
or_again true c = refl
or_again false c = refl

module _ {X : Type 0} (below : X → X → Bool) (p : X → Bool) (same : (x y : X) → below x y ≡ false → below y x ≡ false → p x ≡ p y) where
  -- some value of the list passes exactly if the new one does or one before
  pub any-with_value : (xs : List X) (v : X) → list_any p (with_value below xs v) ≡ (p v || list_any p xs)
  any-with_value [] v = refl
  any-with_value (y ∷ ys) v = by (below y v) (below v y) refl refl (any-with_value ys v)
    where
      by : (b c : Bool) → below y v ≡ b → below v y ≡ c → list_any p (with_value below ys v) ≡ (p v || list_any p ys)
          → list_any p (if b then y ∷ with_value below ys v else (if c then v ∷ y ∷ ys else y ∷ ys)) ≡ (p v || (p y || list_any p ys))
      by true c e f more = ap (λ t. p y || t) more ∙ or_swap (p y) (p v) (list_any p ys)
      by false true e f more = refl
      by false false e f more = or_again (p y) (list_any p ys) ∙ ap (λ t. t || (p y || list_any p ys)) (same y v e f)

-- the value passes, if there is one
abbrev pub holds_of : {X : Type 0} → (X → Bool) → Option X → Bool
holds_of p None = false
holds_of p (Some x) = p x

pub or_none : (b : Bool) → (b || false) ≡ b
or_none true = refl
or_none false = refl

or_turn : (h a r : Bool) → ((h || a) || r) ≡ (a || (h || r))
or_turn true true r = refl
or_turn true false r = refl
or_turn false true r = refl
or_turn false false r = refl

module _ {X : Type 0} (below : X → X → Bool) (p : X → Bool) (same : (x y : X) → below x y ≡ false → below y x ≡ false → p x ≡ p y) (value : Item
    → Option X) where
  any-with_option : (values : List X) (o : Option X) → list_any p (with_option below values o) ≡ (holds_of p o || list_any p values)
  any-with_option values None = refl
  any-with_option values (Some x) = any-with_value below p same values x

  -- some value of the items' list passes exactly if one before does, or an item's value
  pub any-values_of : (values : List X) (items : List Item) → list_any p (values_of below value values items)
      ≡ (list_any p values || list_any (λ item. holds_of p (value item)) items)
  any-values_of values [] = sym (or_none (list_any p values))
  any-values_of values (item ∷ items) =
      any-values_of (with_option below values (value item)) items
      ∙ ap (λ b. b || list_any (λ x. holds_of p (value x)) items) (any-with_option values (value item))
      ∙ or_turn (holds_of p (value item)) (list_any p values) (list_any (λ x. holds_of p (value x)) items)

-- ---- the time of day

-- hours, minutes and seconds are the same exactly if the second of the day is
time_same : (s t : ℕ) → s < 86_400 → t < 86_400 → ((s / 3_600 == t / 3_600) && (s / 60 % 60 == t / 60 % 60) && (s % 60 == t % 60)) ≡ (t == s)
time_same s t hs ht = same_truth _ (t == s) there back
  where
    there : ((s / 3_600 == t / 3_600) && (s / 60 % 60 == t / 60 % 60) && (s % 60 == t % 60)) ≡ true → (t == s) ≡ true
    there h =
        let front = and_parts ((s / 3_600 == t / 3_600) && (s / 60 % 60 == t / 60 % 60)) (s % 60 == t % 60) h in
        let parts = and_parts (s / 3_600 == t / 3_600) (s / 60 % 60 == t / 60 % 60) front.0 in
        let hours : s / 3_600 ≡ t / 3_600 = grind (arith, nat_tests, parts.0) in
        let minutes : s / 60 % 60 ≡ t / 60 % 60 = grind (arith, nat_tests, parts.1) in
        let seconds : s % 60 ≡ t % 60 = grind (arith, nat_tests, front.1) in
        let same : t ≡ s = omega (arith, hours, minutes, seconds) in
        grind (arith, nat_tests, same)

    back : (t == s) ≡ true → ((s / 3_600 == t / 3_600) && (s / 60 % 60 == t / 60 % 60) && (s % 60 == t % 60)) ≡ true
    back h =
        let same : t ≡ s = grind (arith, nat_tests, h) in
        rw (same, eqb-same (s / 3_600), eqb-same (s / 60 % 60), eqb-same (s % 60)) refl

wants-time : (f : FamilyKind) → (wants_hour (family_freq f) ≡ true) × ((wants_minute (family_freq f) ≡ true) × (wants_second (family_freq f) ≡ true))
wants-time family.D = (refl, (refl, refl))
wants-time family.W = (refl, (refl, refl))
wants-time family.MD = (refl, (refl, refl))
wants-time family.MP = (refl, (refl, refl))
wants-time family.YM = (refl, (refl, refl))
wants-time family.YD = (refl, (refl, refl))

pub int_eq-pos : (a b : ℕ) → int_eq (pos a) (pos b) ≡ (a == b)
int_eq-pos a b =
    same_from_decides (int_eq (pos a) (pos b)) (a == b) (Decides-int_eq (pos a) (pos b))
    (λ h. ap (λ n. pos n) ((Decides-eqb a b).0 h), λ e. (Decides-eqb a b).1 (pos_same e))
  where
    pos_same : pos a ≡ pos b → a ≡ b
    pos_same e = cc

-- a filled rule of whole days lists the hour, the minute and the second of its start alone
pub time_parts : (rule : VRule) (kind : Kind) (start t : ℤ) → time_parts_hold (filled_rule (rule_of_vrule rule kind start) kind start) kind t
    ≡ (second_part kind t == second_part kind start)
unfolding rule_of_vrule
time_parts rule Days start t = refl
time_parts rule Moments start t =
    let wants = wants-time rule.family in
    rw (
      wants.0,
      wants.1.0,
      wants.1.1,
      int_eq-pos (hour_of Moments start) (hour_of Moments t),
      int_eq-pos (minute_of Moments start)
          (minute_of Moments t),
      int_eq-pos (second_of Moments start) (second_of Moments t),
    )
    (without_or (hour_of Moments start == hour_of Moments t) (minute_of Moments start == minute_of Moments t) (second_of Moments start == second_of Moments t)
    ∙ time_same (second_part Moments start) (second_part Moments t) (floor_mod_below start 86_400 (omega arith)) (floor_mod_below t 86_400 (omega arith)))
