-- The values of a list that is read rise without repeats.
use Rattle.std.proofs.Common.{◌≡◌, ℕ, Bool, List, [], ◌∷◌, Result, Ok, ℤ, subst}
use Rattle.std.specs.Prelude.{int_lt}
use Rattle.std.specs.List.{list_all}
use Rattle.rr_model.specs.Rising.{Rises, with_value, day_item_lt}
use Rattle.rr_model.specs.Text.RuleValues.{pieces, rising_values, list_of}
use Rattle.rr_rule_parts.specs.Values.{has_number_form, number_within, numbers_of, is_day_item, day_item_within, day_items_of}
use Rattle.rr_model.specs.declared.refusal.Refusal.{Refusal}
use Rattle.rr_model.specs.declared.rule.DayItem.{DayItem}
use Rattle.rr_rule_parts.specs.declared.rule_parts.NumberBounds.{NumberBounds}
use Rattle.rr_model.proofs.RisingLemmas.{Rises-with_value}
use Rattle.rr_text.proofs.StepLemmas.{and_then_ok, passed}

module _ {X : Type 0} (below : X → X → Bool) (judged : List ℕ → Result X Refusal) where
  Rises-placed : (list : List X) (texts : List (List ℕ)) (all : List X) → Rises below list → rising_values below judged list texts ≡ Ok all → Rises below all
  Rises-placed list [] all r e =
      let same : list ≡ all = cc in
      subst (Rises below) same r
  Rises-placed list (text ∷ texts) all r e =
      let step = and_then_ok (judged text) (λ x. rising_values below judged (with_value below list x) texts) all e in
      Rises-placed (with_value below list step.0) texts all (Rises-with_value below list step.0 r) step.2

  pub Rises-list_of : (line : ℕ) (has_form : List ℕ → Bool) (text : List ℕ) (all : List X) → list_of line has_form below judged text ≡ Ok all → Rises below all
  Rises-list_of line has_form text all e = Rises-placed [] (pieces 44 text) all tt (passed (list_all has_form (pieces 44 text)) _ _ all e).1

pub numbers_of-rise : (line : ℕ) (bounds : NumberBounds) (text : List ℕ) (ns : List ℤ) → numbers_of line bounds text ≡ Ok ns → Rises int_lt ns
unfolding numbers_of
numbers_of-rise line bounds text = Rises-list_of int_lt (number_within line bounds) line (has_number_form bounds) text

pub day_items_of-rise : (line : ℕ) (text : List ℕ) (items : List DayItem) → day_items_of line text ≡ Ok items → Rises day_item_lt items
unfolding day_items_of
day_items_of-rise line text = Rises-list_of day_item_lt (day_item_within line) line is_day_item text
