-- The parts of a written rule are read back, one after the other (RFC 5545, section 3.3.10).
use Rattle.std.proofs.Common.{◌≡◌, ℕ, ◌+◌, Bool, true, false, not, List, [], ◌∷◌, ◌++◌, length, take, drop, map}
use Rattle.std.proofs.Common.{length-append, append_assoc, append-nil, Some, Result, Ok, refl, sym, ap, ◌∙◌, subst, arith}
use Rattle.std.specs.Prelude.{◌==◌, nat_lt, codes}
use Rattle.std.specs.List.{list_all, join_with_byte, prefix_len}
use Rattle.std.specs.Str.{str_to_ascii_uppercase}
use Rattle.std.proofs.lemmas.Bool.{and_parts, and_from}
use Rattle.std.proofs.lemmas.Bool.Decides.{nat_tests}
use Rattle.std.proofs.lemmas.List.{map-append, take_at, drop_at}
use Rattle.rr_model.specs.Rule.Validity.{is_absent}
use Rattle.rr_model.specs.Text.Rules.{split_once}
use Rattle.rr_rule_parts.specs.Rules.{name_of, is_present, with_parts, no_parts}
use Rattle.rr_model.specs.Text.RuleValues.{◌>>=◌}
use Rattle.rr_model.specs.Text.Written.{part_text, part_unless, list_part}
use Rattle.rr_model.specs.declared.refusal.Refusal.{Refusal}
use Rattle.rr_rule_parts.specs.declared.rule_parts.PartName.{PartName}
use Rattle.rr_rule_parts.specs.declared.rule_parts.RuleParts.{RuleParts}
use Rattle.rr_model.proofs.WithValueLemmas.{absent_nil}
use Rattle.rr_text.proofs.PlainTextLemmas.{capitals-plain}
use Rattle.rr_text.proofs.WrittenByteLemmas.{is_word_byte, is_value_byte, is_line_byte, has_no, list_all-weaker, list_all-both}
use Rattle.rr_text.proofs.WrittenByteLemmas.{values-from_words, line-from_values}
use Rattle.rr_rrule.specs.TextLaws.{is_part_byte, is_part, AreParts}
use Rattle.rr_rrule.proofs.PartOrderLemmas.{with_parts-append}
use Rattle.rr_rrule.proofs.RulePartLemmas.{Value, value_of, put, States, with_part-again}

-- ---- a part NAME=value

-- no byte of the name is `=`
first_equals : (name value : List ℕ) → has_no 61 name ≡ true → prefix_len (λ c. not (c == 61)) (name ++ 61 ∷ value) ≡ length name
first_equals [] value h = refl
first_equals (b ∷ bs) value h =
    let parts = and_parts (not (b == 61)) (has_no 61 bs) h in
    rw (parts.0, first_equals bs value parts.1) (omega arith)

split_at_equals : (name value : List ℕ) → has_no 61 name ≡ true → split_once 61 (name ++ 61 ∷ value) ≡ Some (name, value)
split_at_equals name value h =
    let text = name ++ 61 ∷ value in
    let at = first_equals name value h in
    let inside : nat_lt (length name) (length text) ≡ true = grind (arith, nat_tests, length-append name (61 ∷ value)) in
    let whole : text ≡ (name ++ 61 ∷ []) ++ value = sym (append_assoc name (61 ∷ []) value) in
    let long : length (name ++ 61 ∷ []) ≡ length name + 1 = omega (arith, length-append name (61 ∷ [])) in
    let behind : drop (length name + 1) text ≡ value = ap (drop (length name + 1)) whole ∙ drop_at (name ++ 61 ∷ []) value (length name + 1) long in
    let front : take (length name) text ≡ name = take_at name (61 ∷ value) (length name) refl in
    rw (at, inside, front, behind) refl

-- the name is a word of the table
pub record IsName (line : ℕ) (name : List ℕ) (n : PartName) : Type 0 where
  pub named : name_of line name ≡ Ok n
  pub words : list_all is_word_byte name ≡ true

word_no_equals : (b : ℕ) → is_word_byte b ≡ true → not (b == 61) ≡ true
word_no_equals b h = grind (arith, nat_tests)

word_part : (b : ℕ) → is_word_byte b ≡ true → is_part_byte b ≡ true
word_part b h = grind (arith, nat_tests)

value_part : (b : ℕ) → is_value_byte b ≡ true → is_part_byte b ≡ true
value_part b h = grind (arith, nat_tests)

module _ (line : ℕ) (name value : List ℕ) (n : PartName) (x : Value n) (is_name : IsName line name n) (values : list_all is_value_byte value ≡ true) where
  pub part_states : value_of line n value ≡ Ok x → States line (name ++ 61 ∷ value) n x
  part_states read = record {
    sides = (name, value);
    halves = split_at_equals name value (list_all-weaker is_word_byte (λ b. not (b == 61)) word_no_equals name is_name.words);
    name = is_name.named;
    value = read;
  }

  pub part_is : is_part (name ++ 61 ∷ value) ≡ true
  part_is =
      let some : nat_lt 0 (length (name ++ 61 ∷ value)) ≡ true = grind (arith, nat_tests, length-append name (61 ∷ value)) in
      and_from (nat_lt 0 (length (name ++ 61 ∷ value))) (list_all is_part_byte (name ++ 61 ∷ value)) some
      (list_all-both is_part_byte name (61 ∷ value) (list_all-weaker is_word_byte is_part_byte word_part name is_name.words)
      (list_all-weaker is_value_byte is_part_byte value_part value values))

  pub part_bytes : list_all is_line_byte (name ++ 61 ∷ value) ≡ true
  part_bytes =
      list_all-both is_line_byte name (61 ∷ value) (line-from_values name (values-from_words name is_name.words)) (line-from_values value values)

-- ---- parts, one after the other

-- the text is parts that state these
pub record IsRuleText (line : ℕ) (text : List ℕ) (parts : RuleParts) : Type 0 where
  pub first : List ℕ
  pub texts : List (List ℕ)
  pub joined : text ≡ join_with_byte 59 (first ∷ texts)
  pub are_parts : AreParts (first ∷ texts)
  pub capitals : map str_to_ascii_uppercase (first ∷ texts) ≡ first ∷ texts
  pub read : with_parts line no_parts (first ∷ texts) ≡ Ok parts
  pub bytes : list_all is_line_byte text ≡ true

join-push : (first : List ℕ) (texts : List (List ℕ)) (text : List ℕ)
    → join_with_byte 59 (first ∷ (texts ++ text ∷ [])) ≡ join_with_byte 59 (first ∷ texts) ++ 59 ∷ text
join-push first [] text = refl
join-push first (next ∷ texts) text =
    ap (λ (t : List ℕ). first ++ 59 ∷ t) (join-push next texts text) ∙ sym (append_assoc first (59 ∷ join_with_byte 59 (next ∷ texts)) (59 ∷ text))

-- one part more
rule_text-push : (line : ℕ) (text : List ℕ) (parts : RuleParts) (piece : List ℕ) (n : PartName) (x : Value n) → IsRuleText line text parts
    → States line piece n x → is_part piece ≡ true → list_all is_line_byte piece ≡ true → is_present parts n ≡ false
    → IsRuleText line (text ++ 59 ∷ piece) (put parts n x)
rule_text-push line text parts piece n x r states is plain new = record {
  first = r.first;
  texts = r.texts ++ piece ∷ [];
  joined = ap (λ (t : List ℕ). t ++ 59 ∷ piece) r.joined ∙ sym (join-push r.first r.texts piece);
  are_parts = list_all-both is_part (r.first ∷ r.texts) (piece ∷ []) r.are_parts (and_from (is_part piece) true is refl);
  capitals = map-append str_to_ascii_uppercase (r.first ∷ r.texts) (piece ∷ [])
      ∙ ap (λ (ts : List (List ℕ)). ts ++ str_to_ascii_uppercase piece ∷ []) r.capitals
      ∙ ap (λ (t : List ℕ). (r.first ∷ r.texts) ++ t ∷ []) (capitals-plain piece plain);
  read = with_parts-append line no_parts (r.first ∷ r.texts) (piece ∷ [])
      ∙ ap (λ (m : Result RuleParts Refusal). m >>= λ more. with_parts line more (piece ∷ [])) r.read
      ∙ ap (λ (m : Result RuleParts Refusal). m >>= λ more. with_parts line more []) (with_part-again line parts piece n x states new);
  bytes = list_all-both is_line_byte text (59 ∷ piece) r.bytes plain;
}

-- a part after a semicolon
part_text-opened : (name value : List ℕ) → part_text name value ≡ 59 ∷ (name ++ 61 ∷ value)
part_text-opened name value = append_assoc (59 ∷ name) (codes "=") value

module _ (line : ℕ) (text : List ℕ) (parts : RuleParts) (r : IsRuleText line text parts) where
  -- a part that is written
  pub with_part_text : (name value : List ℕ) (n : PartName) (x : Value n) → IsName line name n → list_all is_value_byte value ≡ true
      → value_of line n value ≡ Ok x → is_present parts n ≡ false → IsRuleText line (text ++ part_text name value) (put parts n x)
  with_part_text name value n x is_name values read new =
      subst (λ (t : List ℕ). IsRuleText line (text ++ t) (put parts n x)) (sym (part_text-opened name value))
      (rule_text-push line text parts (name ++ 61 ∷ value) n x r (part_states line name value n x is_name values read)
      (part_is line name value n x is_name values) (part_bytes line name value n x is_name values) new)

  -- a part that is not always written
  pub with_part_unless : (b : Bool) (name value : List ℕ) (n : PartName) (x : Value n) (more : RuleParts) → IsName line name n
      → (b ≡ false → list_all is_value_byte value ≡ true) → (b ≡ false → value_of line n value ≡ Ok x) → is_present parts n ≡ false
      → (b ≡ true → parts ≡ more) → (b ≡ false → put parts n x ≡ more) → IsRuleText line (text ++ part_unless b name value) more
  with_part_unless true name value n x more is_name values read new absent present =
      subst (λ (t : List ℕ). IsRuleText line t more) (sym (append-nil text)) (subst (IsRuleText line text) (absent refl) r)
  with_part_unless false name value n x more is_name values read new absent present =
      subst (IsRuleText line (text ++ part_text name value)) (present refl) (with_part_text name value n x is_name (values refl) (read refl) new)

  -- a list, unless it is absent
  pub with_list_part : {X : Type 0} (name : List ℕ) (text_of : X → List ℕ) (xs : List X) (n : PartName) (x : Value n) (set : List X → RuleParts)
      → IsName line name n → list_all is_value_byte (join_with_byte 44 (map text_of xs)) ≡ true
      → (is_absent xs ≡ false → value_of line n (join_with_byte 44 (map text_of xs)) ≡ Ok x) → is_present parts n ≡ false
      → parts ≡ set [] → put parts n x ≡ set xs → IsRuleText line (text ++ list_part name text_of xs) (set xs)
  with_list_part {X = X} name text_of xs n x set is_name values read new absent present =
      with_part_unless (is_absent xs) name (join_with_byte 44 (map text_of xs)) n x (set xs) is_name (λ e. values) read new
      (λ e. absent ∙ ap set (sym (absent_nil xs e))) (λ e. present)
