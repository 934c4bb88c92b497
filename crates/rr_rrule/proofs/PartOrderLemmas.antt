-- The order of the parts of a rule does not matter.
use Rattle.std.proofs.Common.{◌≡◌, ℕ, ◌+◌, ◌-◌, Bool, true, false, cond, not, List, [], ◌∷◌, ◌++◌, reverse, length, take, drop, map, Option, Result, Ok}
use Rattle.std.proofs.Common.{Err, refl, sym, ap, ◌∙◌, ℤ, arith}
use Rattle.std.specs.Prelude.{◌==◌, ◌&&◌, if◌then◌else◌, nat_lt, nat_le, codes}
use Rattle.std.specs.Char.{to_ascii_uppercase}
use Rattle.std.specs.List.{list_all, join_with_byte, onto_first, prefix_len, take_while}
use Rattle.std.specs.Str.{bytes_eq, str_to_ascii_uppercase}
use Rattle.std.proofs.Math.Seq.{drop-append_seam}
use Rattle.std.proofs.lemmas.Bool.{and_parts, and_from, not-true}
use Rattle.std.proofs.lemmas.Bool.Decides.{nat_tests}
use Rattle.std.proofs.lemmas.List.{take_all, length-append, length-map, map-append, reverse-append}
use Rattle.std.proofs.lemmas.List.Folds.{list_all-append}
use Rattle.rr_rule_parts.specs.Calendars.{stated_rule, rule_beside, rrule_language, series_of_event, calendar_scan, calendar_text}
use Rattle.rr_model.specs.Text.Event.{used_line}
use Rattle.rr_model.specs.Text.Passes.{Stated, Beside, Event, nothing_read, nothing_beside, judged_line, first_pass, with_line, passes, put_rule}
use Rattle.rr_model.specs.Text.Rules.{is_blank, trim_start, trim_end}
use Rattle.rr_rule_parts.specs.Rules.{with_part, with_parts, no_parts, without_last_semicolon, parts_of, rule_of}
use Rattle.rr_model.specs.Text.Rules.{line_value}
use Rattle.rr_rule_parts.specs.Rules.{rule_parts}
use Rattle.rr_model.specs.Text.RuleValues.{◌>>=◌, pieces}
use Rattle.rr_model.specs.Text.Steps.{in_turn}
use Rattle.rr_model.specs.declared.limits.TheConstants.{MAX_RULES}
use Rattle.rr_model.specs.declared.pass.FirstPass.{FirstPass}
use Rattle.rr_model.specs.declared.refusal.Refusal.{Refusal}
use Rattle.rr_model.specs.declared.refusal.Refusal.TheVariants.{TooManyParts}
use Rattle.rr_model.specs.declared.rule.Rule.{Rule}
use Rattle.rr_model.specs.declared.rule.Series.{Series}
use Rattle.rr_rule_parts.specs.declared.rule_parts.RuleParts.{RuleParts}
use Rattle.rr_model.specs.declared.stamp.Stamp.{Stamp}
use Rattle.rr_model.specs.declared.used.LineName.TheVariants.{Rrule}
use Rattle.rr_model.specs.declared.used.UsedLine.{UsedLine}
use Rattle.rr_text.proofs.StepLemmas.{and_then_ok, not_refused, step_same}
use Rattle.rr_rrule.specs.TextLaws.{is_part_byte, is_part, AreParts, OrderDoesNotMatter}
use Rattle.rr_rrule.proofs.RulePartLemmas.{exchanged}
use Rattle.rr_rrule.proofs.ScanLemmas.{scan_by_passes}

-- ---- lists of parts

pub with_parts-append : (line : ℕ) (parts : RuleParts) (xs ys : List (List ℕ))
    → with_parts line parts (xs ++ ys) ≡ (with_parts line parts xs >>= λ more. with_parts line more ys)
with_parts-append line parts [] ys = refl
with_parts-append line parts (x ∷ xs) ys = by (with_part line parts x) (λ more. with_parts-append line more xs ys)
  where
    by : (r : Result RuleParts Refusal) → ((more : RuleParts) → with_parts line more (xs ++ ys) ≡ (with_parts line more xs >>= λ rest. with_parts line rest ys))
        → (r >>= λ more. with_parts line more (xs ++ ys)) ≡ ((r >>= λ more. with_parts line more xs) >>= λ rest. with_parts line rest ys)
    by (Ok more) later = later more
    by (Err d) later = refl

with_parts-two : (line : ℕ) (parts all : RuleParts) (a b : List ℕ) (texts : List (List ℕ)) → with_parts line parts (a ∷ b ∷ texts) ≡ Ok all
    → with_parts line parts (b ∷ a ∷ texts) ≡ Ok all
with_parts-two line parts all a b texts e =
    let first = and_then_ok (with_part line parts a) (λ more. with_parts line more (b ∷ texts)) all e in
    let second = and_then_ok (with_part line first.0 b) (λ more. with_parts line more texts) all first.2 in
    let other = exchanged line parts first.0 second.0 a b first.1 second.1 in
    rw (other.1, other.2) second.2

with_parts-exchange : (line : ℕ) (parts all : RuleParts) (a b : List ℕ) (before after : List (List ℕ))
    → with_parts line parts (before ++ a ∷ b ∷ after) ≡ Ok all → with_parts line parts (before ++ b ∷ a ∷ after) ≡ Ok all
with_parts-exchange line parts all a b before after e =
    let front = and_then_ok (with_parts line parts before) (λ more. with_parts line more (a ∷ b ∷ after)) all
    (sym (with_parts-append line parts before (a ∷ b ∷ after)) ∙ e) in
    with_parts-append line parts before (b ∷ a ∷ after) ∙ ap (λ (r : Result RuleParts Refusal). r >>= λ more. with_parts line more (b ∷ a ∷ after)) front.1
    ∙ with_parts-two line front.0 all a b after front.2

-- ---- parts in capitals

is_part_byte-capital : (b : ℕ) → is_part_byte (to_ascii_uppercase b) ≡ is_part_byte b
is_part_byte-capital b = grind (arith, nat_tests)

all_part_bytes-capitals : (text : List ℕ) → list_all is_part_byte (str_to_ascii_uppercase text) ≡ list_all is_part_byte text
all_part_bytes-capitals [] = refl
all_part_bytes-capitals (b ∷ bs) = cc (is_part_byte-capital b, all_part_bytes-capitals bs)

is_part-capitals : (text : List ℕ) → is_part (str_to_ascii_uppercase text) ≡ is_part text
is_part-capitals text = rw (length-map text to_ascii_uppercase, all_part_bytes-capitals text) refl

are_parts-capitals : (texts : List (List ℕ)) → list_all is_part (map str_to_ascii_uppercase texts) ≡ list_all is_part texts
are_parts-capitals [] = refl
are_parts-capitals (text ∷ texts) = cc (is_part-capitals text, are_parts-capitals texts)

capitals-join : (texts : List (List ℕ)) → str_to_ascii_uppercase (join_with_byte 59 texts) ≡ join_with_byte 59 (map str_to_ascii_uppercase texts)
capitals-join [] = refl
capitals-join (text ∷ []) = refl
capitals-join (text ∷ next ∷ texts) =
    map-append to_ascii_uppercase text (59 ∷ join_with_byte 59 (next ∷ texts))
    ∙ ap (λ (rest : List ℕ). str_to_ascii_uppercase text ++ 59 ∷ rest) (capitals-join (next ∷ texts))

-- ---- bytes of a joined text

-- no blank and no line feed
abbrev is_inner : ℕ → Bool
is_inner b = not (is_blank b) && not (b == 10)

all_inner : (text : List ℕ) → list_all is_part_byte text ≡ true → list_all is_inner text ≡ true
all_inner [] h = refl
all_inner (b ∷ bs) h =
    let parts = and_parts (is_part_byte b) (list_all is_part_byte bs) h in
    and_from (is_inner b) (list_all is_inner bs) (and_parts (not (b == 59)) (is_inner b) parts.0).1 (all_inner bs parts.1)

part_bytes : (text : List ℕ) → is_part text ≡ true → list_all is_part_byte text ≡ true
part_bytes text h = (and_parts (nat_lt 0 (length text)) (list_all is_part_byte text) h).1

all_inner-join : (texts : List (List ℕ)) → AreParts texts → list_all is_inner (join_with_byte 59 texts) ≡ true
all_inner-join [] h = refl
all_inner-join (text ∷ []) h = all_inner text (part_bytes text (and_parts (is_part text) true h).0)
all_inner-join (text ∷ next ∷ texts) h =
    let parts = and_parts (is_part text) (list_all is_part (next ∷ texts)) h in
    list_all-append is_inner text (59 ∷ join_with_byte 59 (next ∷ texts))
    ∙ and_from _ _ (all_inner text (part_bytes text parts.0)) (all_inner-join (next ∷ texts) parts.1)

list_all-reverse : (p : ℕ → Bool) (text : List ℕ) → list_all p text ≡ true → list_all p (reverse text) ≡ true
list_all-reverse p [] h = refl
list_all-reverse p (b ∷ bs) h =
    let parts = and_parts (p b) (list_all p bs) h in
    ap (list_all p) (reverse-append (b ∷ []) bs) ∙ list_all-append p (reverse bs) (b ∷ [])
    ∙ and_from _ _ (list_all-reverse p bs parts.1) (and_from (p b) true parts.0 refl)

no_blanks : (text : List ℕ) → list_all is_inner text ≡ true → length (take_while is_blank text) ≡ 0
no_blanks [] h = refl
no_blanks (b ∷ bs) h = by (is_blank b) (and_parts (not (is_blank b)) (not (b == 10)) (and_parts (is_inner b) (list_all is_inner bs) h).0).0
  where
    by : (d : Bool) → not d ≡ true → length (take (cond d (1 + prefix_len is_blank bs) 0) (b ∷ bs)) ≡ 0
    by true e = absurd cc
    by false e = refl

without_blanks-inner : (text : List ℕ) → list_all is_inner text ≡ true → trim_end (trim_start text) ≡ text
without_blanks-inner text h =
    let front : trim_start text ≡ text = ap (λ n. drop n text) (no_blanks text h) in
    ap trim_end front ∙ ap (λ n. take (length text - n) text) (no_blanks (reverse text) (list_all-reverse is_inner text h))
    ∙ take_all (length text - 0) text (omega arith)

-- ---- the parts of a joined text

split_at_semicolon : (text rest : List ℕ) → list_all is_part_byte text ≡ true → pieces 59 (text ++ 59 ∷ rest) ≡ text ∷ pieces 59 rest
split_at_semicolon [] rest h = refl
split_at_semicolon (b ∷ bs) rest h =
    let parts = and_parts (is_part_byte b) (list_all is_part_byte bs) h in
    by (b == 59) (and_parts (not (b == 59)) (is_inner b) parts.0).0 ∙ ap (onto_first b) (split_at_semicolon bs rest parts.1)
  where
    by : (d : Bool) → not d ≡ true
        → cond d ([] ∷ pieces 59 (bs ++ 59 ∷ rest)) (onto_first b (pieces 59 (bs ++ 59 ∷ rest))) ≡ onto_first b (pieces 59 (bs ++ 59 ∷ rest))
    by true e = absurd cc
    by false e = refl

split_none : (text : List ℕ) → list_all is_part_byte text ≡ true → pieces 59 text ≡ text ∷ []
split_none [] h = refl
split_none (b ∷ bs) h =
    let parts = and_parts (is_part_byte b) (list_all is_part_byte bs) h in
    by (b == 59) (and_parts (not (b == 59)) (is_inner b) parts.0).0 ∙ ap (onto_first b) (split_none bs parts.1)
  where
    by : (d : Bool) → not d ≡ true → cond d ([] ∷ pieces 59 bs) (onto_first b (pieces 59 bs)) ≡ onto_first b (pieces 59 bs)
    by true e = absurd cc
    by false e = refl

pieces-join : (text : List ℕ) (texts : List (List ℕ)) → AreParts (text ∷ texts) → pieces 59 (join_with_byte 59 (text ∷ texts)) ≡ text ∷ texts
pieces-join text [] h = split_none text (part_bytes text (and_parts (is_part text) true h).0)
pieces-join text (next ∷ texts) h =
    let parts = and_parts (is_part text) (list_all is_part (next ∷ texts)) h in
    split_at_semicolon text (join_with_byte 59 (next ∷ texts)) (part_bytes text parts.0)
    ∙ ap (λ (rest : List (List ℕ)). text ∷ rest) (pieces-join next texts parts.1)

-- ---- the last byte of a joined text

record EndsInPart (text : List ℕ) : Type 0 where
  front : List ℕ
  last : ℕ
  is_text : text ≡ front ++ last ∷ []
  no_semicolon : (last == 59) ≡ false

EndsInPart-cons : (b : ℕ) (text : List ℕ) → EndsInPart text → EndsInPart (b ∷ text)
EndsInPart-cons b text e = record { front = b ∷ e.front; last = e.last; is_text = ap (λ (rest : List ℕ). b ∷ rest) e.is_text; no_semicolon = e.no_semicolon }

EndsInPart-append : (more text : List ℕ) → EndsInPart text → EndsInPart (more ++ text)
EndsInPart-append [] text e = e
EndsInPart-append (b ∷ more) text e = EndsInPart-cons b (more ++ text) (EndsInPart-append more text e)

EndsInPart-bytes : (b : ℕ) (bs : List ℕ) → list_all is_part_byte (b ∷ bs) ≡ true → EndsInPart (b ∷ bs)
EndsInPart-bytes b [] h =
    record {
      front =
          [];
      last = b;
      is_text = refl;
      no_semicolon = not-true (b == 59) (and_parts (not (b == 59)) (is_inner b) (and_parts (is_part_byte b) true h).0).0;
    }
EndsInPart-bytes b (c ∷ cs) h = EndsInPart-cons b (c ∷ cs) (EndsInPart-bytes c cs (and_parts (is_part_byte b) (list_all is_part_byte (c ∷ cs)) h).1)

EndsInPart-part : (text : List ℕ) → is_part text ≡ true → EndsInPart text
EndsInPart-part [] h = absurd cc
EndsInPart-part (b ∷ bs) h = EndsInPart-bytes b bs (part_bytes (b ∷ bs) h)

EndsInPart-join : (text : List ℕ) (texts : List (List ℕ)) → AreParts (text ∷ texts) → EndsInPart (join_with_byte 59 (text ∷ texts))
EndsInPart-join text [] h = EndsInPart-part text (and_parts (is_part text) true h).0
EndsInPart-join text (next ∷ texts) h =
    EndsInPart-append text (59 ∷ join_with_byte 59 (next ∷ texts))
    (EndsInPart-cons 59 _ (EndsInPart-join next texts (and_parts (is_part text) (list_all is_part (next ∷ texts)) h).1))

without_last_semicolon-part : (front : List ℕ) (last : ℕ) → (last == 59) ≡ false → without_last_semicolon (front ++ last ∷ []) ≡ front ++ last ∷ []
without_last_semicolon-part front last e =
    let len : length (front ++ last ∷ []) - 1 ≡ length front = omega (arith, length-append front (last ∷ [])) in
    let end : drop (length (front ++ last ∷ []) - 1) (front ++ last ∷ []) ≡ last ∷ [] = ap (λ n. drop n (front ++ last ∷ [])) len
    ∙ drop-append_seam front (last ∷ []) in
    let none : bytes_eq (drop (length (front ++ last ∷ []) - 1) (front ++ last ∷ [])) (codes ";") ≡ false = ap (λ (t : List ℕ). bytes_eq t (codes ";")) end
    ∙ ap (λ b. b && true) e in
    rw none refl

without_last_semicolon-join : (text : List ℕ) → EndsInPart text → without_last_semicolon text ≡ text
without_last_semicolon-join text e = ap without_last_semicolon e.is_text ∙ without_last_semicolon-part e.front e.last e.no_semicolon ∙ sym e.is_text

-- ---- the rule of a joined text

line_value-join : (texts : List (List ℕ)) → AreParts texts → line_value (join_with_byte 59 texts) ≡ join_with_byte 59 (map str_to_ascii_uppercase texts)
unfolding line_value
line_value-join texts h =
    ap (λ (t : List ℕ). trim_end (trim_start t)) (capitals-join texts)
    ∙ without_blanks-inner (join_with_byte 59 (map str_to_ascii_uppercase texts))
    (all_inner-join (map str_to_ascii_uppercase texts) (are_parts-capitals texts ∙ h))

parts_of-join : (line : ℕ) (text : List ℕ) (texts : List (List ℕ)) → AreParts (text ∷ texts)
    → parts_of line (join_with_byte 59 (text ∷ texts)) ≡ with_parts line no_parts (text ∷ texts)
unfolding parts_of
parts_of-join line text texts h =
    ap (λ (t : List ℕ). with_parts line no_parts (pieces 59 t)) (without_last_semicolon-join _ (EndsInPart-join text texts h))
    ∙ ap (with_parts line no_parts) (pieces-join text texts h)

pub rule_parts-join : (line : ℕ) (text : List ℕ) (texts : List (List ℕ)) → AreParts (text ∷ texts)
    → rule_parts line (join_with_byte 59 (text ∷ texts)) ≡ with_parts line no_parts (map str_to_ascii_uppercase (text ∷ texts))
unfolding rule_parts
rule_parts-join line text texts h =
    ap (parts_of line) (line_value-join (text ∷ texts) h)
    ∙ parts_of-join line (str_to_ascii_uppercase text) (map str_to_ascii_uppercase texts) (are_parts-capitals (text ∷ texts) ∙ h)

-- some part stands
abbrev IsSome : List (List ℕ) → Type 0
IsSome texts = (first : List ℕ) × (more : List (List ℕ)) × (texts ≡ first ∷ more)

some_parts : (before : List (List ℕ)) (text : List ℕ) (after : List (List ℕ)) → IsSome (before ++ text ∷ after)
some_parts [] text after = (text, after, refl)
some_parts (first ∷ before) text after = (first, before ++ text ∷ after, refl)

rule_parts-joined : (line : ℕ) (texts : List (List ℕ)) → AreParts texts → IsSome texts
    → rule_parts line (join_with_byte 59 texts) ≡ with_parts line no_parts (map str_to_ascii_uppercase texts)
rule_parts-joined line [] h some = absurd cc
rule_parts-joined line (text ∷ texts) h some = rule_parts-join line text texts h

exchange_in_rule : (line : ℕ) (a b : List ℕ) (before after : List (List ℕ)) (all : RuleParts) → AreParts (before ++ a ∷ b ∷ after)
    → AreParts (before ++ b ∷ a ∷ after)
    → rule_parts line (join_with_byte 59 (before ++ a ∷ b ∷ after)) ≡ Ok all → rule_parts line (join_with_byte 59 (before ++ b ∷ a ∷ after)) ≡ Ok all
exchange_in_rule line a b before after all h k e =
    let capital : List ℕ → List ℕ = str_to_ascii_uppercase in
    let read : (x y : List ℕ) → AreParts (before ++ x ∷ y ∷ after) → rule_parts line (join_with_byte 59 (before ++ x ∷ y ∷ after))
    ≡ with_parts line no_parts (map capital before ++ capital x ∷ capital y ∷ map capital after) =
    λ x y parts. rule_parts-joined line (before ++ x ∷ y ∷ after) parts (some_parts before x (y ∷ after))
    ∙ ap (with_parts line no_parts) (map-append capital before (x ∷ y ∷ after)) in
    read b a k ∙ with_parts-exchange line no_parts all (capital a) (capital b) (map capital before) (map capital after) (sym (read a b h) ∙ e)

-- ---- the law

parts_exchanged : (before after : List (List ℕ)) (a b : List ℕ) → AreParts (before ++ a ∷ b ∷ after) → AreParts (before ++ b ∷ a ∷ after)
parts_exchanged before after a b h =
    let front = and_parts (list_all is_part before) (list_all is_part (a ∷ b ∷ after)) (sym (list_all-append is_part before (a ∷ b ∷ after)) ∙ h) in
    let first = and_parts (is_part a) (list_all is_part (b ∷ after)) front.1 in
    let second = and_parts (is_part b) (list_all is_part after) first.1 in
    list_all-append is_part before (b ∷ a ∷ after) ∙ and_from _ _ front.0 (and_from _ _ second.0 (and_from _ _ first.0 second.1))

-- ---- the rule of a line

rule_stated : (line : ℕ) (text : List ℕ) (stated : Stated Rule) → stated_rule line text ≡ Ok stated → (parts : RuleParts) × (rule_parts line text ≡ Ok parts)
unfolding stated_rule
rule_stated line text stated h =
    let parts = and_then_ok (rule_parts line text) _ stated h in
    (parts.0, parts.1)

stated_rule-same : (line : ℕ) (text other : List ℕ) (parts : RuleParts) → rule_parts line text ≡ Ok parts → rule_parts line other ≡ Ok parts
    → stated_rule line text ≡ stated_rule line other
unfolding stated_rule
stated_rule-same line text other parts e f =
    ap (λ (r : Result RuleParts Refusal). r >>= λ p. rule_of line p >>= λ rule. Ok (record { rule = rule; until = p.until })) (e ∙ sym f)

-- ---- steps in turn, of which one is exchanged

module _ {X Y : Type 0} (step : X → Y → Result X Refusal) (y z : Y) (after : List Y) where
  in_turn-same : ((x : X) → step x y ≡ step x z) → (before : List Y) (x : X) → in_turn step x (before ++ y ∷ after) ≡ in_turn step x (before ++ z ∷ after)
  in_turn-same same [] x = ap (λ r. r >>= λ next. in_turn step next after) (same x)
  in_turn-same same (w ∷ before) x = step_same (step x w) _ _ (in_turn-same same before)

  in_turn-reaches : (before : List Y) (x last : X) → in_turn step x (before ++ y ∷ after) ≡ Ok last → (u : X) × (v : X) × (step u y ≡ Ok v)
  in_turn-reaches [] x last h =
      let one = and_then_ok (step x y) (λ next. in_turn step next after) last h in
      (x, one.0, one.1)
  in_turn-reaches (w ∷ before) x last h =
      let one = and_then_ok (step x w) (λ next. in_turn step next (before ++ y ∷ after)) last h in
      in_turn-reaches before one.0 last one.2

-- ---- the passes

module _ (offset : Option ℤ) (before after : List UsedLine) (number : ℕ) (stop : Option Refusal) where
  -- the used lines with this value of the rule's line
  abbrev lines : List ℕ → List UsedLine
  lines value = before ++ used_line number Rrule value ∷ after

  abbrev first_step : FirstPass → UsedLine → Result FirstPass Refusal
  first_step pass line = judged_line rrule_language line.number line.name pass line.value

  abbrev second_step : Stamp → Beside Rule → UsedLine → Result (Beside Rule) Refusal
  second_step start beside line = with_line rrule_language (rule_beside offset start) offset start line.number line.name beside line.value

  scan-same : (value other : List ℕ) → stated_rule number value ≡ stated_rule number other
      → calendar_scan offset (record { used = lines value; stop = stop }) ≡ calendar_scan offset (record { used = lines other; stop = stop })
  scan-same value other same =
      let one : (p : FirstPass) → first_step p (used_line number Rrule value) ≡ first_step p (used_line number Rrule other) =
      λ p. ap (λ (r : Result (Stated Rule) Refusal). if nat_le MAX_RULES p.rule_count then Err TooManyParts else
      (r >>= λ rule. Ok (record p { rule_count = p.rule_count + 1 }))) same in
      let two : (start : Stamp) (b : Beside Rule) → second_step start b (used_line number Rrule value) ≡ second_step start b (used_line number Rrule other) =
      λ start b. ap (λ (r : Result (Stated Rule) Refusal). r >>= λ stated. rule_beside offset start number stated
      >>= λ rule. Ok (put_rule true b rule)) same in
      scan_by_passes offset (lines value) (lines other) stop (in_turn-same first_step (used_line number Rrule value)
      (used_line number Rrule other) after one before nothing_read)
      (λ start. in_turn-same (second_step start) (used_line number Rrule value) (used_line number Rrule other) after (two start) before nothing_beside)

  scan-stated : (value : List ℕ) (series : Series) → calendar_scan offset (record { used = lines value; stop = stop }) ≡ Ok series
      → (stated : Stated Rule) × (stated_rule number value ≡ Ok stated)
  scan-stated value series h =
      let event = and_then_ok (passes rrule_language (rule_beside offset) offset (record { used = lines value; stop = stop }))
      (λ (e : Event Rule). Ok (series_of_event e)) series h in
      let read = and_then_ok (first_pass rrule_language nothing_read (lines value)) _ event.0 event.1 in
      let step = in_turn-reaches first_step (used_line number Rrule value) (used_line number Rrule value) after before nothing_read read.0 read.1 in
      let room = not_refused (nat_le MAX_RULES step.0.rule_count) TooManyParts _ step.1 step.2 in
      let stated = and_then_ok (stated_rule number value) (λ (s : Stated Rule). Ok (record step.0 { rule_count = step.0.rule_count + 1 })) step.1 room.1 in
      (stated.0, stated.1)

pub order_does_not_matter : OrderDoesNotMatter
unfolding calendar_text
order_does_not_matter offset text other before after number stop first last a b series h has has_other read =
    let rule = join_with_byte 59 (first ++ a ∷ b ∷ last) in
    let exchanged_rule = join_with_byte 59 (first ++ b ∷ a ∷ last) in
    let scanned : calendar_scan offset (record { used = before ++ used_line number Rrule rule ∷ after; stop = stop }) ≡ Ok series =
    sym (ap (calendar_scan offset) has) ∙ read in
    let stated = scan-stated offset before after number stop rule series scanned in
    let parts = rule_stated number rule stated.0 stated.1 in
    let again = exchange_in_rule number a b first last parts.0 h (parts_exchanged first last a b h) parts.1 in
    ap (calendar_scan offset) has_other
    ∙ sym (scan-same offset before after number stop rule exchanged_rule (stated_rule-same number rule exchanged_rule parts.0 parts.1 again)) ∙ scanned
