-- Texts of bytes from `,` to `Z`: neither capitals nor trimming change them, and they have no line breaks.
use Rattle.std.proofs.Common.{◌≡◌, ℕ, zero, suc, ◌-◌, ◌/◌, Bool, true, false, List, [], ◌∷◌, ◌++◌, reverse, length, take, drop, refl}
use Rattle.std.proofs.Common.{ap, ◌∙◌, arith}
use Rattle.std.specs.Prelude.{◌==◌, ◌&&◌, nat_lt}
use Rattle.std.specs.Char.{to_ascii_uppercase}
use Rattle.std.specs.List.{list_all, take_while, AllByRecursion}
use Rattle.std.specs.Str.{IsAscii, is_utf8, str_to_ascii_uppercase}
use Rattle.std.proofs.lemmas.Bool.{and_parts, and_from}
use Rattle.std.proofs.lemmas.Bool.Decides.{nat_tests}
use Rattle.std.proofs.lemmas.List.{take_all, reverse-append}
use Rattle.std.proofs.lemmas.Str.{IsUtf8-from_ascii, is_utf8-from_IsUtf8}
use Rattle.rr_model.specs.Text.Rules.{is_blank, trim_end, line_value}
use Rattle.rr_model.specs.Text.UsedLines.{trim}
use Rattle.rr_model.specs.Text.Written.{folded_rest, folded_text, folded_line, lines_of}
use Rattle.rr_text.proofs.FoldedLineLemmas.{IsUnbroken}
use Rattle.rr_text.proofs.WrittenByteLemmas.{is_line_byte, list_all-weaker, list_all-both}

-- ---- what holds of each byte

list_all-reverse : {X : Type 0} (p : X → Bool) (xs : List X) → list_all p xs ≡ true → list_all p (reverse xs) ≡ true
list_all-reverse p [] h = refl
list_all-reverse p (x ∷ xs) h =
    let parts = and_parts (p x) (list_all p xs) h in
    ap (list_all p) (reverse-append (x ∷ []) xs)
    ∙ list_all-both p (reverse xs) (x ∷ []) (list_all-reverse p xs parts.1) (and_from (p x) true parts.0 refl)

list_all-take : {X : Type 0} (p : X → Bool) (n : ℕ) (xs : List X) → list_all p xs ≡ true → list_all p (take n xs) ≡ true
list_all-take p zero xs h = refl
list_all-take p (suc n) [] h = refl
list_all-take p (suc n) (x ∷ xs) h =
    let parts = and_parts (p x) (list_all p xs) h in
    and_from (p x) (list_all p (take n xs)) parts.0 (list_all-take p n xs parts.1)

list_all-drop : {X : Type 0} (p : X → Bool) (n : ℕ) (xs : List X) → list_all p xs ≡ true → list_all p (drop n xs) ≡ true
list_all-drop p zero xs h = h
list_all-drop p (suc n) [] h = refl
list_all-drop p (suc n) (x ∷ xs) h = list_all-drop p n xs (and_parts (p x) (list_all p xs) h).1

-- ---- capitals

capital : (b : ℕ) → is_line_byte b ≡ true → to_ascii_uppercase b ≡ b
capital b h = grind (arith, nat_tests)

pub capitals-plain : (text : List ℕ) → list_all is_line_byte text ≡ true → str_to_ascii_uppercase text ≡ text
capitals-plain [] h = refl
capitals-plain (b ∷ bs) h =
    let parts = and_parts (is_line_byte b) (list_all is_line_byte bs) h in
    ap (λ c. c ∷ str_to_ascii_uppercase bs) (capital b parts.0) ∙ ap (λ (cs : List ℕ). b ∷ cs) (capitals-plain bs parts.1)

-- ---- blanks

not_blank : (b : ℕ) → is_line_byte b ≡ true → is_blank b ≡ false
not_blank b h = grind (arith, nat_tests)

no_blanks : (text : List ℕ) → list_all is_line_byte text ≡ true → length (take_while is_blank text) ≡ 0
no_blanks [] h = refl
no_blanks (b ∷ bs) h = rw (not_blank b (and_parts (is_line_byte b) (list_all is_line_byte bs) h).0) refl

pub trim-plain : (text : List ℕ) → list_all is_line_byte text ≡ true → trim text ≡ text
trim-plain text h =
    ap (λ n. trim_end (drop n text)) (no_blanks text h)
    ∙ ap (λ n. take (length text - n) text) (no_blanks (reverse text) (list_all-reverse is_line_byte text h))
    ∙ take_all (length text - 0) text (omega arith)

pub line_value-plain : (text : List ℕ) → list_all is_line_byte text ≡ true → line_value text ≡ text
unfolding line_value
line_value-plain text h = ap trim (capitals-plain text h) ∙ trim-plain text h

-- ---- line breaks

no_feed : (b : ℕ) → is_line_byte b ≡ true → ((b == 10) ≡ false) × ((b == 13) ≡ false)
no_feed b h = (grind (arith, nat_tests), grind (arith, nat_tests))

pub unbroken-plain : (text : List ℕ) → list_all is_line_byte text ≡ true → IsUnbroken text
unbroken-plain [] h = tt
unbroken-plain (b ∷ bs) h =
    let parts = and_parts (is_line_byte b) (list_all is_line_byte bs) h in
    let breaks = no_feed b parts.0 in
    (breaks.0, breaks.1, unbroken-plain bs parts.1)

-- ---- folded lines

module _ (p : ℕ → Bool) (return : p 13 ≡ true) (feed : p 10 ≡ true) (blank : p 32 ≡ true) where
  all-break : (text : List ℕ) → list_all p text ≡ true → list_all p (13 ∷ 10 ∷ text) ≡ true
  all-break text h = and_from (p 13) (p 10 && list_all p text) return (and_from (p 10) (list_all p text) feed h)

  all-rest : (n : ℕ) (text : List ℕ) → list_all p text ≡ true → list_all p (folded_rest n text) ≡ true
  all-rest zero text h = refl
  all-rest (suc n) [] h = refl
  all-rest (suc n) (b ∷ bs) h =
      let piece = take 74 (b ∷ bs) in
      let more = folded_rest n (drop 74 (b ∷ bs)) in
      all-break (32 ∷ (piece ++ more)) (and_from (p 32) (list_all p (piece ++ more)) blank
      (list_all-both p piece more (list_all-take p 74 (b ∷ bs) h) (all-rest n (drop 74 (b ∷ bs)) (list_all-drop p 74 (b ∷ bs) h))))

  all-line : (text : List ℕ) → list_all p text ≡ true → list_all p (folded_line text) ≡ true
  unfolding folded_text
  all-line text h =
      let rest = folded_rest (length text / 74) (drop 75 text) in
      list_all-both p (folded_text text) (13 ∷ 10 ∷ [])
      (list_all-both p (take 75 text) rest (list_all-take p 75 text h) (all-rest (length text / 74) (drop 75 text) (list_all-drop p 75 text h)))
      (all-break [] refl)

  all-lines : (texts : List (List ℕ)) → AllByRecursion (λ (t : List ℕ). list_all p t ≡ true) texts → list_all p (lines_of folded_line texts) ≡ true
  all-lines [] h = refl
  all-lines (text ∷ texts) h = list_all-both p (folded_line text) (lines_of folded_line texts) (all-line text h.0) (all-lines texts h.1)

-- ---- UTF-8

abbrev is_ascii : ℕ → Bool
is_ascii b = nat_lt b 128

ascii-from_tests : (bytes : List ℕ) → list_all is_ascii bytes ≡ true → IsAscii bytes
ascii-from_tests [] h i = omega arith
ascii-from_tests (b ∷ bs) h zero =
    let first = (and_parts (is_ascii b) (list_all is_ascii bs) h).0 in
    grind (arith, nat_tests, first)
ascii-from_tests (b ∷ bs) h (suc i) = ascii-from_tests bs (and_parts (is_ascii b) (list_all is_ascii bs) h).1 i

line_ascii : (b : ℕ) → is_line_byte b ≡ true → is_ascii b ≡ true
line_ascii b h = grind (arith, nat_tests)

all_ascii : (texts : List (List ℕ)) → AllByRecursion (λ (t : List ℕ). list_all is_line_byte t ≡ true) texts
    → AllByRecursion (λ (t : List ℕ). list_all is_ascii t ≡ true) texts
all_ascii [] h = tt
all_ascii (text ∷ texts) h = (list_all-weaker is_line_byte is_ascii line_ascii text h.0, all_ascii texts h.1)

-- Folded lines of such texts are UTF-8.
pub folded_lines-utf8 : (texts : List (List ℕ)) → AllByRecursion (λ (t : List ℕ). list_all is_line_byte t ≡ true) texts
    → is_utf8 (lines_of folded_line texts) ≡ true
folded_lines-utf8 texts h =
    let bytes = lines_of folded_line texts in
    is_utf8-from_IsUtf8 bytes (IsUtf8-from_ascii bytes (ascii-from_tests bytes (all-lines is_ascii refl refl refl texts (all_ascii texts h))))
