-- The bytes that written values are made of.
use Rattle.std.proofs.Common.{◌≡◌, ℕ, suc, ◌^◌, ◌<◌, true, ℤ, pos, negsuc, nat_abs, List, [], ◌∷◌, ◌++◌, refl, ◌∙◌, arith}
use Rattle.std.specs.Prelude.{Bool, ◌==◌, ◌&&◌, ◌||◌, not, nat_le, codes}
use Rattle.std.specs.Fmt.{decimal, signed_decimal}
use Rattle.std.specs.List.{list_all, AllByRecursion, join_with_byte}
use Rattle.std.proofs.lemmas.Bool.{and_parts, and_from}
use Rattle.std.proofs.lemmas.Bool.Decides.{nat_tests}
use Rattle.std.proofs.lemmas.List.Folds.{list_all-append}
use Rattle.rr_model.specs.Moment.{day_part, second_part}
use Rattle.rr_model.specs.Moment.Years.{IsInYears}
use Rattle.rr_model.specs.Text.Digits.{is_digit}
use Rattle.rr_model.specs.Text.Written.{basic_date_text, basic_time_text, basic_text}
use Rattle.rr_model.specs.declared.kind.Kind.{Kind}
use Rattle.rr_model.specs.declared.kind.Kind.TheVariants.{Days, Moments}
use Rattle.rr_model.proofs.WholeLemmas.{floor_mod_below}
use Rattle.rr_text.proofs.WrittenLemmas.{decimal-digits, basic_date_text-digits, basic_time_text-digits}

-- a digit, a capital or `-`, as words, numbers and dates have
abbrev pub is_word_byte : ℕ → Bool
is_word_byte b = is_digit b || (nat_le 65 b && nat_le b 90) || (b == 45)

-- one of these or a comma, as lists of them have
abbrev pub is_value_byte : ℕ → Bool
is_value_byte b = is_word_byte b || (b == 44)

-- a byte from `,` to `Z`, as lines have
abbrev pub is_line_byte : ℕ → Bool
is_line_byte b = nat_le 44 b && nat_le b 90

-- no byte of the text is b
abbrev pub has_no : ℕ → List ℕ → Bool
has_no b text = list_all (λ c. not (c == b)) text

-- a test that passes if another does
pub list_all-weaker : {X : Type 0} (p q : X → Bool) → ((x : X) → p x ≡ true → q x ≡ true) → (xs : List X) → list_all p xs ≡ true → list_all q xs ≡ true
list_all-weaker p q weaker [] h = refl
list_all-weaker p q weaker (x ∷ xs) h =
    let parts = and_parts (p x) (list_all p xs) h in
    and_from (q x) (list_all q xs) (weaker x parts.0) (list_all-weaker p q weaker xs parts.1)

pub list_all-both : {X : Type 0} (p : X → Bool) (xs ys : List X) → list_all p xs ≡ true → list_all p ys ≡ true → list_all p (xs ++ ys) ≡ true
list_all-both p xs ys h k = list_all-append p xs ys ∙ and_from (list_all p xs) (list_all p ys) h k

-- ---- from one test to another

digit_word : (b : ℕ) → is_digit b ≡ true → is_word_byte b ≡ true
digit_word b h = grind (arith, nat_tests)

word_value : (b : ℕ) → is_word_byte b ≡ true → is_value_byte b ≡ true
word_value b h = grind (arith, nat_tests)

value_line : (b : ℕ) → is_value_byte b ≡ true → is_line_byte b ≡ true
value_line b h = grind (arith, nat_tests)

word_no_comma : (b : ℕ) → is_word_byte b ≡ true → not (b == 44) ≡ true
word_no_comma b h = grind (arith, nat_tests)

pub words-from_digits : (text : List ℕ) → list_all is_digit text ≡ true → list_all is_word_byte text ≡ true
words-from_digits = list_all-weaker is_digit is_word_byte digit_word

pub values-from_words : (text : List ℕ) → list_all is_word_byte text ≡ true → list_all is_value_byte text ≡ true
values-from_words = list_all-weaker is_word_byte is_value_byte word_value

pub line-from_values : (text : List ℕ) → list_all is_value_byte text ≡ true → list_all is_line_byte text ≡ true
line-from_values = list_all-weaker is_value_byte is_line_byte value_line

pub no_comma-from_words : (text : List ℕ) → list_all is_word_byte text ≡ true → has_no 44 text ≡ true
no_comma-from_words = list_all-weaker is_word_byte (λ b. not (b == 44)) word_no_comma

-- ---- texts

pub decimal-words : (n : ℕ) → n < 2 ^ 64 → list_all is_word_byte (decimal n) ≡ true
decimal-words n h = words-from_digits (decimal n) (decimal-digits n h)

pub signed_decimal-words : (z : ℤ) → nat_abs z < 2 ^ 64 → list_all is_word_byte (signed_decimal z) ≡ true
signed_decimal-words (pos n) h = decimal-words n h
signed_decimal-words (negsuc n) h = decimal-words (suc n) h

pub basic_text-words : (kind : Kind) (t : ℤ) → IsInYears kind t → list_all is_word_byte (basic_text kind t) ≡ true
unfolding basic_text
basic_text-words Days t h = words-from_digits (basic_date_text t) (basic_date_text-digits t h)
basic_text-words Moments t h =
    let below = floor_mod_below t 86_400 (omega arith) in
    let date = words-from_digits (basic_date_text (day_part Moments t)) (basic_date_text-digits (day_part Moments t) h) in
    let time = words-from_digits (basic_time_text (second_part Moments t)) (basic_time_text-digits (second_part Moments t) below) in
    list_all-both is_word_byte (basic_date_text (day_part Moments t) ++ codes "T") (basic_time_text (second_part Moments t))
    (list_all-both is_word_byte (basic_date_text (day_part Moments t)) (codes "T") date refl) time

-- words between commas
pub joined-values : (texts : List (List ℕ)) → AllByRecursion (λ (t : List ℕ). list_all is_word_byte t ≡ true) texts
    → list_all is_value_byte (join_with_byte 44 texts) ≡ true
joined-values [] h = refl
joined-values (text ∷ []) h = values-from_words text h.0
joined-values (text ∷ next ∷ texts) h =
    list_all-both is_value_byte text (44 ∷ join_with_byte 44 (next ∷ texts)) (values-from_words text h.0) (joined-values (next ∷ texts) h.1)
