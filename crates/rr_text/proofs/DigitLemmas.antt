-- Decimal digits and the numbers that they write.
use Rattle.std.proofs.Common.{◌≡◌, ℕ, ◌+◌, ◌-◌, ◌*◌, ◌^◌, ◌<◌, ◌≤◌, true, List, [], ◌∷◌, length, get_or, take, ap, ◌∙◌, arith}
use Rattle.std.specs.Char.{digit_value}
use Rattle.std.specs.List.{AllPass, list_all, prefix_len}
use Rattle.std.specs.Str.Parse.{AllDigits}
use Rattle.std.proofs.lemmas.Bool.Decides.{nat_tests}
use Rattle.std.proofs.lemmas.Int.Digits.{digits_value_more, digits_value-lt}
use Rattle.std.proofs.lemmas.List.{get_or-take}
use Rattle.std.proofs.lemmas.List.Folds.{length-prefix_len}
use Rattle.std.proofs.lemmas.List.Sums.{prefix_len_passes}
use Rattle.std.proofs.lemmas.Str.Parse.{digits_value-take-le}
use Rattle.rr_model.specs.Text.Digits.{is_digit, digits_value, leading_digits}

pub is_digit_bounds : (b : ℕ) → is_digit b ≡ true → (48 ≤ b) × (b ≤ 57)
is_digit_bounds b h = grind (arith, nat_tests)

pub digit_value-digit : (b : ℕ) → is_digit b ≡ true → digit_value b ≡ b - 48
digit_value-digit b h = let range = is_digit_bounds b h in grind (arith, nat_tests)

-- one digit more
pub digits_value_next : (bs : List ℕ) (i : ℕ) → i < length bs → is_digit (get_or bs i 0) ≡ true
    → digits_value (take (i + 1) bs) ≡ digits_value (take i bs) * 10 + (get_or bs i 0 - 48)
digits_value_next bs i h digit =
    digits_value_more 10 bs i h ∙ ap (λ n. digits_value (take i bs) * 10 + n) (digit_value-digit (get_or bs i 0) digit)

pub digits_value-front : (bs : List ℕ) (i : ℕ) → digits_value (take i bs) ≤ digits_value bs
digits_value-front bs i = digits_value-take-le 10 bs i (omega arith)

all_digits : (bs : List ℕ) → list_all is_digit bs ≡ true → AllDigits 10 bs
all_digits [] h = tt
all_digits (b ∷ bs) h = grind (arith, nat_tests, digit_value-digit b, all_digits bs)

-- n digits write a number below the n-th power of ten
pub digits_value_below : (bs : List ℕ) → list_all is_digit bs ≡ true → digits_value bs < 10 ^ length bs
digits_value_below bs h = digits_value-lt 10 bs (all_digits bs h)

pub AllPass-leading_digits : (bs : List ℕ) → AllPass is_digit (leading_digits bs)
AllPass-leading_digits bs = λ k d h.
    let inside : k < prefix_len is_digit bs = omega (arith, length-prefix_len is_digit bs) in
    ap is_digit (get_or-take (prefix_len is_digit bs) bs k d inside) ∙ prefix_len_passes is_digit bs k d inside
