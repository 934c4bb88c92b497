-- Decimal digits, 0 to 9 of ASCII.
use Rattle.std.specs.Prelude.{ℕ, Bool, List}
use Rattle.std.specs.Char.{is_ascii_digit}
use Rattle.std.specs.List.{take_while}
use Rattle.std.specs.Str.Parse.{digits_value as number_in_base}

-- the byte is a decimal digit
abbrev pub is_digit : ℕ → Bool
is_digit b = is_ascii_digit b

-- the number that decimal digits write
abbrev pub digits_value : List ℕ → ℕ
digits_value digits = number_in_base 10 digits

-- the longest front of digits
abbrev pub leading_digits : List ℕ → List ℕ
leading_digits text = take_while is_digit text
