-- Words, numbers and lists of a rule's text (RFC 5545, section 3.3.10). Letters are capitals.
use Rattle.std.specs.Prelude.{ℕ, ◌==◌, nat_le, nat_lt, Bool, ◌&&◌, if◌then◌else◌, List, [], ◌∷◌, length, codes}
use Rattle.std.specs.Prelude.{Option, None, Some, Result, Ok, Err}
use Rattle.std.specs.List.{list_all, slice_split}
use Rattle.std.specs.Str.{bytes_eq}
use Rattle.rr_model.specs.Text.Digits.{is_digit, digits_value}
use Rattle.rr_model.specs.Rising.{with_value}
use Rattle.rr_model.specs.declared.refusal.Refusal.{Refusal}
use Rattle.rr_model.specs.declared.refusal.Refusal.TheVariants.{BadRule, NumberRange}
use Rattle.rr_model.specs.declared.rule.Freq.{Freq}
use Rattle.rr_model.specs.declared.rule.Freq.TheVariants.{Secondly, Minutely, Hourly, Daily, Weekly, Monthly, Yearly}

-- what the next step makes of a value; the first refusal ends the reading
infixl 10 ◌>>=◌
abbrev pub ◌>>=◌ : {A B : Type 0} → Result A Refusal → (A → Result B Refusal) → Result B Refusal
(Ok x) >>= f = f x
(Err r) >>= f = Err r

-- the pieces of a text between the bytes b
abbrev pub pieces : ℕ → List ℕ → List (List ℕ)
pieces b text = slice_split (λ c. c == b) text

-- what stands beside a text in a table
abbrev pub in_table : {X : Type 0} → List (List ℕ × X) → List ℕ → Option X
in_table [] text = None
in_table (row ∷ rows) text = if bytes_eq text row.0 then Some row.1 else in_table rows text

-- ---- words

-- a frequency by its name
unfoldable pub freq_named : List ℕ → Option Freq
freq_named text = in_table
    ((codes "SECONDLY", Secondly) ∷ (codes "MINUTELY", Minutely) ∷ (codes "HOURLY", Hourly) ∷ (codes "DAILY", Daily)
    ∷ (codes "WEEKLY", Weekly) ∷ (codes "MONTHLY", Monthly) ∷ (codes "YEARLY", Yearly) ∷ []) text

-- a weekday, from 0 for Monday
unfoldable pub weekday_named : List ℕ → Option ℕ
weekday_named text = in_table
    ((codes "MO", 0) ∷ (codes "TU", 1) ∷ (codes "WE", 2) ∷ (codes "TH", 3) ∷ (codes "FR", 4) ∷ (codes "SA", 5) ∷ (codes "SU", 6) ∷ []) text

-- ---- numbers

-- the text is one or more digits
abbrev pub is_number : List ℕ → Bool
is_number text = nat_lt 0 (length text) && list_all is_digit text

-- n, if it is from 1 up to `most`
abbrev pub up_to : ℕ → ℕ → ℕ → Result ℕ Refusal
up_to line most n = if nat_le 1 n && nat_le n most then Ok n else Err (NumberRange line)

-- the number that the text writes, from 1 up to the most
unfoldable pub number_up_to : ℕ → ℕ → List ℕ → Result ℕ Refusal
number_up_to line most text = if is_number text then up_to line most (digits_value text) else Err (BadRule line)

-- ---- lists

-- The values in rising order, each judged before the next; repeats are dropped.
abbrev pub rising_values : {X : Type 0} → (X → X → Bool) → (List ℕ → Result X Refusal) → List X → List (List ℕ) → Result (List X) Refusal
rising_values below judged list [] = Ok list
rising_values below judged list (text ∷ texts) = do
  x ← judged text
  rising_values below judged (with_value below list x) texts

-- the values between commas: first the form of all, then each
abbrev pub list_of : {X : Type 0} → ℕ → (List ℕ → Bool) → (X → X → Bool) → (List ℕ → Result X Refusal) → List ℕ → Result (List X) Refusal
list_of line has_form below judged text =
    if list_all has_form (pieces 44 text) then rising_values below judged [] (pieces 44 text) else Err (BadRule line)
