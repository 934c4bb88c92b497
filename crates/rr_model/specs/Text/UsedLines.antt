-- The name and the value of a line (RFC 5545, section 3.1; vCalendar 1.0, section 2.1.1).
use Rattle.std.specs.Prelude.{ℕ, ◌==◌, Bool, false, not, ◌&&◌, ◌||◌, if◌then◌else◌, List, [], ◌∷◌, length, drop, codes, Option, None, Some, option_map}
use Rattle.std.specs.Char.{is_ascii_alphanumeric}
use Rattle.std.specs.List.{list_any, take_while}
use Rattle.std.specs.Str.{str_eq_ignore_ascii_case}
use Rattle.rr_model.specs.Text.Rules.{trim_start, trim_end}
use Rattle.rr_model.specs.declared.used.LineKind.{LineKind}
use Rattle.rr_model.specs.declared.used.LineKind.TheVariants.{Begin, End, Property, Other}
use Rattle.rr_model.specs.declared.used.LineName.TheVariants.{Dtstart, Rrule, Rdate, Exdate, Exrule}

-- a letter, a digit or `-`
abbrev pub is_name_byte : ℕ → Bool
is_name_byte b = is_ascii_alphanumeric b || (b == 45)

-- the name of a line: its longest front of such bytes
abbrev pub name_of_line : List ℕ → List ℕ
name_of_line text = take_while is_name_byte text

-- what follows the name of a line
abbrev pub after_name : List ℕ → List ℕ
after_name text = drop (length (name_of_line text)) text

-- the line has this name, in either case
abbrev pub is_named : List ℕ → List ℕ → Bool
is_named text word = str_eq_ignore_ascii_case (name_of_line text) word

-- ---- the value

-- the text has a quote
abbrev pub has_quote : List ℕ → Bool
has_quote text = list_any (λ b. b == 34) text

-- a place after a byte lies between two quotes: a quote opens if a further one follows, which closes it
abbrev pub is_quoted_after : Bool → ℕ → List ℕ → Bool
is_quoted_after is_quoted b bs = if b == 34 then not is_quoted && has_quote bs else is_quoted

-- what follows the first colon that is not between two quotes
abbrev pub after_colon : Bool → List ℕ → Option (List ℕ)
after_colon is_quoted [] = None
after_colon is_quoted (b ∷ bs) = if (b == 58) && not is_quoted then Some bs else after_colon (is_quoted_after is_quoted b bs) bs

-- a line goes on after its name with `;` or `:`
abbrev pub begins_value : List ℕ → Bool
begins_value [] = false
begins_value (b ∷ bs) = (b == 59) || (b == 58)

-- without the blanks and tabs around it
abbrev pub trim : List ℕ → List ℕ
trim text = trim_end (trim_start text)

-- the value of a line, if it has one: what follows its name, its parameters and the colon
unfoldable pub value_of_line : List ℕ → Option (List ℕ)
value_of_line text =
    if begins_value (after_name text) then option_map trim (after_colon false (after_name text)) else None

-- ---- names

-- which kind of line a line is, by its name
unfoldable pub line_kind : List ℕ → LineKind
line_kind text =
    if is_named text (codes "BEGIN") then Begin
    else (if is_named text (codes "END") then End
    else (if is_named text (codes "DTSTART") then Property Dtstart
    else (if is_named text (codes "RRULE") then Property Rrule
    else (if is_named text (codes "RDATE") then Property Rdate
    else (if is_named text (codes "EXDATE") then Property Exdate
    else (if is_named text (codes "EXRULE") then Property Exrule
    else Other))))))
