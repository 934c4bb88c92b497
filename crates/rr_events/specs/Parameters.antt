-- The parameters of a line (RFC 5545, sections 3.1 and 3.2).
use Rattle.std.specs.Prelude.{◌≡◌, ℕ, ◌-◌, ◌<◌, ◌==◌, Bool, false, not, ◌&&◌, if◌then◌else◌, List, [], ◌∷◌, length, take, drop, bytes_eq, codes, Option, None, Some, option_map, IfSome}
use Rattle.std.specs.Borrow.{Bor}
use Rattle.std.specs.Option.{option_or}
use Rattle.std.specs.Str.{str_eq_ignore_ascii_case}
use Rattle.rr_model.specs.Text.Rules.{split_once}
use Rattle.rr_model.specs.Text.UsedLines.{after_colon, after_name, is_quoted_after}
use Rattle.rr_events.specs.declared.parameter.ParameterPiece.{ParameterPiece}

-- what stands before a text that ends another, without the byte between them
abbrev pub before_rest : List ℕ → Option (List ℕ) → List ℕ
before_rest text None = text
before_rest text (Some rest) = take (length text - length rest - 1) text

-- the parameters of a line: what stands between its name and the colon of its value
abbrev pub parameters_of : List ℕ → List ℕ
parameters_of text = before_rest (after_name text) (after_colon false (after_name text))

-- ---- the pieces between semicolons

-- one byte more at the front of the first text
abbrev pub onto_first : ℕ → List (List ℕ) → List (List ℕ)
onto_first b [] = (b ∷ []) ∷ []
onto_first b (text ∷ texts) = (b ∷ text) ∷ texts

-- the pieces of a text between semicolons that are not between two quotes
abbrev pub parameter_pieces : Bool → List ℕ → List (List ℕ)
parameter_pieces is_quoted [] = [] ∷ []
parameter_pieces is_quoted (b ∷ bs) =
    if (b == 59) && not is_quoted then [] ∷ parameter_pieces false bs else onto_first b (parameter_pieces (is_quoted_after is_quoted b bs) bs)

-- the pieces of what follows a piece, if a semicolon ends it
abbrev pub later_pieces : Option (List ℕ) → List (List ℕ)
later_pieces None = []
later_pieces (Some rest) = parameter_pieces false rest

-- what follows a piece
abbrev pub rest_of : ParameterPiece → Option (List ℕ)
rest_of piece = option_map (λ (rest : Bor (List ℕ)). rest.now) piece.rest

-- the first piece of a text, and what follows the semicolon behind it
pub record IsFirstPiece (text : List ℕ) (piece : ParameterPiece) : Type 0 where
  pub pieces : parameter_pieces false text ≡ piece.text.now ∷ later_pieces (rest_of piece)
  pub shorter : IfSome (rest_of piece) (λ rest. length rest < length text)

-- ---- one parameter

-- the text without a quote at its front
abbrev pub without_first_quote : List ℕ → List ℕ
without_first_quote text = if bytes_eq (take 1 text) (codes "\"") then drop 1 text else text

-- the text without a quote at its end
abbrev pub without_last_quote : List ℕ → List ℕ
without_last_quote text = if bytes_eq (drop (length text - 1) text) (codes "\"") then take (length text - 1) text else text

-- the text without the quotes around it
abbrev pub without_quotes : List ℕ → List ℕ
without_quotes text = without_last_quote (without_first_quote text)

-- the value of a parameter, if it has this name
abbrev pub value_named : List ℕ → Option (List ℕ × List ℕ) → Option (List ℕ)
value_named word None = None
value_named word (Some (name, value)) = if str_eq_ignore_ascii_case name word then Some (without_quotes value) else None

-- the value of the first parameter of this name
abbrev pub first_parameter : List ℕ → List (List ℕ) → Option (List ℕ)
first_parameter word [] = None
first_parameter word (text ∷ texts) = option_or (value_named word (split_once 61 text)) (first_parameter word texts)

-- the value of the parameter of this name of a line, whose parameters stand between semicolons; one between two quotes divides none
unfoldable pub parameter_of : List ℕ → List ℕ → Option (List ℕ)
parameter_of word text = first_parameter word (parameter_pieces false (parameters_of text))
