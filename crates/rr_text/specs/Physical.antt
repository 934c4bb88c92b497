-- How a text is cut after its first physical line (RFC 5545, section 3.1).
use Rattle.std.specs.Prelude.{◌≡◌, ◌⊎◌, ℕ, ◌-◌, ◌<◌, if◌then◌else◌, List, [], ◌∷◌, ◌++◌, length, take, drop, codes}
use Rattle.std.specs.Str.{bytes_eq}
use Rattle.rr_model.specs.Text.Lines.{physical_lines}

-- the text without one carriage return at its end
abbrev pub without_return : List ℕ → List ℕ
without_return text = if bytes_eq (drop (length text - 1) text) (codes "\r") then take (length text - 1) text else text

-- the text ends with a line feed
pub record EndsWithFeed (text : List ℕ) : Type 0 where
  pub front : List ℕ
  pub is : text ≡ front ++ 10 ∷ []

-- a text is a part of whole physical lines, and the rest
pub record IsPart (text part rest : List ℕ) : Type 0 where
  pub joined : text ≡ part ++ rest
  pub ends : (rest ≡ []) ⊎ EndsWithFeed part

-- the text has this first physical line, and the physical lines of the rest, which is shorter
pub record IsCutAt (text line rest : List ℕ) : Type 0 where
  pub lines : physical_lines text ≡ line ∷ physical_lines rest
  pub shorter : length rest < length text
  pub part : List ℕ
  pub parts : IsPart text part rest
