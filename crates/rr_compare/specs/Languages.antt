-- In which language a calendar file is, as its content tells it.
use Rattle.std.specs.Prelude.{ℕ, ◌==◌, Bool, true, false, not, ◌||◌, if◌then◌else◌, List, [], ◌∷◌, slice_index, position, Option, Some, None, unwrap_or, bytes_eq, codes}
use Rattle.rr_model.specs.Text.Lines.{physical_lines, without_mark}
use Rattle.rr_model.specs.Text.UsedLines.{is_named, line_kind, trim, value_of_line}
use Rattle.rr_model.specs.declared.used.LineKind.{LineKind}
use Rattle.rr_model.specs.declared.used.LineKind.TheVariants.{Begin, End, Property, Other}
use Rattle.rr_compare.specs.declared.operand.Language.{Language}
use Rattle.rr_compare.specs.declared.operand.Language.TheVariants.{Ics, Graph, Vcal}

-- JSON lets the byte stand between its parts (RFC 8259, section 2)
abbrev pub is_json_blank : ℕ → Bool
is_json_blank b = (b == 32) || ((b == 9) || ((b == 10) || (b == 13)))

-- the byte is part of a value
abbrev pub is_json_part : ℕ → Bool
is_json_part b = not (is_json_blank b)

-- the byte begins an object or an array
abbrev pub is_open : ℕ → Bool
is_open b = (b == 123) || (b == 91)

-- an object or an array begins at this place
abbrev pub is_open_at : List ℕ → Option ℕ → Bool
is_open_at text None = false
is_open_at text (Some i) = is_open (slice_index text i)

-- the first byte that is no blank begins an object or an array
abbrev pub is_json : List ℕ → Bool
is_json text = is_open_at text (position is_json_part text)

-- a line of this kind begins a component
abbrev pub is_begin_kind : LineKind → Bool
is_begin_kind Begin = true
is_begin_kind End = false
is_begin_kind (Property name) = false
is_begin_kind Other = false

-- a line begins a component
abbrev pub is_begin : List ℕ → Bool
is_begin line = is_begin_kind (line_kind line)

-- a line of this kind begins or ends a component
abbrev pub is_component_kind : LineKind → Bool
is_component_kind Begin = true
is_component_kind End = true
is_component_kind (Property name) = false
is_component_kind Other = false

-- the value of a line is that of the first version
abbrev pub says_version_one : List ℕ → Bool
says_version_one line = bytes_eq (trim (unwrap_or (value_of_line line) [])) (codes "1.0")

-- what a line says of the version, after the first BEGIN or before it: nothing before it, and no at the next BEGIN or END
abbrev pub head_says : Bool → List ℕ → Option Bool
head_says begun line =
    if not begun then None
    else (if is_component_kind (line_kind line) then Some false
    else (if is_named line (codes "VERSION") then Some (says_version_one line) else None))

-- what a line says, or otherwise what the lines after it say
abbrev pub said_or : Option Bool → Bool → Bool
said_or (Some answer) rest = answer
said_or None rest = rest

-- the lines say that the version is the first one; the first BEGIN stands before them or not
abbrev pub version_from : Bool → List (List ℕ) → Bool
version_from begun [] = false
version_from begun (line ∷ lines) = said_or (head_says begun line) (version_from (begun || is_begin line) lines)

-- the first component of a text says, before it has components of its own, that it is vCalendar 1.0
abbrev pub is_version_one : List ℕ → Bool
is_version_one text = version_from false (physical_lines text)

-- the language of a text without a byte order mark
abbrev pub text_language : List ℕ → Language
text_language text = if is_json text then Graph else (if is_version_one text then Vcal else Ics)

-- the language of a file by its content
abbrev pub language_in : List ℕ → Language
language_in bytes = text_language (without_mark bytes)

-- the language of a file: the stated one, otherwise that which its content tells
abbrev pub language_by : Option Language → List ℕ → Language
language_by (Some language) bytes = language
language_by None bytes = language_in bytes
