-- A word that names a calendar file: `NAME`, `LANGUAGE:NAME` or `LANGUAGE@OFFSET:NAME`.
use Rattle.std.specs.Prelude.{ℕ, ◌==◌, nat_eq, nat_lt, Bool, ◌||◌, if◌then◌else◌, ℤ, List, length, Option, Some, None, option_and_then, bytes_eq, codes}
use Rattle.std.specs.List.{after_first, before_first, position_or_len, starts_with}
use Rattle.rr_text.specs.Offset.{offset_of}
use Rattle.rr_compare.specs.declared.operand.Language.{Language}
use Rattle.rr_compare.specs.declared.operand.Language.TheVariants.{Ics, Graph, Vcal}

-- a calendar file: its language, if the word states it, its own offset from UTC in seconds, and its name
pub record Operand : Type 0 where
  pub language : Option Language
  pub offset : Option ℤ
  pub name : List ℕ

-- the language of this name
abbrev pub language_of : List ℕ → Option Language
language_of text =
    if bytes_eq text (codes "ics") then Some Ics
    else if bytes_eq text (codes "graph") then Some Graph
    else if bytes_eq text (codes "vcal") then Some Vcal
    else None

-- what stands before and after the first such byte, if there is one
abbrev pub split_around : ℕ → List ℕ → Option (List ℕ × List ℕ)
split_around byte text =
    if nat_lt (position_or_len (λ b. b == byte) text) (length text)
    then Some (before_first (λ b. b == byte) text, after_first (λ b. b == byte) text)
    else None

-- a word that is no file's name: it is empty, or begins with `--`
abbrev pub is_no_name : List ℕ → Bool
is_no_name word = (length word == 0) || starts_with nat_eq word (codes "--")

-- a file of which no language is stated
abbrev pub bare : List ℕ → Option Operand
bare name = if is_no_name name then None else Some (record { language = None; offset = None; name = name })

-- a file of a stated language, whose name is not empty
abbrev pub named : Language → Option ℤ → List ℕ → Option Operand
named language offset name = if length name == 0 then None else Some (record { language = Some language; offset = offset; name = name })

-- a file of a stated language and an offset: its sign and hours, and what stands after the colon
abbrev pub with_own_offset : Language → List ℕ → List ℕ → Option Operand
with_own_offset language hours rest =
    option_and_then (λ parts. option_and_then (λ offset. named language (Some offset) parts.1) (offset_of hours parts.0)) (split_around 58 rest)

-- the file of a word, by the language before its first colon: a bare name if that is none
abbrev pub by_language : List ℕ → List ℕ → Option Language → Option Operand
by_language word rest None = bare word
by_language word rest (Some language) = named language None rest

-- the file of a word, by the language before an `@`, and the sign and hours between that and its first colon
abbrev pub by_offset : List ℕ → List ℕ → List ℕ → Option Language → Option Operand
by_offset word hours rest None = bare word
by_offset word hours rest (Some language) = with_own_offset language hours rest

-- the file of a word, by what stands before and after its first colon
abbrev pub by_parts : List ℕ → List ℕ → List ℕ → Option (List ℕ × List ℕ) → Option Operand
by_parts word head rest None = by_language word rest (language_of head)
by_parts word head rest (Some (text, hours)) = by_offset word hours rest (language_of text)

-- the file of a word, by what stands around its first colon
abbrev pub by_colon : List ℕ → Option (List ℕ × List ℕ) → Option Operand
by_colon word None = bare word
by_colon word (Some (head, rest)) = by_parts word head rest (split_around 64 head)

-- the file that a word names, if it is one
unfoldable pub operand_of : List ℕ → Option Operand
operand_of word = by_colon word (split_around 58 word)
