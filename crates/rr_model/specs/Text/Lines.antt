-- The lines of a text (RFC 5545, section 3.1; vCalendar 1.0, section 2.1.3).
use Rattle.std.specs.Prelude.{ℕ, ◌+◌, ◌==◌, Bool, true, false, not, ◌&&◌, if◌then◌else◌, List, [], ◌∷◌, ◌++◌, drop, unwrap_or}
use Rattle.std.specs.List.{onto_first}
use Rattle.rr_model.specs.Text.Rules.{is_blank, text_after}
use Rattle.rr_model.specs.Rule.Validity.{is_absent}
use Rattle.rr_model.specs.declared.line.Line.{Line}

-- ---- physical lines

-- the text begins with a line feed
abbrev pub feeds_next : List ℕ → Bool
feeds_next [] = false
feeds_next (b ∷ bs) = b == 10

-- The physical lines: each is ended by CR LF or LF, which do not belong to it, or by the end of the text.
unfoldable pub physical_lines : List ℕ → List (List ℕ)
physical_lines [] = []
physical_lines (b ∷ bs) =
    if b == 10 then [] ∷ physical_lines bs
    else (if (b == 13) && feeds_next bs then physical_lines bs else onto_first b (physical_lines bs))

-- ---- unfolding

-- the physical line begins with a blank or a tab
abbrev pub begins_blank : List ℕ → Bool
begins_blank [] = false
begins_blank (b ∷ bs) = is_blank b

-- what it adds to the line before it: without its first byte, or whole
abbrev pub continuation : Bool → List ℕ → List ℕ
continuation true text = text
continuation false text = drop 1 text

-- the lines, the last of them made longer
abbrev pub onto_last : List Line → List ℕ → List Line
onto_last [] text = []
onto_last (line ∷ []) text = record { number = line.number; text = line.text ++ text } ∷ []
onto_last (line ∷ next ∷ lines) text = line ∷ onto_last (next ∷ lines) text

-- The lines with one more physical line, of this number. One that begins with a blank or a tab continues the last line, if there is one.
abbrev pub with_physical_line : Bool → ℕ → List Line → List ℕ → List Line
with_physical_line keeps_blank number lines text =
    if begins_blank text && not (is_absent lines) then onto_last lines (continuation keeps_blank text)
    else lines ++ record { number = number; text = text } ∷ []

-- the lines with the physical lines from this number on
abbrev pub with_physical_lines : Bool → ℕ → List Line → List (List ℕ) → List Line
with_physical_lines keeps_blank number lines [] = lines
with_physical_lines keeps_blank number lines (text ∷ texts) =
    with_physical_lines keeps_blank (number + 1) (with_physical_line keeps_blank number lines text) texts

-- The unfolded lines with their numbers. The break between two lines is removed, and the blank after it if it is not kept.
unfoldable pub unfolded_lines : Bool → List ℕ → List Line
unfolded_lines keeps_blank bytes = with_physical_lines keeps_blank 1 [] (physical_lines bytes)

-- the text without one byte order mark at its front
abbrev pub without_mark : List ℕ → List ℕ
without_mark bytes = unwrap_or (text_after (239 ∷ 187 ∷ 191 ∷ []) bytes) bytes
