-- Which lines of an event decide when it occurs.
use Rattle.std.specs.Prelude.{ℕ, Bool, ◌||◌, if◌then◌else◌, List, [], ◌∷◌, codes}
use Rattle.rr_model.specs.Text.UsedLines.{is_named}
use Rattle.rr_model.specs.declared.line.Line.{Line}

-- a line is one of those that decide when an event occurs
abbrev pub decides : List ℕ → Bool
decides text =
    is_named text (codes "DTSTART") || (is_named text (codes "RECURRENCE-ID") || (is_named text (codes "RRULE") || (is_named text (codes "EXRULE")
    || (is_named text (codes "RDATE") || is_named text (codes "EXDATE")))))

-- the words of a line: the line, if it is one of those that decide
abbrev pub line_words : Line → List (List ℕ)
line_words line = if decides line.text then line.text ∷ [] else []
