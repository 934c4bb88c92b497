-- In which words an event is stated, and its title (RFC 5545, sections 3.1, 3.3.11, 3.8.1.11, 3.8.1.12, 3.8.2.4, 3.8.4.4 and 3.8.5).
use Rattle.std.specs.Prelude.{ℕ, ◌==◌, Bool, true, false, ◌||◌, if◌then◌else◌, List, [], ◌∷◌, ◌++◌, codes}
use Rattle.std.specs.List.{flat_map}
use Rattle.rr_model.specs.declared.line.Line.{Line}
use Rattle.rr_events.specs.Own.{first_value, own_lines}
use Rattle.rr_events.specs.Words.{line_words}
use Rattle.rr_icalfile.specs.Event.{is_cancelled}

-- ---- words

-- one line more, if the event is cancelled
abbrev pub cancelled_words : Bool → List (List ℕ)
cancelled_words true = codes "STATUS:CANCELLED" ∷ []
cancelled_words false = []

-- the words of an event with these own lines: those that decide, and one line more if it is cancelled
abbrev pub words_of : List Line → List (List ℕ)
words_of own = flat_map line_words own ++ cancelled_words (is_cancelled own)

-- The words of an event: its own lines that decide when it occurs, unfolded, in their order, and one line more if it is cancelled.
abbrev pub event_words : List Line → List (List ℕ)
event_words lines = words_of (own_lines [] lines)

-- ---- the title

-- what a backslash and this byte stand for: a line break, which is read as a blank, or the byte; before any other byte a backslash stands for itself
abbrev pub escaped : ℕ → List ℕ
escaped b =
    if (b == 110) || (b == 78) then 32 ∷ []
    else (if (b == 44) || ((b == 59) || (b == 92)) then b ∷ [] else 92 ∷ b ∷ [])

-- a value of text as it reads, behind a backslash that is open, or none
abbrev pub unescaped : Bool → List ℕ → List ℕ
unescaped false [] = []
unescaped true [] = 92 ∷ []
unescaped false (b ∷ bs) = if b == 92 then unescaped true bs else b ∷ unescaped false bs
unescaped true (b ∷ bs) = escaped b ++ unescaped false bs

-- The title of an event: its first SUMMARY as it reads.
abbrev pub title_of : List Line → List ℕ
title_of lines = unescaped false (first_value (codes "SUMMARY") (own_lines [] lines))
