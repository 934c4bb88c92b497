-- In which words an event is stated, and its title (vCalendar 1.0, sections 2.1.3 and 2.2).
use Rattle.std.specs.Prelude.{ℕ, List, [], codes, map}
use Rattle.std.specs.List.{flat_map}
use Rattle.rr_model.specs.declared.line.Line.{Line}
use Rattle.rr_events.specs.Own.{first_value, own_lines}
use Rattle.rr_events.specs.Words.{line_words}
use Rattle.rr_seam.specs.Words.{Words}
use Rattle.rr_seam.specs.declared.words.Language.TheVariants.{Vcal}

-- The words of an event: its own lines that decide when it occurs, unfolded, in their order.
abbrev pub event_words : List Line → List (List ℕ)
event_words event = flat_map line_words (own_lines [] event)

-- the words of events
abbrev pub words_in : List (List Line) → Words
words_in events = record { language = Vcal; events = map event_words events }

-- The title of an event: the value of its first SUMMARY as it stands.
abbrev pub title_of : List Line → List ℕ
title_of event = first_value (codes "SUMMARY") (own_lines [] event)
