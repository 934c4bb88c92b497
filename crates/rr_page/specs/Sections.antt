-- The sections of a page behind the events to look at.
use Rattle.std.specs.Prelude.{ℕ, ◌-◌, ◌==◌, nat_lt, Bool, true, false, if◌then◌else◌, List, [], ◌∷◌, ◌++◌}
use Rattle.rr_facts.specs.Advice.{advice}
use Rattle.rr_facts.specs.Facts.{Facts}
use Rattle.rr_html.specs.Markup.{html_text}
use Rattle.rr_html.specs.Pieces.{piece_text}
use Rattle.rr_html.specs.declared.event.EventPiece.TheVariants as event
use Rattle.rr_html.specs.declared.frame.FramePiece.TheVariants as frame
use Rattle.rr_html.specs.declared.section.SectionPiece.TheVariants as section
use Rattle.rr_html.specs.declared.sentence.SentencePiece.TheVariants as sentence
use Rattle.rr_html.specs.declared.todo.TodoPiece.TheVariants as todo
use Rattle.rr_html.specs.declared.piece.Piece.{Piece}
use Rattle.rr_html.specs.declared.piece.Piece.TheVariants.{Event, Frame, Section, Sentence, Todo}
use Rattle.rr_page.specs.Class.{count_of, is_of, is_shown, left_behind}
use Rattle.rr_page.specs.Event.{key_html, name_html, title_html}
use Rattle.rr_page.specs.Head.{by_side, number_html, piece_if}
use Rattle.rr_page.specs.declared.class.Class.{Class}
use Rattle.rr_page.specs.declared.class.Class.TheVariants as class
use Rattle.rr_page.specs.declared.class.TheConstants.{MOST_EVENTS}
use Rattle.rr_seam.specs.declared.refusal.KeyRefusal.{KeyRefusal}
use Rattle.rr_trip.specs.Printed.{key_refusal_text}
use Rattle.rr_trip.specs.declared.report.ReportLine.{ReportLine}
use Rattle.rr_trip.specs.declared.said.Said.{Said}
use Rattle.rr_trip.specs.declared.said.Said.TheVariants.{Only, Refused, Alike, Floating, Length, Compared}

-- how many events of a class are left out of a page, if some are
unfoldable pub left_out_html : ℕ → List ℕ
left_out_html count =
    if nat_lt MOST_EVENTS count
    then piece_text (Section section.LeftOutStart) ++ number_html (count - MOST_EVENTS) ++ piece_text (Section section.LeftOutEnd)
    else []

-- ---- events that can't be compared

-- a refusal in a sentence
abbrev pub refused_html : Piece → KeyRefusal → List ℕ
refused_html piece refusal =
    piece_text piece ++ html_text (key_refusal_text refusal) ++ piece_text (Sentence sentence.RefusalEnd)

-- why events can't be compared
unfoldable pub why_html : Said → List ℕ
why_html (Only side) = piece_text (Sentence sentence.Unsure)
why_html (Refused side refusal) = refused_html (by_side side (Sentence sentence.RefusedA) (Sentence sentence.RefusedB)) refusal
why_html (Alike refusal) = refused_html (Sentence sentence.Alike) refusal
why_html (Floating side) = piece_text (Sentence sentence.Unsure)
why_html (Length other) = piece_text (Sentence sentence.Unsure)
why_html (Compared verdict zones) = piece_text (Sentence sentence.Unsure)

-- what to do, as advice in a text
unfoldable pub advice_html : List ℕ → List ℕ
advice_html text = piece_text (Todo todo.AdviceStart) ++ html_text text ++ piece_text (Todo todo.AdviceEnd)

-- what to do about events that can't be compared
unfoldable pub help_html : Said → List ℕ
help_html (Only side) = piece_text (Todo todo.TodoUnsure)
help_html (Refused side refusal) = advice_html (advice refusal)
help_html (Alike refusal) = advice_html (advice refusal)
help_html (Floating side) = piece_text (Todo todo.TodoUnsure)
help_html (Length other) = piece_text (Todo todo.TodoUnsure)
help_html (Compared verdict zones) = piece_text (Todo todo.TodoUnsure)

-- events that can't be compared: what they are called, why, and what to do
unfoldable pub undecided_html : ReportLine → List ℕ
undecided_html line =
    piece_text (Event event.EventNone) ++ name_html line ++ why_html line.said ++ piece_text (Event event.SaidEnd) ++ help_html line.said
    ++ piece_text (Event event.EventEnd)

-- the events of a line that can't be compared, if it has some and `left` more may be shown
abbrev pub undecided_if : ℕ → ReportLine → List ℕ
undecided_if left line = if is_shown class.Undecided left line then undecided_html line else []

-- the events of lines that can't be compared, `left` at most
abbrev pub each_undecided_html : ℕ → List ReportLine → List ℕ
each_undecided_html left [] = []
each_undecided_html left (line ∷ lines) = undecided_if left line ++ each_undecided_html (left_behind class.Undecided left line) lines

-- the section of events that can't be compared
unfoldable pub undecided_section : List ReportLine → List ℕ
undecided_section lines =
    piece_text (Section section.UndecidedStart)
    ++ piece_if (count_of class.Undecided lines == 0) (Section section.UndecidedNone)
    ++ each_undecided_html MOST_EVENTS lines ++ left_out_html (count_of class.Undecided lines) ++ piece_text (Frame frame.SectionEnd)

-- ---- lists

-- an event in a list: its title and its key
unfoldable pub item_html : ReportLine → List ℕ
item_html line =
    piece_text (Section section.ItemStart) ++ title_html line.title ++ piece_text (Section section.ItemKey) ++ key_html line.key
    ++ piece_text (Section section.ItemEnd)

-- an event in a list, if its line is of a class
abbrev pub item_if : Class → ReportLine → List ℕ
item_if c line = if is_of c line then item_html line else []

-- the events of a class
abbrev pub items_html : Class → List ReportLine → List ℕ
items_html c [] = []
items_html c (line ∷ lines) = item_if c line ++ items_html c lines

-- the section of cancelled events, if there are some
unfoldable pub cancelled_section : List ReportLine → List ℕ
cancelled_section lines =
    if count_of class.Cancelled lines == 0 then []
    else piece_text (Section section.CancelledStart) ++ items_html class.Cancelled lines ++ piece_text (Section section.ListEnd)

-- the section of equal events, or that they are left out
unfoldable pub equal_section : Bool → List ReportLine → List ℕ
equal_section true lines = piece_text (Section section.EqualLeftOut)
equal_section false lines = piece_text (Section section.EqualStart) ++ items_html class.Equal lines ++ piece_text (Section section.EqualEnd)

-- ---- all of them

-- All that stands behind the events to look at.
unfoldable pub rest_html : Facts → List ReportLine → List ℕ
rest_html facts lines =
    left_out_html (count_of class.Look lines) ++ piece_text (Frame frame.SectionEnd) ++ undecided_section lines ++ cancelled_section lines
    ++ equal_section facts.only_differences lines ++ piece_text (Frame frame.Foot) ++ piece_text (Frame frame.Script)
    ++ piece_text (Frame frame.PageEnd)
