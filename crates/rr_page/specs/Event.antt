-- An event to look at, on a page.
use Rattle.std.specs.Prelude.{ℕ, Bool, true, false, ◌&&◌, is_none, if◌then◌else◌, List, [], ◌∷◌, ◌++◌, Option, None, Some}
use Rattle.rr_html.specs.Markup.{html_text}
use Rattle.rr_html.specs.Pieces.{piece_text}
use Rattle.rr_html.specs.declared.event.EventPiece.{EventPiece}
use Rattle.rr_html.specs.declared.event.EventPiece.TheVariants as event
use Rattle.rr_html.specs.declared.todo.TodoPiece.TheVariants as todo
use Rattle.rr_html.specs.declared.piece.Piece.{Piece}
use Rattle.rr_html.specs.declared.piece.Piece.TheVariants.{Event, Todo}
use Rattle.rr_model.specs.declared.rule.Series.{Series}
use Rattle.rr_model.specs.declared.verdict.Side.{Side}
use Rattle.rr_model.specs.declared.verdict.Side.TheVariants.{A, B, Both}
use Rattle.rr_model.specs.declared.verdict.Verdict.TheVariants.{Yes, No}
use Rattle.rr_page.specs.Head.{by_side}
use Rattle.rr_page.specs.Month.{months_html, times_html}
use Rattle.rr_page.specs.Said.{is_only_zones, marks_html, said_html}
use Rattle.rr_seam.specs.declared.key.Key.{Key}
use Rattle.rr_title.specs.Title.{title_text}
use Rattle.rr_trip.specs.Printed.{key_text}
use Rattle.rr_trip.specs.declared.detail.Detail.{Detail}
use Rattle.rr_trip.specs.declared.detail.Difference.{Difference}
use Rattle.rr_trip.specs.declared.report.Partner.{Partner}
use Rattle.rr_trip.specs.declared.report.ReportLine.{ReportLine}
use Rattle.rr_trip.specs.declared.said.Said.{Said}
use Rattle.rr_trip.specs.declared.said.Said.TheVariants.{Only, Refused, Alike, Floating, Length, Compared}
use Rattle.rr_wording.specs.Words.{series_words}

-- ---- what the events are called

-- a title, or that there is none
abbrev pub title_html : Option (List ℕ) → List ℕ
title_html None = piece_text (Event event.NoTitle)
title_html (Some []) = piece_text (Event event.NoTitle)
title_html (Some (b ∷ bs)) = html_text (title_text (b ∷ bs))

-- a key
abbrev pub key_html : Key → List ℕ
key_html key = html_text (key_text key)

-- the end of a key, with the key in B if that is another one
abbrev pub partner_html : Option Partner → List ℕ
partner_html None = piece_text (Event event.KeyEnd)
partner_html (Some partner) = piece_text (Event event.PartnerStart) ++ key_html partner.key ++ piece_text (Event event.PartnerEnd)

-- the title and the key of a line, up to what is said of it
unfoldable pub name_html : ReportLine → List ℕ
name_html line =
    title_html line.title ++ piece_text (Event event.TitleEnd) ++ key_html line.key ++ partner_html line.partner ++ piece_text (Event event.KeyClose)

-- the start of an event, by the side that has something alone
abbrev pub start_of_side : Side → EventPiece
start_of_side A = event.EventA
start_of_side B = event.EventB
start_of_side Both = event.EventBoth

-- the start of an event of which this is said
unfoldable pub start_piece : Said → EventPiece
start_piece (Only side) = start_of_side side
start_piece (Refused side refusal) = event.EventNone
start_piece (Alike refusal) = event.EventNone
start_piece (Floating side) = event.EventBoth
start_piece (Length other) = event.EventBoth
start_piece (Compared Yes zones) = event.EventNone
start_piece (Compared (No kind at side) zones) = start_of_side side

-- ---- what the files state of them

-- the series of a side in words, if it states one
abbrev pub side_html : EventPiece → Option Series → List ℕ
side_html piece None = []
side_html piece (Some series) = piece_text (Event piece) ++ html_text (series_words series) ++ piece_text (Event event.SeriesRowEnd)

-- those of both sides
unfoldable pub series_html : Option Series → Option Series → List ℕ
series_html a b =
    if is_none a && is_none b then []
    else piece_text (Event event.SeriesStart) ++ side_html event.SeriesA a ++ side_html event.SeriesB b ++ piece_text (Event event.SeriesEnd)

-- where the local times of the two files differ
unfoldable pub difference_html : Option Difference → List ℕ
difference_html None = []
difference_html (Some difference) = months_html difference.months.items ++ times_html difference.times.items

-- ---- what to do

-- what to do about a moment that one side alone has
abbrev pub todo_of_no : Side → Bool → Piece
todo_of_no side true = Todo todo.TodoZones
todo_of_no side false = by_side side (Todo todo.TodoA) (Todo todo.TodoB)

-- what to do about events to look at
unfoldable pub todo_html : Said → List ℕ
todo_html (Only side) = piece_text (by_side side (Todo todo.TodoOnlyA) (Todo todo.TodoOnlyB))
todo_html (Refused side refusal) = []
todo_html (Alike refusal) = []
todo_html (Floating side) = piece_text (Todo todo.TodoFloating)
todo_html (Length other) = piece_text (Todo todo.TodoLength)
todo_html (Compared Yes zones) = []
todo_html (Compared (No kind at side) zones) = piece_text (todo_of_no side (is_only_zones zones))

-- ---- the event

-- Events to look at: what they are called, what is said of them, what each file states, where they differ, and what to do.
unfoldable pub event_html : ReportLine → Detail → List ℕ
event_html line detail =
    piece_text (Event (start_piece line.said)) ++ name_html line ++ said_html line.said detail.difference ++ marks_html line.partner line.marks
    ++ piece_text (Event event.SaidEnd) ++ series_html detail.series_a detail.series_b ++ difference_html detail.difference
    ++ todo_html line.said ++ piece_text (Event event.EventEnd)
