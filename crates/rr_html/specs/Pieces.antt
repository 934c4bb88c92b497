-- The fixed pieces of a page: all the markup that there can be in one.
use Rattle.std.specs.Prelude.{ℕ, List, codes}
use Rattle.rr_html.specs.declared.frame.FramePiece.{FramePiece}
use Rattle.rr_html.specs.declared.frame.FramePiece.TheVariants as frame
use Rattle.rr_html.specs.declared.head.HeadPiece.{HeadPiece}
use Rattle.rr_html.specs.declared.head.HeadPiece.TheVariants as head
use Rattle.rr_html.specs.declared.section.SectionPiece.{SectionPiece}
use Rattle.rr_html.specs.declared.section.SectionPiece.TheVariants as section
use Rattle.rr_html.specs.declared.event.EventPiece.{EventPiece}
use Rattle.rr_html.specs.declared.event.EventPiece.TheVariants as event
use Rattle.rr_html.specs.declared.sentence.SentencePiece.{SentencePiece}
use Rattle.rr_html.specs.declared.sentence.SentencePiece.TheVariants as sentence
use Rattle.rr_html.specs.declared.month.MonthPiece.{MonthPiece}
use Rattle.rr_html.specs.declared.month.MonthPiece.TheVariants as month
use Rattle.rr_html.specs.declared.todo.TodoPiece.{TodoPiece}
use Rattle.rr_html.specs.declared.todo.TodoPiece.TheVariants as todo
use Rattle.rr_html.specs.declared.frame.TheConstants.{FOOT, SCRIPT, STYLE}
use Rattle.rr_html.specs.declared.piece.Piece.{Piece}
use Rattle.rr_html.specs.declared.piece.Piece.TheVariants.{Frame, Head, Section, Event, Sentence, Month, Todo}

-- the pieces of the frame of a page
abbrev pub frame_text : FramePiece → List ℕ
frame_text frame.PageStart = codes "<!doctype html>\n<html lang=\"en\">\n<head>\n<meta charset=\"utf-8\">\n<meta name=\"viewport\" content=\"width=device-width, initial-scale=1\">\n<meta name=\"referrer\" content=\"no-referrer\">\n<meta http-equiv=\"Content-Security-Policy\" content=\"default-src 'none'; style-src 'unsafe-inline'; script-src 'sha256-fryOsdjmONmjU0kG1MChDKrZizWjU1I2MQ4QnyS4TkI='; base-uri 'none'; form-action 'none'\">\n<title>Two calendars compared</title>\n<style>\n"
frame_text frame.Style = STYLE.now
frame_text frame.BodyStart = codes "</style>\n</head>\n<body>\n<main>\n<h1>"
frame_text frame.Survived = codes "Every event survived"
frame_text frame.Differs = codes "Some events differ or are missing"
frame_text frame.Undecided = codes "No event differs, but some could not be compared"
frame_text frame.Unreadable = codes "The calendars could not be compared"
frame_text frame.LeadStart = codes "</h1>\n<p class=\"lead\">Events in all: "
frame_text frame.LeadEvents = codes ", compared for all years to come by rr-calendars "
frame_text frame.LeadUnreadable = codes "not counted, since a whole file could not be read by rr-calendars "
frame_text frame.LeadEnd = codes "</p>\n"
frame_text frame.SectionEnd = codes "</section>\n"
frame_text frame.Foot = FOOT.now
frame_text frame.Script = SCRIPT.now
frame_text frame.PageEnd = codes "</script>\n</body>\n</html>\n"
frame_text frame.RefusedFileA = codes "<p class=\"box\">The file <span class=\"side a\">A</span> is refused: <code>"
frame_text frame.RefusedFileB = codes "<p class=\"box\">The file <span class=\"side b\">B</span> is refused: <code>"
frame_text frame.RefusedFileEnd = codes "</code>.</p>\n"
frame_text frame.PageFoot = codes "</main>\n</body>\n</html>\n"

-- the pieces of the head of a page: files, options and counts
abbrev pub head_text : HeadPiece → List ℕ
head_text head.FilesStart = codes "<table class=\"files\">\n<thead><tr><th scope=\"col\">Side</th><th scope=\"col\">File</th><th scope=\"col\">Read as</th><th scope=\"col\">Bytes</th><th scope=\"col\">SHA-256</th></tr></thead>\n<tbody>\n"
head_text head.FileA = codes "<tr><th scope=\"row\"><span class=\"side a\">A</span></th><td><b>"
head_text head.FileB = codes "<tr><th scope=\"row\"><span class=\"side b\">B</span></th><td><b>"
head_text head.FileLanguage = codes "</b></td><td>"
head_text head.FileOffset = codes " with an offset of "
head_text head.FileBytes = codes "</td><td>"
head_text head.FileSum = codes "</td><td><code>"
head_text head.FileEnd = codes "</code></td></tr>\n"
head_text head.FilesEnd = codes "</tbody>\n</table>\n"
head_text head.OptionsStart = codes "<p class=\"lead\">Options: "
head_text head.OptionStrict = codes "<code>--strict</code> "
head_text head.OptionByUid = codes "<code>--by-uid</code> "
head_text head.OptionDifferences = codes "<code>--differences</code> "
head_text head.OptionZones = codes "<code>--zones</code> "
head_text head.CountsStart = codes "<ul class=\"counts\">\n<li><a href=\"#look\"><b>"
head_text head.CountUndecided = codes "</b> to look at</a></li>\n<li><a href=\"#undecided\"><b>"
head_text head.CountEqual = codes "</b> not comparable</a></li>\n<li><a href=\"#equal\"><b>"
head_text head.CountsEnd = codes "</b> equal</a></li>\n</ul>\n<input id=\"filter\" type=\"search\" autocomplete=\"off\" aria-label=\"Filter events by any text\" placeholder=\"Filter events by any text\" hidden>\n"

-- the pieces of sections and lists
abbrev pub section_text : SectionPiece → List ℕ
section_text section.LookStart = codes "<section aria-labelledby=\"look\">\n<h2 id=\"look\">To look at</h2>\n"
section_text section.LookNone = codes "<p class=\"box\">Nothing: no event differs, and none that occurs stands in one file alone.</p>\n"
section_text section.LeftOutStart = codes "<p class=\"box\">Further events that are left out of this page: "
section_text section.LeftOutEnd = codes ". Compare smaller files, or read the report without --html.</p>\n"
section_text section.UndecidedStart = codes "<section aria-labelledby=\"undecided\">\n<h2 id=\"undecided\">Not comparable</h2>\n"
section_text section.UndecidedNone = codes "<p class=\"box\">None.</p>\n"
section_text section.CancelledStart = codes "<section aria-labelledby=\"cancelled\">\n<h2 id=\"cancelled\">Cancelled</h2>\n<div class=\"box\">\n<p>One file alone has these events, and nothing occurs in them, as in a cancelled one.</p>\n<ul class=\"list\">\n"
section_text section.EqualStart = codes "<section aria-labelledby=\"equal\">\n<h2 id=\"equal\">Equal</h2>\n<details>\n<summary>The events that have the same occurrences, for all years to come</summary>\n<ul class=\"list\">\n"
section_text section.ItemStart = codes "<li><bdi>"
section_text section.ItemKey = codes "</bdi> <code>"
section_text section.ItemEnd = codes "</code></li>\n"
section_text section.ListEnd = codes "</ul>\n</div>\n</section>\n"
section_text section.EqualEnd = codes "</ul>\n</details>\n</section>\n"
section_text section.EqualLeftOut = codes "<section aria-labelledby=\"equal\">\n<h2 id=\"equal\">Equal</h2>\n<p class=\"box\">They are left out, as --differences asks.</p>\n</section>\n"

-- the pieces of an event
abbrev pub event_text : EventPiece → List ℕ
event_text event.EventA = codes "<article class=\"event a\">\n<h3 dir=\"auto\">"
event_text event.EventB = codes "<article class=\"event b\">\n<h3 dir=\"auto\">"
event_text event.EventBoth = codes "<article class=\"event both\">\n<h3 dir=\"auto\">"
event_text event.EventNone = codes "<article class=\"event none\">\n<h3 dir=\"auto\">"
event_text event.NoTitle = codes "(no title)"
event_text event.TitleEnd = codes "</h3>\n<p><code>"
event_text event.PartnerStart = codes "</code> in A, <code>"
event_text event.PartnerEnd = codes "</code> in B"
event_text event.KeyEnd = codes "</code>"
event_text event.KeyClose = codes "</p>\n<p class=\"said\">"
event_text event.SaidEnd = codes "</p>\n"
event_text event.SeriesStart = codes "<table class=\"series\">\n"
event_text event.SeriesA = codes "<tr><th scope=\"row\"><span class=\"side a\">A</span></th><td>"
event_text event.SeriesB = codes "<tr><th scope=\"row\"><span class=\"side b\">B</span></th><td>"
event_text event.SeriesRowEnd = codes "</td></tr>\n"
event_text event.SeriesEnd = codes "</table>\n"
event_text event.TimesStart = codes "<pre class=\"times\">"
event_text event.TimesEnd = codes "</pre>\n"
event_text event.EventEnd = codes "</article>\n"

-- the pieces of what is said of an event
abbrev pub sentence_text : SentencePiece → List ℕ
sentence_text sentence.OnlyA = codes "Only <span class=\"side a\">A</span> has this event."
sentence_text sentence.OnlyB = codes "Only <span class=\"side b\">B</span> has this event."
sentence_text sentence.FloatingA = codes "<span class=\"side a\">A</span> states local times without a time zone, and <span class=\"side b\">B</span> states a zone or UTC."
sentence_text sentence.FloatingB = codes "<span class=\"side b\">B</span> states local times without a time zone, and <span class=\"side a\">A</span> states a zone or UTC."
sentence_text sentence.LengthA = codes "The same times, but an occurrence lasts "
sentence_text sentence.LengthB = codes " in <span class=\"side a\">A</span> and "
sentence_text sentence.LengthEnd = codes " in <span class=\"side b\">B</span>."
sentence_text sentence.FirstStart = codes "The first difference is on <b>"
sentence_text sentence.FirstAhead = codes "</b> (UTC offset "
sentence_text sentence.FirstAheadEnd = codes ")"
sentence_text sentence.FirstEnd = codes "</b>"
sentence_text sentence.FirstA = codes ": only <span class=\"side a\">A</span> has an occurrence then."
sentence_text sentence.FirstB = codes ": only <span class=\"side b\">B</span> has an occurrence then."
sentence_text sentence.OnlyZones = codes " The local times are equal for ever: only the time zone is another one."
sentence_text sentence.NoMore = codes " It is the only one."
sentence_text sentence.MoreStart = codes " Further differences: "
sentence_text sentence.MoreUntil = codes ", the last on "
sentence_text sentence.MoreEnd = codes "."
sentence_text sentence.MoreMany = codes " Further differences: at least 9,999."
sentence_text sentence.MoreForEver = codes " There are more for ever."
sentence_text sentence.OtherTitle = codes " The title is another one in <span class=\"side b\">B</span>: the event was found again by its first occurrences."
sentence_text sentence.ReadUntil = codes " An UNTIL of another kind than the start was read as a date, to the end of that day."
sentence_text sentence.ReadStart = codes " The start, which its rule does not choose, was read as an occurrence."
sentence_text sentence.ReadDay = codes " An EXDATE or RECURRENCE-ID that is a date was read as the occurrence of that day."
sentence_text sentence.RefusedA = codes "It is not compared, since what <span class=\"side a\">A</span> states of it is refused: <code>"
sentence_text sentence.RefusedB = codes "It is not compared, since what <span class=\"side b\">B</span> states of it is refused: <code>"
sentence_text sentence.Alike = codes "Both files state it in the same words, which are refused: <code>"
sentence_text sentence.RefusalEnd = codes "</code>."
sentence_text sentence.Unsure = codes "The local times are equal for ever, but the time zones have different names, and not both are defined: nobody can tell whether they are the same moments."

-- the pieces of a month
abbrev pub month_text : MonthPiece → List ℕ
month_text month.MonthsStart = codes "<div class=\"months\">\n"
month_text month.MonthStart = codes "<table class=\"month\">\n<caption>"
month_text month.MonthHead = codes "</caption>\n<thead><tr><th scope=\"col\">Mo</th><th scope=\"col\">Tu</th><th scope=\"col\">We</th><th scope=\"col\">Th</th><th scope=\"col\">Fr</th><th scope=\"col\">Sa</th><th scope=\"col\">Su</th></tr></thead>\n<tbody>\n<tr>"
month_text month.OutCell = codes "<td class=\"out\"></td>"
month_text month.WeekEnd = codes "</tr>\n<tr>"
month_text month.CellSame = codes "<td class=\"same\"><span>"
month_text month.CellOther = codes "<td class=\"other\"><span>"
month_text month.CellA = codes "<td class=\"a\"><span>"
month_text month.CellB = codes "<td class=\"b\"><span>"
month_text month.CellNone = codes "<td><span>"
month_text month.SignSame = codes "</span><b>=</b></td>"
month_text month.SignOther = codes "</span><b>&ne;</b></td>"
month_text month.SignA = codes "</span><b>A</b></td>"
month_text month.SignB = codes "</span><b>B</b></td>"
month_text month.SignNone = codes "</span><b>&nbsp;</b></td>"
month_text month.MonthEnd = codes "</tr>\n</tbody>\n</table>\n"
month_text month.MonthsEnd = codes "</div>\n"

-- the pieces of what to do
abbrev pub todo_text : TodoPiece → List ℕ
todo_text todo.TodoOnlyA = codes "<p class=\"todo\">To do: enter it in B, unless it was left out on purpose.</p>\n"
todo_text todo.TodoOnlyB = codes "<p class=\"todo\">To do: keep it if it was entered on purpose; otherwise delete it from B.</p>\n"
todo_text todo.TodoFloating = codes "<p class=\"todo\">To do: give it a time zone where it has none.</p>\n"
todo_text todo.TodoLength = codes "<p class=\"todo\">To do: set the end of the event in B as it is in A.</p>\n"
todo_text todo.TodoA = codes "<p class=\"todo\">To do: enter in B what A alone has; the marked days show where.</p>\n"
todo_text todo.TodoB = codes "<p class=\"todo\">To do: take out of B what it alone has; the marked days show where.</p>\n"
todo_text todo.TodoZones = codes "<p class=\"todo\">To do: set the time zone of the event in B to that of A.</p>\n"
todo_text todo.TodoUnsure = codes "<p class=\"todo\">To do: compare again with a file that defines the zones, by --zones.</p>\n"
todo_text todo.AdviceStart = codes "<p class=\"todo\">To do: "
todo_text todo.AdviceEnd = codes "</p>\n"

-- a fixed piece of a page
unfoldable pub piece_text : Piece → List ℕ
piece_text (Frame piece) = frame_text piece
piece_text (Head piece) = head_text piece
piece_text (Section piece) = section_text piece
piece_text (Event piece) = event_text piece
piece_text (Sentence piece) = sentence_text piece
piece_text (Month piece) = month_text piece
piece_text (Todo piece) = todo_text piece
