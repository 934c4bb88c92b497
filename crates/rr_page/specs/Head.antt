-- The head of a page: how the comparison ended, its files, its options and its counts.
use Rattle.std.specs.Prelude.{ℕ, ◌==◌, Bool, true, false, ◌&&◌, ◌||◌, if◌then◌else◌, ℤ, pos, neg_ℤ, int_lt, is_some, List, [], ◌++◌, length, Option, None, Some}
use Rattle.std.specs.Fmt.{decimal}
use Rattle.rr_facts.specs.Facts.{Facts, FileFacts}
use Rattle.rr_facts.specs.Sum.{sum_text}
use Rattle.rr_html.specs.Markup.{html_text}
use Rattle.rr_html.specs.Pieces.{piece_text}
use Rattle.rr_html.specs.declared.frame.FramePiece.{FramePiece}
use Rattle.rr_html.specs.declared.frame.FramePiece.TheVariants as frame
use Rattle.rr_html.specs.declared.head.HeadPiece.TheVariants as head
use Rattle.rr_html.specs.declared.section.SectionPiece.TheVariants as section
use Rattle.rr_html.specs.declared.piece.Piece.{Piece}
use Rattle.rr_html.specs.declared.piece.Piece.TheVariants.{Frame, Head, Section}
use Rattle.rr_model.specs.declared.verdict.Side.{Side}
use Rattle.rr_model.specs.declared.verdict.Side.TheVariants.{A, B, Both}
use Rattle.rr_page.specs.Class.{count_of, even_count}
use Rattle.rr_page.specs.declared.class.Class.TheVariants as class
use Rattle.rr_trip.specs.Counts.{counts_of, status_of}
use Rattle.rr_trip.specs.Printed.{offset_text}
use Rattle.rr_trip.specs.declared.report.ReportLine.{ReportLine}
use Rattle.rr_trip.specs.declared.report.Status.{Status}
use Rattle.rr_trip.specs.declared.report.Status.TheVariants as status

-- a piece if it is wanted
abbrev pub piece_if : Bool → Piece → List ℕ
piece_if true piece = piece_text piece
piece_if false piece = []

-- one of two pieces, by the side
abbrev pub by_side : Side → Piece → Piece → Piece
by_side A a b = a
by_side B a b = b
by_side Both a b = a

-- a number in a page
abbrev pub number_html : ℕ → List ℕ
number_html n = html_text (decimal n)

-- ---- files

-- an offset is less than a day either way
abbrev pub is_below_day : ℤ → Bool
is_below_day offset = int_lt (neg_ℤ (pos 86_400)) offset && int_lt offset (pos 86_400)

-- the stated offset of a file behind its language; none of a day or more is stated
unfoldable pub offset_html : Option ℤ → List ℕ
offset_html None = []
offset_html (Some offset) = if is_below_day offset then piece_text (Head head.FileOffset) ++ html_text (offset_text offset) else []

-- how many bytes a file has, and their sum
unfoldable pub bytes_html : List ℕ → List ℕ
bytes_html bytes =
    piece_text (Head head.FileBytes) ++ number_html (length bytes) ++ piece_text (Head head.FileSum) ++ html_text (sum_text bytes)
    ++ piece_text (Head head.FileEnd)

-- what a file is: its name, its language, how many bytes it has, and their sum
unfoldable pub file_html : FileFacts → List ℕ
file_html file =
    html_text file.name ++ piece_text (Head head.FileLanguage) ++ html_text file.language ++ offset_html file.offset ++ bytes_html file.bytes

-- the table of both files
unfoldable pub files_html : Facts → List ℕ
files_html facts =
    piece_text (Head head.FilesStart) ++ piece_text (Head head.FileA) ++ file_html facts.old
    ++ piece_text (Head head.FileB) ++ file_html facts.new ++ piece_text (Head head.FilesEnd)

-- ---- options

-- the name of a file of further zones, if one is given
unfoldable pub zones_html : Option (List ℕ) → List ℕ
zones_html None = []
zones_html (Some name) = piece_text (Head head.OptionZones) ++ html_text name

-- an option is given that a page tells
abbrev pub has_options : Facts → Bool
has_options facts = facts.strict || (facts.by_uid || (facts.only_differences || is_some facts.zones))

-- the options that are given, if there are some
unfoldable pub options_html : Facts → List ℕ
options_html facts =
    if has_options facts
    then piece_text (Head head.OptionsStart) ++ piece_if facts.strict (Head head.OptionStrict) ++ piece_if facts.by_uid (Head head.OptionByUid)
    ++ piece_if facts.only_differences (Head head.OptionDifferences) ++ zones_html facts.zones ++ piece_text (Frame frame.LeadEnd)
    else []

-- ---- counts

-- how many events are to look at, not comparable and equal
unfoldable pub counts_html : List ReportLine → List ℕ
counts_html lines =
    piece_text (Head head.CountsStart) ++ number_html (count_of class.Look lines)
    ++ piece_text (Head head.CountUndecided) ++ number_html (count_of class.Undecided lines)
    ++ piece_text (Head head.CountEqual) ++ number_html (even_count lines) ++ piece_text (Head head.CountsEnd)

-- ---- the head

-- how the comparison ended, in a sentence
abbrev pub status_piece : Status → FramePiece
status_piece status.Equal = frame.Survived
status_piece status.Differs = frame.Differs
status_piece status.Refused = frame.Undecided

-- the start of a page, with this sentence
unfoldable pub start_html : FramePiece → List ℕ
start_html sentence =
    piece_text (Frame frame.PageStart) ++ piece_text (Frame frame.Style) ++ piece_text (Frame frame.BodyStart) ++ piece_text (Frame sentence)
    ++ piece_text (Frame frame.LeadStart)

-- how many events there are, and the release that compares them
unfoldable pub lead_html : ℕ → List ℕ → List ℕ
lead_html events version =
    number_html events ++ piece_text (Frame frame.LeadEvents) ++ html_text version ++ piece_text (Frame frame.LeadEnd)

-- the head of the first section
unfoldable pub look_html : ℕ → List ℕ
look_html count = piece_text (Section section.LookStart) ++ piece_if (count == 0) (Section section.LookNone)

-- All that stands before the events to look at.
unfoldable pub head_html : Facts → List ReportLine → List ℕ
head_html facts lines =
    start_html (status_piece (status_of (counts_of lines))) ++ lead_html (length lines) facts.version
    ++ files_html facts ++ options_html facts ++ counts_html lines ++ look_html (count_of class.Look lines)
