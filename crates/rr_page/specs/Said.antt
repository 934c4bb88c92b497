-- What is said of events to look at, in sentences.
use Rattle.std.specs.Prelude.{ℕ, Bool, false, ℤ, List, [], ◌++◌, Option, None, Some}
use Rattle.rr_differ.specs.declared.further.Further.{Further}
use Rattle.rr_differ.specs.declared.further.Further.TheVariants.{NoMore, Until, Many, ForEver}
use Rattle.rr_html.specs.Markup.{html_text}
use Rattle.rr_html.specs.Pieces.{piece_text}
use Rattle.rr_html.specs.declared.sentence.SentencePiece.TheVariants as sentence
use Rattle.rr_html.specs.declared.piece.Piece.TheVariants.{Sentence}
use Rattle.rr_length.specs.declared.other.OtherLength.{OtherLength}
use Rattle.rr_model.specs.declared.kind.Kind.{Kind}
use Rattle.rr_model.specs.declared.verdict.Side.{Side}
use Rattle.rr_model.specs.declared.verdict.Verdict.TheVariants.{Yes, No}
use Rattle.rr_page.specs.Head.{by_side, number_html, piece_if}
use Rattle.rr_page.specs.Words.{length_words}
use Rattle.rr_seam.specs.declared.marks.Marks.{Marks}
use Rattle.rr_trip.specs.Printed.{ahead_text}
use Rattle.rr_trip.specs.declared.detail.Difference.{Difference}
use Rattle.rr_trip.specs.declared.report.Partner.{Partner}
use Rattle.rr_trip.specs.declared.said.Said.{Said}
use Rattle.rr_trip.specs.declared.said.Said.TheVariants.{Only, Refused, Alike, Floating, Length, Compared}
use Rattle.rr_trip.specs.declared.said.Zones.{Zones}
use Rattle.rr_trip.specs.declared.said.Zones.TheVariants.{Local, Unknown, Moments}
use Rattle.rr_wording.specs.Dates.{moment_words}

-- the lengths of an occurrence
unfoldable pub lengths_html : OtherLength → List ℕ
lengths_html other =
    piece_text (Sentence sentence.LengthA) ++ html_text (length_words other.a) ++ piece_text (Sentence sentence.LengthB)
    ++ html_text (length_words other.b) ++ piece_text (Sentence sentence.LengthEnd)

-- the offset of the side that has a moment; none if local times are compared
abbrev pub ahead_html : Zones → List ℕ
ahead_html Local = piece_text (Sentence sentence.FirstEnd)
ahead_html Unknown = piece_text (Sentence sentence.FirstEnd)
ahead_html (Moments ahead only_zones) =
    piece_text (Sentence sentence.FirstAhead) ++ html_text (ahead_text ahead) ++ piece_text (Sentence sentence.FirstAheadEnd)

-- only the zones make the difference
abbrev pub is_only_zones : Zones → Bool
is_only_zones Local = false
is_only_zones Unknown = false
is_only_zones (Moments ahead only_zones) = only_zones

-- the first moment that one side alone has
unfoldable pub first_html : Kind → ℤ → Side → Zones → List ℕ
first_html kind at side zones =
    piece_text (Sentence sentence.FirstStart) ++ html_text (moment_words kind at) ++ ahead_html zones
    ++ piece_text (by_side side (Sentence sentence.FirstA) (Sentence sentence.FirstB)) ++ piece_if (is_only_zones zones) (Sentence sentence.OnlyZones)

-- how many occurrences exactly one side has beside the first
unfoldable pub further_html : Further → List ℕ
further_html NoMore = piece_text (Sentence sentence.NoMore)
further_html (Until count last) =
    piece_text (Sentence sentence.MoreStart) ++ number_html count ++ piece_text (Sentence sentence.MoreUntil)
    ++ html_text (moment_words last.kind last.at) ++ piece_text (Sentence sentence.MoreEnd)
further_html Many = piece_text (Sentence sentence.MoreMany)
further_html ForEver = piece_text (Sentence sentence.MoreForEver)

-- how many further differences there are and until when, if local times differ
abbrev pub more_html : Option Difference → List ℕ
more_html None = []
more_html (Some difference) = further_html difference.further

-- what is said of events to look at
unfoldable pub said_html : Said → Option Difference → List ℕ
said_html (Only side) difference = piece_text (by_side side (Sentence sentence.OnlyA) (Sentence sentence.OnlyB))
said_html (Refused side refusal) difference = []
said_html (Alike refusal) difference = []
said_html (Floating side) difference = piece_text (by_side side (Sentence sentence.FloatingA) (Sentence sentence.FloatingB))
said_html (Length other) difference = lengths_html other
said_html (Compared Yes zones) difference = []
said_html (Compared (No kind at side) zones) difference = first_html kind at side zones ++ more_html difference

-- events that have another key in B have another title there too
abbrev pub has_other_title : Option Partner → Bool
has_other_title None = false
has_other_title (Some partner) = partner.has_other_title

-- how they were found again and read
unfoldable pub marks_html : Option Partner → Marks → List ℕ
marks_html partner marks =
    piece_if (has_other_title partner) (Sentence sentence.OtherTitle) ++ piece_if marks.until (Sentence sentence.ReadUntil)
    ++ piece_if marks.start (Sentence sentence.ReadStart) ++ piece_if marks.day (Sentence sentence.ReadDay)
