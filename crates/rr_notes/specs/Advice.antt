-- What is noted of an answer by its text: what to do about it.
use Rattle.std.specs.Prelude.{ℕ, ◌==◌, ◌&&◌, ◌||◌, if◌then◌else◌, List, [], ◌∷◌, ◌++◌, bytes_eq, codes, Option, None, Some, option_and_then}
use Rattle.std.specs.Fmt.{decimal}
use Rattle.rr_model.specs.Text.Rules.{split_once}

-- ---- rr

-- what to do about a refusal of this name: of a side, A or B, or of both
abbrev pub advice : List ℕ → List ℕ → Option (List ℕ)
advice side name =
    if bytes_eq name (codes "SeveralEvents") then Some (codes "the file has several events, or one that was moved by hand: 'rr-calendars OLD NEW' compares whole files")
    else if bytes_eq name (codes "TooLong") then Some (codes "the text has more than 1,048,576 bytes: 'rr-calendars OLD NEW' compares whole calendars")
    else if bytes_eq name (codes "UtcMoment") then Some (codes "the start is local time and another moment is in UTC: read it by the zone of the file, as in rrule@zone:FILE, or say how far local time is ahead then, as in rrule@+01:00:FILE")
    else if bytes_eq name (codes "NotSynchronised") then Some (codes "the rule does not choose the start: move the start to the first day that the rule chooses")
    else if bytes_eq name (codes "NoStart") then Some (codes "the text has no start; a rule alone says no dates")
    else if bytes_eq name (codes "Extended") then Some (codes "a rule with RSCALE is read as rscale:FILE, and one without as rrule:FILE")
    else if bytes_eq name (codes "CycleTooLong") && bytes_eq side (codes "both") then Some (codes "the two repeat together too late: 'rr equal A B' compares them for ever")
    else None

-- what stands before the first cut of a text, all if there is none
abbrev pub before_cut : List ℕ → Option (List ℕ × List ℕ) → List ℕ
before_cut text None = text
before_cut text (Some (before, after)) = before

-- what stands before the first blank
abbrev pub before_blank : List ℕ → List ℕ
before_blank text = before_cut text (split_once 32 text)

-- what to do about what is refused: a side, and the name of a refusal, perhaps with more words behind it
abbrev pub advice_on : Option (List ℕ × List ℕ) → Option (List ℕ)
advice_on None = None
advice_on (Some (side, refusal)) = advice side (before_blank refusal)

-- what to do by the first word and those behind it
abbrev pub advice_behind : Option (List ℕ × List ℕ) → Option (List ℕ)
advice_behind None = None
advice_behind (Some (first, rest)) = if bytes_eq first (codes "refused") then advice_on (split_once 32 rest) else None

-- what to do about a line, `refused SIDE NAME`, and of any other nothing
abbrev pub note_on_line : List ℕ → Option (List ℕ)
note_on_line line = advice_behind (split_once 32 line)

-- what to do about the first line of an answer
abbrev pub note_on_refusal : List ℕ → Option (List ℕ)
note_on_refusal answer = option_and_then (λ (cut : List ℕ × List ℕ). note_on_line cut.0) (split_once 10 answer)

-- what is said if the answer of these words is no: a window may have more than is printed
abbrev pub note_on_no : List (List ℕ) → Option (List ℕ)
note_on_no [] = None
note_on_no (name ∷ rest) = if bytes_eq name (codes "between") then Some (codes "there are more occurrences: the first 100,000 are printed") else None

-- ---- rr-calendars

-- what to do if a file is refused as no list of events, or as one page of a list
abbrev pub note_on_calendar_refusal : List ℕ → Option (List ℕ)
note_on_calendar_refusal answer =
    if bytes_eq answer (codes "refused A NoEvents\n") || bytes_eq answer (codes "refused B NoEvents\n")
    then Some (codes "the file is no whole calendar: 'rr' reads one event alone, and here a Graph event between [ and ] is a list")
    else if bytes_eq answer (codes "refused A MorePages\n") || bytes_eq answer (codes "refused B MorePages\n")
    then Some (codes "the file is one page of a list: join it with those that '@odata.nextLink' leads to")
    else None

-- what is said of this many events that are not compared for want of an offset
abbrev pub note_on_utc : ℕ → Option (List ℕ)
note_on_utc count =
    if count == 0 then None
    else if count == 1 then Some (codes "1 event states UTC beside local time that no zone of its file turns: give --offset")
    else Some (decimal count ++ codes " events state UTC beside local time that no zone of their file turns: give --offset")
