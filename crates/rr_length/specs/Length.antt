-- How long an occurrence is: days of the calendar, and exact seconds after them (RFC 5545, sections 3.3.6, 3.6.1, 3.8.2.2, 3.8.2.5, 3.8.5.3).
use Rattle.std.specs.Prelude.{ℕ, ◌==◌, nat_lt, Bool, true, false, ◌&&◌, ◌||◌, if◌then◌else◌, ◌-ℤ◌, int_le, nat_abs, List, [], ◌++◌, codes, Option, None, Some}
use Rattle.std.specs.Fmt.{decimal}
use Rattle.rr_model.specs.Moment.{is_same_kind}
use Rattle.rr_model.specs.declared.kind.Kind.{Kind}
use Rattle.rr_model.specs.declared.kind.Kind.TheVariants.{Days, Moments}
use Rattle.rr_model.specs.declared.stamp.Stamp.{Stamp}
use Rattle.rr_length.specs.declared.length.Length.{Length}

-- a length of these days and these seconds
abbrev pub length_of : ℕ → ℕ → Length
length_of days seconds = record { days = days; seconds = seconds }

-- the length of an event that states none: one day of a date, nothing of a moment
abbrev pub unstated : Kind → Length
unstated Days = length_of 1 0
unstated Moments = length_of 0 0

-- the two lengths are one: a day is not 86,400 seconds
abbrev pub is_same_length : Length → Length → Bool
is_same_length l m = l.days == m.days && l.seconds == m.seconds

-- the first is longer: by its days, then by its seconds
abbrev pub is_longer : Length → Length → Bool
is_longer l m = nat_lt m.days l.days || (l.days == m.days && nat_lt m.seconds l.seconds)

-- the longer of the two
abbrev pub longer_of : Length → Length → Length
longer_of l m = if is_longer m l then m else l

-- ---- as it is printed

-- the seconds behind days, if there are some
abbrev pub seconds_behind : ℕ → List ℕ
seconds_behind seconds = if seconds == 0 then [] else decimal seconds

-- 3600 of seconds alone, 1d of days alone, 1d3600 of both, and 0 of nothing
abbrev pub length_text : Length → List ℕ
length_text l = if l.days == 0 then decimal l.seconds else decimal l.days ++ codes "d" ++ seconds_behind l.seconds

-- ---- from a start to an end

-- the length of n dates or of n seconds
abbrev pub span_of : Kind → ℕ → Length
span_of Days n = length_of n 0
span_of Moments n = length_of 0 n

-- both are of UTC, or neither is
abbrev pub is_same_mark : Bool → Bool → Bool
is_same_mark true true = true
is_same_mark true false = false
is_same_mark false true = false
is_same_mark false false = true

-- a start and an end of one kind, both of UTC or neither, the end not before the start
abbrev pub is_span : Stamp → Stamp → Bool
is_span start end = is_same_kind start.kind end.kind && (is_same_mark start.utc end.utc && int_le start.at end.at)

-- from a start to an end: of dates days, of moments seconds; no length otherwise
abbrev pub span_between : Stamp → Stamp → Option Length
span_between start end = if is_span start end then Some (span_of start.kind (nat_abs (end.at -ℤ start.at))) else None
