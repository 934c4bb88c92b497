-- How many keys there are, and of how many each is said.
use Rattle.std.specs.Prelude.{ℕ, Bool, true, false, ◌||◌, nat_lt, if◌then◌else◌, List, length, count_by, Option, None, Some}
use Rattle.rr_model.specs.declared.refusal.Refusal.TheVariants.{UtcMoment}
use Rattle.rr_model.specs.declared.verdict.Side.{Side}
use Rattle.rr_model.specs.declared.verdict.Side.TheVariants.{A, B, Both}
use Rattle.rr_model.specs.declared.verdict.Verdict.TheVariants.{Yes, No}
use Rattle.rr_seam.specs.declared.refusal.KeyRefusal.{KeyRefusal}
use Rattle.rr_seam.specs.declared.refusal.KeyRefusal.TheVariants as key_refusal
use Rattle.rr_trip.specs.declared.report.Counted.{Counted}
use Rattle.rr_trip.specs.declared.report.Counted.TheVariants as counted
use Rattle.rr_trip.specs.declared.report.Counts.{Counts}
use Rattle.rr_trip.specs.declared.report.Partner.{Partner}
use Rattle.rr_trip.specs.declared.report.ReportLine.{ReportLine}
use Rattle.rr_trip.specs.declared.report.Status.{Status}
use Rattle.rr_trip.specs.declared.report.Status.TheVariants as status
use Rattle.rr_trip.specs.declared.said.Said.{Said}
use Rattle.rr_trip.specs.declared.said.Said.TheVariants.{Only, Refused, Alike, Floating, Length, Compared}
use Rattle.rr_trip.specs.declared.said.Zones.{Zones}
use Rattle.rr_trip.specs.declared.said.Zones.TheVariants.{Local, Unknown, Moments}

-- the key has equal occurrences in both
abbrev pub is_equal : Said → Bool
is_equal (Only side) = false
is_equal (Refused side refusal) = false
is_equal (Alike refusal) = false
is_equal (Floating side) = false
is_equal (Length other) = false
is_equal (Compared Yes zones) = true
is_equal (Compared (No kind at side) zones) = false

-- the key has an occurrence that one calendar alone has or that is of two lengths, or has a zone in one alone
abbrev pub differs : Said → Bool
differs (Only side) = false
differs (Refused side refusal) = false
differs (Alike refusal) = false
differs (Floating side) = true
differs (Length other) = true
differs (Compared Yes zones) = false
differs (Compared (No kind at side) zones) = true

-- the two sides are one
abbrev pub is_same_side : Side → Side → Bool
is_same_side A A = true
is_same_side B B = true
is_same_side Both Both = true
is_same_side side other = false

-- only this calendar has an event of the key
abbrev pub is_only : Side → Said → Bool
is_only side (Only other) = is_same_side other side
is_only side (Refused other refusal) = false
is_only side (Alike refusal) = false
is_only side (Floating other) = false
is_only side (Length other) = false
is_only side (Compared verdict zones) = false

-- the events of the key are refused
abbrev pub is_refused : Said → Bool
is_refused (Only side) = false
is_refused (Refused side refusal) = true
is_refused (Alike refusal) = false
is_refused (Floating side) = false
is_refused (Length other) = false
is_refused (Compared verdict zones) = false

-- both calendars refuse the events of the key and state them in the same words
abbrev pub is_alike : Said → Bool
is_alike (Only side) = false
is_alike (Refused side refusal) = false
is_alike (Alike refusal) = true
is_alike (Floating side) = false
is_alike (Length other) = false
is_alike (Compared verdict zones) = false

-- a refusal is of a moment in UTC beside local time
abbrev pub is_utc : KeyRefusal → Bool
is_utc (key_refusal.Event UtcMoment place) = true
is_utc refusal = false

-- the events of the key are refused, by one calendar or alike by both, for a moment in UTC beside local time
abbrev pub is_in_utc : Said → Bool
is_in_utc (Only side) = false
is_in_utc (Refused side refusal) = is_utc refusal
is_in_utc (Alike refusal) = is_utc refusal
is_in_utc (Floating side) = false
is_in_utc (Length other) = false
is_in_utc (Compared verdict zones) = false

-- the zones may differ, though local times are equal
abbrev pub may_differ : Zones → Bool
may_differ Local = false
may_differ Unknown = true
may_differ (Moments ahead only_zones) = false

-- the key has equal local times in both, and nobody can tell from the files whether it has the same moments
abbrev pub is_unsure : Said → Bool
is_unsure (Only side) = false
is_unsure (Refused side refusal) = false
is_unsure (Alike refusal) = false
is_unsure (Floating side) = false
is_unsure (Length other) = false
is_unsure (Compared Yes zones) = may_differ zones
is_unsure (Compared (No kind at side) zones) = false

-- a key is counted so
abbrev pub is_counted : Counted → Said → Bool
is_counted counted.Equal said = is_equal said
is_counted counted.Differs said = differs said
is_counted (counted.Only side) said = is_only side said
is_counted counted.Refused said = is_refused said
is_counted counted.Unsure said = is_unsure said
is_counted counted.Alike said = is_alike said
is_counted counted.InUtc said = is_in_utc said

-- how many lines of a report say what the test asks for
abbrev pub count_said : (Said → Bool) → List ReportLine → ℕ
count_said is lines = count_by (λ (line : ReportLine). is line.said) lines

-- events have another key in B than in A
abbrev pub is_matched : Option Partner → Bool
is_matched None = false
is_matched (Some partner) = true

-- how many lines of a report are of events that have another key in B than in A
abbrev pub count_matched : List ReportLine → ℕ
count_matched lines = count_by (λ (line : ReportLine). is_matched line.partner) lines

-- the counts of a report's lines
abbrev pub counts_of : List ReportLine → Counts
counts_of lines = record {
  events = length lines;
  equal = count_said is_equal lines;
  differs = count_said differs lines;
  only_a = count_said (is_only A) lines;
  only_b = count_said (is_only B) lines;
  refused = count_said is_refused lines;
  zone = count_said is_unsure lines;
  alike = count_said is_alike lines;
  matched = count_matched lines;
}

-- how a comparison with these counts ends: what is alike is no fault
abbrev pub status_of : Counts → Status
status_of counts =
    if nat_lt 0 counts.differs || (nat_lt 0 counts.only_a || nat_lt 0 counts.only_b) then status.Differs
    else (if nat_lt 0 counts.refused || nat_lt 0 counts.zone then status.Refused else status.Equal)
