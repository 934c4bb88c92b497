-- The events of a report as JSON objects (RFC 8259), each with the name of its key and with what is said of it. The names of members are in
-- rising order of their bytes, and what is not said is left out.
use Rattle.std.specs.Prelude.{ℕ, ℤ, Bool, true, false, ◌||◌, if◌then◌else◌, List, codes, Option, None, Some}
use Rattle.std.specs.Str.{is_utf8}
use Rattle.serde_json.specs.Data.{Data, Items, Members, array, boolean, item, member, no_items, no_members, number, object, put, string, unsigned}
use Rattle.rr_facts.specs.Advice.{advice}
use Rattle.rr_length.specs.Length.{length_text}
use Rattle.rr_length.specs.declared.other.OtherLength.{OtherLength}
use Rattle.rr_model.specs.Text.Moments.{extended_text}
use Rattle.rr_model.specs.declared.kind.Kind.{Kind}
use Rattle.rr_model.specs.declared.verdict.Side.{Side}
use Rattle.rr_model.specs.declared.verdict.Side.TheVariants.{A}
use Rattle.rr_model.specs.declared.verdict.Verdict.{Verdict}
use Rattle.rr_model.specs.declared.verdict.Verdict.TheVariants.{Yes, No}
use Rattle.rr_seam.specs.declared.key.Key.{Key}
use Rattle.rr_seam.specs.declared.key.Key.TheVariants as key
use Rattle.rr_seam.specs.declared.marks.Marks.{Marks}
use Rattle.rr_seam.specs.declared.refusal.KeyRefusal.{KeyRefusal}
use Rattle.rr_text.specs.Printed.{side_text}
use Rattle.rr_trip.specs.Counts.{may_differ}
use Rattle.rr_trip.specs.Printed.{ahead_text, key_refusal_text, uid_text}
use Rattle.rr_trip.specs.declared.report.Partner.{Partner}
use Rattle.rr_trip.specs.declared.report.ReportLine.{ReportLine}
use Rattle.rr_trip.specs.declared.said.Said.{Said}
use Rattle.rr_trip.specs.declared.said.Said.TheVariants.{Only, Refused, Alike, Floating, Length, Compared}
use Rattle.rr_trip.specs.declared.said.Zones.{Zones}
use Rattle.rr_trip.specs.declared.said.Zones.TheVariants.{Local, Unknown, Moments}

-- ---- texts and keys

-- A text of a file: its bytes if they are UTF-8; otherwise as a report prints the bytes of a UID, which is ASCII.
abbrev pub text_json : List ℕ → Data
text_json text = string (if is_utf8 text then text else uid_text text)

-- a key by its UID, by the number of its line, or by its number in a list
abbrev pub key_json : Key → Data
key_json (key.Line line) = object (member (codes "line") (number (unsigned line)) no_members)
key_json (key.Number event) = object (member (codes "event") (number (unsigned event)) no_members)
key_json (key.Uid uid) = object (member (codes "uid") (text_json uid) no_members)

-- ---- what is said of a key

-- a member that is true, if it is so
abbrev pub put_if : List ℕ → Bool → Members → Members
put_if name true members = put name (boolean true) members
put_if name false members = members

-- this verdict
abbrev pub verdict_members : List ℕ → Members
verdict_members verdict = member (codes "verdict") (string verdict) no_members

-- this verdict, of a side
abbrev pub side_members : List ℕ → Side → Members
side_members verdict side = member (codes "side") (string (side_text side)) (verdict_members verdict)

-- a refusal of a side, by its name and number as a report prints it, and what to do about it
abbrev pub refused_members : List ℕ → Side → KeyRefusal → Members
refused_members verdict side refusal =
    member (codes "advice") (string (advice refusal))
    (member (codes "refusal") (string (key_refusal_text refusal)) (side_members verdict side))

-- two lengths of one occurrence, that of A first
abbrev pub length_members : OtherLength → Members
length_members other =
    member (codes "lengths") (array (item (string (length_text other.a)) (item (string (length_text other.b)) no_items)))
    (verdict_members (codes "length"))

-- equal local times, and whether nobody can tell whether they are the same moments
abbrev pub equal_members : Zones → Members
equal_members zones = put_if (codes "unsure") (may_differ zones) (verdict_members (codes "equal"))

-- how far local time of the side that has a moment is ahead of UTC then, if moments are compared, and whether only the zones differ
abbrev pub put_zones : Zones → Members → Members
put_zones Local members = members
put_zones Unknown members = members
put_zones (Moments ahead only_zones) members =
    put (codes "ahead") (string (ahead_text ahead)) (put_if (codes "only_zones") only_zones members)

-- the first occurrence that one side alone has
abbrev pub moment_members : Kind → ℤ → Side → Zones → Members
moment_members kind at side zones =
    put_zones zones (member (codes "moment") (string (extended_text kind at)) (side_members (codes "differs") side))

-- a verdict on two calendars
abbrev pub compared_members : Verdict → Zones → Members
compared_members Yes zones = equal_members zones
compared_members (No kind at side) zones = moment_members kind at side zones

-- what is said of a key
abbrev pub said_members : Said → Members
said_members (Only side) = side_members (codes "only") side
said_members (Refused side refusal) = refused_members (codes "refused") side refusal
said_members (Alike refusal) = refused_members (codes "alike") A refusal
said_members (Floating side) = side_members (codes "floating") side
said_members (Length other) = length_members other
said_members (Compared verdict zones) = compared_members verdict zones

-- ---- an event

-- a text before others, if it is so
abbrev pub item_if : List ℕ → Bool → Items → Items
item_if text true items = item (string text) items
item_if text false items = items

-- how the events of a key are read, in the words of a report
abbrev pub marks_items : Marks → Items
marks_items marks = item_if (codes "until") marks.until (item_if (codes "start") marks.start (item_if (codes "day") marks.day no_items))

-- the events of a key are read as calendars show them
abbrev pub has_mark : Marks → Bool
has_mark marks = marks.until || (marks.start || marks.day)

-- how the events of a key are read, if they are at odds with RFC 5545
abbrev pub put_marks : Marks → Members → Members
put_marks marks members = if has_mark marks then put (codes "read") (array (marks_items marks)) members else members

-- the key in B, if it is another one, and whether the title is another one too
abbrev pub put_partner : Option Partner → Members → Members
put_partner None members = members
put_partner (Some partner) members =
    put_if (codes "other_title") partner.has_other_title (put (codes "partner") (key_json partner.key) members)

-- the title, if titles are asked for
abbrev pub put_title : Option (List ℕ) → Members → Members
put_title None members = members
put_title (Some title) members = put (codes "title") (text_json title) members

-- the members of the events of a key
abbrev pub event_members : ReportLine → Members
event_members line =
    put (codes "key") (key_json line.key) (put_partner line.partner (put_marks line.marks (put_title line.title (said_members line.said))))

-- The events of a key, and what is said of them.
abbrev pub event_json : ReportLine → Data
event_json line = object (event_members line)
