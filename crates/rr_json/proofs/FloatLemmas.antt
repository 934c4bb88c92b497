-- No number of a report is a float.
use Rattle.std.proofs.Common.{◌≡◌, ℕ, ℤ, List, Bool, true, false, if◌then◌else◌, codes, Option, Some, None, Ordering, Less, Equal, Greater, refl}
use Rattle.std.specs.Prelude.{◌&&◌, int_lt, neg_ℤ, pos}
use Rattle.std.specs.Cmp.Lexicographic.{slice_cmp}
use Rattle.std.specs.Ordering.{nat_cmp, match_ordering}
use Rattle.std.proofs.lemmas.Bool.{or_parts}
use Rattle.serde_json.specs.Data.{Data, Items, Members, array, boolean, member, no_items, no_members, null, put, string}
use Rattle.serde_json.specs.Written.{has_float, items_have_float, members_have_float}
use Rattle.rr_facts.specs.Facts.{Facts}
use Rattle.rr_json.specs.Event.{compared_members, event_json, has_mark, item_if, key_json, marks_items, put_if, put_marks, put_partner, put_title, put_zones, said_members, side_members, text_json, verdict_members}
use Rattle.rr_json.specs.Files.{facts_members, name_json, offset_json}
use Rattle.rr_json.specs.Json.{refusal_json, refused_json}
use Rattle.rr_model.specs.Text.Moments.{extended_text}
use Rattle.rr_model.specs.declared.verdict.Side.{Side}
use Rattle.rr_model.specs.declared.verdict.Verdict.{Verdict}
use Rattle.rr_model.specs.declared.verdict.Verdict.TheVariants.{Yes, No}
use Rattle.rr_seam.specs.declared.file.FileRefusal.{FileRefusal}
use Rattle.rr_seam.specs.declared.key.Key.{Key}
use Rattle.rr_seam.specs.declared.key.Key.TheVariants as key
use Rattle.rr_seam.specs.declared.marks.Marks.{Marks}
use Rattle.rr_trip.specs.Counts.{may_differ}
use Rattle.rr_trip.specs.Printed.{ahead_text, offset_text}
use Rattle.rr_trip.specs.declared.report.Partner.{Partner}
use Rattle.rr_trip.specs.declared.report.ReportLine.{ReportLine}
use Rattle.rr_trip.specs.declared.said.Said.{Said}
use Rattle.rr_trip.specs.declared.said.Said.TheVariants.{Only, Refused, Alike, Floating, Length, Compared}
use Rattle.rr_trip.specs.declared.said.Zones.{Zones}
use Rattle.rr_trip.specs.declared.said.Zones.TheVariants.{Local, Unknown, Moments}

-- ---- one member more

put_at : (o : Ordering) (k l : List ℕ) (d e : Data) (ms : Members) → has_float d ≡ false → has_float e ≡ false → members_have_float ms ≡ false
    → members_have_float (put k d ms) ≡ false
    → members_have_float (match_ordering o (member k d (member l e ms)) (member l d ms) (member l e (put k d ms))) ≡ false
put_at Less k l d e ms of_d of_e of_ms more = rw (of_d, of_e, of_ms) refl
put_at Equal k l d e ms of_d of_e of_ms more = rw (of_d, of_ms) refl
put_at Greater k l d e ms of_d of_e of_ms more = rw (of_e, more) refl

pub one_more : (k : List ℕ) (d : Data) (ms : Members) → has_float d ≡ false → members_have_float ms ≡ false → members_have_float (put k d ms) ≡ false
one_more k d no_members of_d of_ms = rw of_d refl
one_more k d (member l e ms) of_d of_ms =
    let both = or_parts (has_float e) (members_have_float ms) of_ms in
    put_at (slice_cmp nat_cmp k l) k l d e ms of_d both.0 both.1 (one_more k d ms of_d both.1)

-- ---- an event

of_key : (key : Key) → has_float (key_json key) ≡ false
of_key (key.Line line) = refl
of_key (key.Number event) = refl
of_key (key.Uid uid) = refl

of_if : (name : List ℕ) (b : Bool) (ms : Members) → members_have_float ms ≡ false → members_have_float (put_if name b ms) ≡ false
of_if name true ms h = one_more name (boolean true) ms refl h
of_if name false ms h = h

of_zones : (zones : Zones) (ms : Members) → members_have_float ms ≡ false → members_have_float (put_zones zones ms) ≡ false
of_zones Local ms h = h
of_zones Unknown ms h = h
of_zones (Moments ahead only_zones) ms h =
    one_more (codes "ahead") (string (ahead_text ahead)) (put_if (codes "only_zones") only_zones ms) refl (of_if (codes "only_zones") only_zones ms h)

of_compared : (verdict : Verdict) (zones : Zones) → members_have_float (compared_members verdict zones) ≡ false
of_compared Yes zones = of_if (codes "unsure") (may_differ zones) (verdict_members (codes "equal")) refl
of_compared (No kind at side) zones =
    of_zones zones (member (codes "moment") (string (extended_text kind at)) (side_members (codes "differs") side)) refl

of_said : (said : Said) → members_have_float (said_members said) ≡ false
of_said (Only side) = refl
of_said (Refused side refusal) = refl
of_said (Alike refusal) = refl
of_said (Floating side) = refl
of_said (Length other) = refl
of_said (Compared verdict zones) = of_compared verdict zones

of_item_if : (text : List ℕ) (b : Bool) (items : Items) → items_have_float items ≡ false → items_have_float (item_if text b items) ≡ false
of_item_if text true items h = h
of_item_if text false items h = h

of_marks_items : (marks : Marks) → items_have_float (marks_items marks) ≡ false
of_marks_items marks =
    let day = item_if (codes "day") marks.day no_items in
    let start = item_if (codes "start") marks.start day in
    of_item_if (codes "until") marks.until start (of_item_if (codes "start") marks.start day (of_item_if (codes "day") marks.day no_items refl))

of_marks_if : (b : Bool) (marks : Marks) (ms : Members) → members_have_float ms ≡ false
    → members_have_float (if b then put (codes "read") (array (marks_items marks)) ms else ms) ≡ false
of_marks_if true marks ms h = one_more (codes "read") (array (marks_items marks)) ms (of_marks_items marks) h
of_marks_if false marks ms h = h

of_partner : (partner : Option Partner) (ms : Members) → members_have_float ms ≡ false → members_have_float (put_partner partner ms) ≡ false
of_partner None ms h = h
of_partner (Some partner) ms h =
    of_if (codes "other_title") partner.has_other_title (put (codes "partner") (key_json partner.key) ms)
    (one_more (codes "partner") (key_json partner.key) ms (of_key partner.key) h)

of_title : (title : Option (List ℕ)) (ms : Members) → members_have_float ms ≡ false → members_have_float (put_title title ms) ≡ false
of_title None ms h = h
of_title (Some title) ms h = one_more (codes "title") (text_json title) ms refl h

pub of_event : (line : ReportLine) → has_float (event_json line) ≡ false
of_event line =
    let said = said_members line.said in
    let titled = put_title line.title said in
    let marked = put_marks line.marks titled in
    one_more (codes "key") (key_json line.key) (put_partner line.partner marked) (of_key line.key)
    (of_partner line.partner marked (of_marks_if (has_mark line.marks) line.marks titled (of_title line.title said (of_said line.said))))

-- ---- files

of_offset_if : (b : Bool) (text : List ℕ) → has_float (if b then string text else null) ≡ false
of_offset_if true text = refl
of_offset_if false text = refl

of_offset : (offset : Option ℤ) → has_float (offset_json offset) ≡ false
of_offset None = refl
of_offset (Some offset) =
    of_offset_if (int_lt (neg_ℤ (pos 86_400)) offset && int_lt offset (pos 86_400)) (offset_text offset)

of_name : (name : Option (List ℕ)) → has_float (name_json name) ≡ false
of_name None = refl
of_name (Some name) = refl

pub of_facts : (facts : Facts) (status : ℕ) → members_have_float (facts_members facts status) ≡ false
of_facts facts status = rw (of_offset facts.new.offset, of_offset facts.old.offset, of_name facts.zones) refl

pub of_refusal : (facts : Facts) (side : Side) (r : FileRefusal) → has_float (refusal_json facts side r) ≡ false
of_refusal facts side r = one_more (codes "refused") (refused_json side r) (facts_members facts 2) refl (of_facts facts 2)
