-- The text of a report is UTF-8, and is read back as the report.
use Rattle.std.proofs.Common.{◌≡◌, ℕ, suc, ◌^◌, ◌<◌, ◌≤◌, ℤ, List, [], ◌∷◌, All, Bool, true, false, if◌then◌else◌, codes, length, Option, None, Some, IsUtf8, refl, arith, ltb-true}
use Rattle.std.specs.Prelude.{⊤, IfSome, count_by, not, ◌||◌, ◌&&◌, int_lt, nat_lt, neg_ℤ, pos}
use Rattle.std.specs.Str.{IsAscii, is_utf8}
use Rattle.std.proofs.lemmas.Bool.{and_parts}
use Rattle.std.proofs.lemmas.List.Elements.{All-head, All-tail}
use Rattle.std.proofs.lemmas.List.Sums.{count_by-le-length}
use Rattle.std.proofs.lemmas.Str.{IsUtf8-from_ascii, IsUtf8-from_is_utf8}
use Rattle.std.proofs.lemmas.Str.Ascii.{IsAscii-cons, IsAscii-nil}
use Rattle.hex.proofs.HexLemmas.{IsAscii-encode_with}
use Rattle.hex.specs.Hex.{lower_digits}
use Rattle.json.proofs.Printed.Utf8.{IsUtf8-are_ascii, are_ascii}
use Rattle.serde_json.specs.Data.{Data, Items, Members, array, boolean, item, items_depth, member, no_items, no_members, null, number, object, put, string, unsigned}
use Rattle.rr_facts.specs.Facts.{Facts, FileFacts}
use Rattle.rr_facts.specs.Sum.{sum_text}
use Rattle.rr_graph.proofs.JsonTextLemmas.{AreWritableItems, IsUtf8-line, read-compact_text}
use Rattle.rr_json.specs.Event.{compared_members, event_json, has_mark, item_if, key_json, marks_items, put_if, put_marks, put_partner, put_title, put_zones, refused_members, said_members, side_members, text_json, verdict_members}
use Rattle.rr_json.specs.Files.{facts_members, file_json, name_json, offset_json, options_json}
use Rattle.rr_json.specs.Json.{counts_json, events_items, json_refusal_text, json_text, refusal_json, refused_json, report_json, status_number}
use Rattle.rr_json.specs.Laws.{AreBytes, AreFacts, IsFile, IsKey, IsLine, RefusalIsRead, ReportIsRead}
use Rattle.rr_json.proofs.AdviceLemmas.{advice_utf8, file_advice_utf8}
use Rattle.rr_json.proofs.MemberLemmas.{AreFine, Begins, IsFine, Rises, fine_more, fine_object, rises_more}
use Rattle.rr_json.proofs.TextLemmas.{ahead_utf8, file_refusal_utf8, key_refusal_utf8, length_utf8, moment_utf8, offset_utf8, printed_utf8}
use Rattle.rr_model.specs.Text.Moments.{extended_text}
use Rattle.rr_model.specs.declared.verdict.Side.{Side}
use Rattle.rr_model.specs.declared.verdict.Side.TheVariants.{A, B, Both}
use Rattle.rr_model.specs.declared.verdict.Verdict.{Verdict}
use Rattle.rr_model.specs.declared.verdict.Verdict.TheVariants.{Yes, No}
use Rattle.rr_seam.specs.declared.file.FileRefusal.{FileRefusal}
use Rattle.rr_seam.specs.declared.key.Key.{Key}
use Rattle.rr_seam.specs.declared.key.Key.TheVariants as key
use Rattle.rr_seam.specs.declared.marks.Marks.{Marks}
use Rattle.rr_seam.specs.declared.refusal.KeyRefusal.{KeyRefusal}
use Rattle.rr_text.specs.Printed.{side_text}
use Rattle.rr_trip.specs.Counts.{count_matched, count_said, counts_of, differs, is_alike, is_equal, is_matched, is_only, is_refused, is_unsure, may_differ, status_of}
use Rattle.rr_trip.specs.Printed.{ahead_text, is_difference, offset_text, uid_text}
use Rattle.rr_trip.specs.declared.report.Partner.{Partner}
use Rattle.rr_trip.specs.declared.report.ReportLine.{ReportLine}
use Rattle.rr_trip.specs.declared.report.Status.{Status}
use Rattle.rr_trip.specs.declared.report.Status.TheVariants as status
use Rattle.rr_trip.specs.declared.said.Said.{Said}
use Rattle.rr_trip.specs.declared.said.Said.TheVariants.{Only, Refused, Alike, Floating, Length, Compared}
use Rattle.rr_trip.specs.declared.said.Zones.{Zones}
use Rattle.rr_trip.specs.declared.said.Zones.TheVariants.{Local, Unknown, Moments}

-- ---- values

fine_text : (n : ℕ) (text : List ℕ) → IsUtf8 text → IsFine n (string text)
fine_text n text h = record { writable = h; shallow = omega arith }

fine_number : (n m : ℕ) → m < 2 ^ 64 → IsFine n (number (unsigned m))
fine_number n m h = record { writable = h; shallow = omega arith }

fine_boolean : (n : ℕ) (b : Bool) → IsFine n (boolean b)
fine_boolean n b = record { writable = tt; shallow = omega arith }

fine_null : (n : ℕ) → IsFine n null
fine_null n = record { writable = tt; shallow = omega arith }

fine_deeper : (m n : ℕ) (d : Data) → m ≤ n → IsFine m d → IsFine n d
fine_deeper m n d h f = record { writable = f.writable; shallow = omega (arith, h, f.shallow) }

-- ---- members

record AreGood (n : ℕ) (ms : Members) : Type 0 where
  rises : Rises ms
  fine : AreFine n ms

none : (n : ℕ) → AreGood n no_members
none n = record { rises = tt; fine = tt }

good_more : (n : ℕ) (k : List ℕ) (d : Data) (ms : Members) → are_ascii k ≡ true → IsFine n d → AreGood n ms → AreGood n (put k d ms)
good_more n k d ms of_k of_d of_ms = record {
  rises = rises_more k d ms of_ms.rises;
  fine = fine_more n k d ms (IsUtf8-are_ascii k of_k) of_d of_ms.fine;
}

good_first : (n : ℕ) (k : List ℕ) (d : Data) (ms : Members) → are_ascii k ≡ true → Begins k ms → IsFine n d → AreGood n ms → AreGood n (member k d ms)
good_first n k d ms of_k first of_d of_ms = record { rises = (first, of_ms.rises); fine = (IsUtf8-are_ascii k of_k, of_d, of_ms.fine) }

fine_members : (n : ℕ) (ms : Members) → AreGood n ms → IsFine (suc n) (object ms)
fine_members n ms g = fine_object n ms g.rises g.fine

-- ---- what is said

side_utf8 : (side : Side) → IsUtf8 (side_text side)
side_utf8 A = IsUtf8-are_ascii (codes "A") refl
side_utf8 B = IsUtf8-are_ascii (codes "B") refl
side_utf8 Both = IsUtf8-are_ascii (codes "both") refl

good_verdict : (verdict : List ℕ) → are_ascii verdict ≡ true → AreGood 1 (verdict_members verdict)
good_verdict verdict h = good_first 1 (codes "verdict") (string verdict) no_members refl tt (fine_text 1 verdict (IsUtf8-are_ascii verdict h)) (none 1)

good_side : (verdict : List ℕ) (side : Side) → are_ascii verdict ≡ true → AreGood 1 (side_members verdict side)
good_side verdict side h = good_first 1 (codes "side") (string (side_text side)) _ refl refl (fine_text 1 _ (side_utf8 side)) (good_verdict verdict h)

good_refused : (verdict : List ℕ) (side : Side) (r : KeyRefusal) → are_ascii verdict ≡ true → AreGood 1 (refused_members verdict side r)
good_refused verdict side r h =
    good_first 1 (codes "advice") _ _ refl refl (fine_text 1 _ (advice_utf8 r))
    (good_first 1 (codes "refusal") _ _ refl refl (fine_text 1 _ (key_refusal_utf8 r)) (good_side verdict side h))

good_if : (name : List ℕ) (b : Bool) (ms : Members) → are_ascii name ≡ true → AreGood 1 ms → AreGood 1 (put_if name b ms)
good_if name true ms h g = good_more 1 name (boolean true) ms h (fine_boolean 1 true) g
good_if name false ms h g = g

good_zones : (zones : Zones) (ms : Members) → AreGood 1 ms → AreGood 1 (put_zones zones ms)
good_zones Local ms g = g
good_zones Unknown ms g = g
good_zones (Moments ahead only_zones) ms g =
    good_more 1 (codes "ahead") (string (ahead_text ahead)) (put_if (codes "only_zones") only_zones ms) refl (fine_text 1 (ahead_text ahead) (ahead_utf8 ahead))
    (good_if (codes "only_zones") only_zones ms refl g)

good_compared : (verdict : Verdict) (zones : Zones) → AreGood 1 (compared_members verdict zones)
good_compared Yes zones = good_if (codes "unsure") (may_differ zones) (verdict_members (codes "equal")) refl (good_verdict (codes "equal") refl)
good_compared (No kind at side) zones =
    good_zones zones (member (codes "moment") (string (extended_text kind at)) (side_members (codes "differs") side))
    (good_first 1 (codes "moment") _ _ refl refl (fine_text 1 _ (moment_utf8 kind at)) (good_side (codes "differs") side refl))

-- ---- lists

abbrev AreFineItems : ℕ → Items → Type 0
AreFineItems n no_items = ⊤
AreFineItems n (item d ds) = IsFine n d × AreFineItems n ds

writable_items : (n : ℕ) (ds : Items) → AreFineItems n ds → AreWritableItems ds
writable_items n no_items f = tt
writable_items n (item d ds) f = (f.0.writable, writable_items n ds f.1)

deep_items : (n : ℕ) (ds : Items) → AreFineItems n ds → items_depth ds ≤ n
deep_items n no_items f = omega arith
deep_items n (item d ds) f = omega (arith, f.0.shallow, deep_items n ds f.1)

fine_array : (n : ℕ) (ds : Items) → AreFineItems n ds → IsFine (suc n) (array ds)
fine_array n ds f = record { writable = writable_items n ds f; shallow = omega (arith, deep_items n ds f) }

good_said : (said : Said) → AreGood 1 (said_members said)
good_said (Only side) = good_side (codes "only") side refl
good_said (Refused side r) = good_refused (codes "refused") side r refl
good_said (Alike r) = good_refused (codes "alike") A r refl
good_said (Floating side) = good_side (codes "floating") side refl
good_said (Length other) =
    good_first 1 (codes "lengths") _ _ refl refl (fine_array 0 _ (fine_text 0 _ (length_utf8 other.a), (fine_text 0 _ (length_utf8 other.b), tt)))
    (good_verdict (codes "length") refl)
good_said (Compared verdict zones) = good_compared verdict zones

-- ---- keys and titles

chosen_utf8 : (b : Bool) (text : List ℕ) → is_utf8 text ≡ b → AreBytes text → IsUtf8 (if b then text else uid_text text)
chosen_utf8 true text is h = IsUtf8-from_is_utf8 text is
chosen_utf8 false text is h = printed_utf8 text h

fine_bytes : (n : ℕ) (text : List ℕ) → AreBytes text → IsFine n (text_json text)
fine_bytes n text h = fine_text n _ (chosen_utf8 (is_utf8 text) text refl h)

fine_key : (key : Key) → IsKey key → IsFine 1 (key_json key)
fine_key (key.Line line) h = fine_members 0 _ (good_first 0 (codes "line") _ no_members refl tt (fine_number 0 line h) (none 0))
fine_key (key.Number event) h = fine_members 0 _ (good_first 0 (codes "event") _ no_members refl tt (fine_number 0 event h) (none 0))
fine_key (key.Uid uid) h = fine_members 0 _ (good_first 0 (codes "uid") _ no_members refl tt (fine_bytes 0 uid h) (none 0))

good_title : (title : Option (List ℕ)) (ms : Members) → IfSome title AreBytes → AreGood 1 ms → AreGood 1 (put_title title ms)
good_title None ms h g = g
good_title (Some title) ms h g = good_more 1 (codes "title") (text_json title) ms refl (fine_bytes 1 title h) g

good_partner : (partner : Option Partner) (ms : Members) → IfSome partner (λ other. IsKey other.key) → AreGood 1 ms → AreGood 1 (put_partner partner ms)
good_partner None ms h g = g
good_partner (Some partner) ms h g =
    good_if (codes "other_title") partner.has_other_title (put (codes "partner") (key_json partner.key) ms) refl
    (good_more 1 (codes "partner") (key_json partner.key) ms refl (fine_key partner.key h) g)

fine_item_if : (text : List ℕ) (b : Bool) (ds : Items) → are_ascii text ≡ true → AreFineItems 0 ds → AreFineItems 0 (item_if text b ds)
fine_item_if text true ds h f = (fine_text 0 text (IsUtf8-are_ascii text h), f)
fine_item_if text false ds h f = f

fine_marks : (marks : Marks) → IsFine 1 (array (marks_items marks))
fine_marks marks =
    let day = item_if (codes "day") marks.day no_items in
    let start = item_if (codes "start") marks.start day in
    fine_array 0 (marks_items marks)
    (fine_item_if (codes "until") marks.until start refl
    (fine_item_if (codes "start") marks.start day refl (fine_item_if (codes "day") marks.day no_items refl tt)))

good_marks_if : (b : Bool) (marks : Marks) (ms : Members) → AreGood 1 ms → AreGood 1 (if b then put (codes "read") (array (marks_items marks)) ms else ms)
good_marks_if true marks ms g = good_more 1 (codes "read") (array (marks_items marks)) ms refl (fine_marks marks) g
good_marks_if false marks ms g = g

fine_event : (line : ReportLine) → IsLine line → IsFine 2 (event_json line)
fine_event line h =
    let said = said_members line.said in
    let titled = put_title line.title said in
    let marked = put_marks line.marks titled in
    let whole = put_partner line.partner marked in
    fine_members 1 (put (codes "key") (key_json line.key) whole)
    (good_more 1 (codes "key") (key_json line.key) whole refl (fine_key line.key h.key)
    (good_partner line.partner marked h.partner
    (good_marks_if (has_mark line.marks) line.marks titled (good_title line.title said h.title (good_said line.said)))))

fine_with : (b : Bool) (line : ReportLine) (ds : Items) → IsLine line → AreFineItems 2 ds → AreFineItems 2 (if b then item (event_json line) ds else ds)
fine_with true line ds h f = (fine_event line h, f)
fine_with false line ds h f = f

fine_events : (only : Bool) (lines : List ReportLine) → All IsLine lines → AreFineItems 2 (events_items only lines)
fine_events only [] h = tt
fine_events only (line ∷ lines) h =
    fine_with (not only || is_difference line.said) line (events_items only lines) (All-head IsLine line lines h) (fine_events only lines (All-tail IsLine line lines h))

-- ---- files

fine_offset_if : (b : Bool) (offset : ℤ) → IsFine 0 (if b then string (offset_text offset) else null)
fine_offset_if true offset = fine_text 0 _ (offset_utf8 offset)
fine_offset_if false offset = fine_null 0

fine_offset : (offset : Option ℤ) → IsFine 0 (offset_json offset)
fine_offset None = fine_null 0
fine_offset (Some offset) = fine_offset_if (int_lt (neg_ℤ (pos 86_400)) offset && int_lt offset (pos 86_400)) offset

ascii_of : (bs : List ℕ) → are_ascii bs ≡ true → IsAscii bs
ascii_of [] h = IsAscii-nil
ascii_of (b ∷ bs) h = let both = and_parts (nat_lt b 128) (are_ascii bs) h in IsAscii-cons b bs (ltb-true b 128 both.0) (ascii_of bs both.1)

sum_utf8 : (bytes : List ℕ) → IsUtf8 (sum_text bytes)
unfolding sum_text
sum_utf8 bytes = IsUtf8-from_ascii _ (IsAscii-encode_with lower_digits _ (ascii_of lower_digits refl))

fine_file : (file : FileFacts) → IsFile file → IsFine 1 (file_json file)
fine_file file h =
    fine_members 0 _
    (good_first 0 (codes "bytes") _ _ refl refl (fine_number 0 _ h.few)
    (good_first 0 (codes "language") _ _ refl refl (fine_text 0 _ h.language)
    (good_first 0 (codes "name") _ _ refl refl (fine_text 0 _ h.name)
    (good_first 0 (codes "offset") _ _ refl refl (fine_offset file.offset)
    (good_first 0 (codes "sha256") _ no_members refl tt (fine_text 0 _ (sum_utf8 file.bytes)) (none 0))))))

fine_name : (name : Option (List ℕ)) → IfSome name IsUtf8 → IsFine 0 (name_json name)
fine_name None h = fine_null 0
fine_name (Some name) h = fine_text 0 name h

fine_options : (facts : Facts) → AreFacts facts → IsFine 1 (options_json facts)
fine_options facts h =
    fine_members 0 _
    (good_first 0 (codes "by_uid") _ _ refl refl (fine_boolean 0 _)
    (good_first 0 (codes "differences") _ _ refl refl (fine_boolean 0 _)
    (good_first 0 (codes "strict") _ _ refl refl (fine_boolean 0 _)
    (good_first 0 (codes "zones") _ no_members refl tt (fine_name facts.zones h.zones) (none 0)))))

good_facts : (facts : Facts) (status : ℕ) → AreFacts facts → status < 2 ^ 64 → AreGood 3 (facts_members facts status)
good_facts facts status h small =
    good_first 3 (codes "new") _ _ refl refl (fine_deeper 1 3 _ (omega arith) (fine_file facts.new h.new))
    (good_first 3 (codes "old") _ _ refl refl (fine_deeper 1 3 _ (omega arith) (fine_file facts.old h.old))
    (good_first 3 (codes "options") _ _ refl refl (fine_deeper 1 3 _ (omega arith) (fine_options facts h))
    (good_first 3 (codes "status") _ _ refl refl (fine_number 3 status small)
    (good_first 3 (codes "version") _ no_members refl tt (fine_text 3 _ h.version) (none 3)))))

-- ---- reports

small_status : (s : Status) → status_number s < 2 ^ 64
small_status status.Equal = omega arith
small_status status.Differs = omega arith
small_status status.Refused = omega arith

counted : (p : ReportLine → Bool) (lines : List ReportLine) → length lines < 2 ^ 64 → count_by p lines < 2 ^ 64
counted p lines few = omega (arith, few, count_by-le-length p lines)

fine_said : (p : Said → Bool) (lines : List ReportLine) → length lines < 2 ^ 64 → IsFine 0 (number (unsigned (count_said p lines)))
fine_said p lines few = fine_number 0 (count_said p lines) (counted (λ (line : ReportLine). p line.said) lines few)

fine_matched : (lines : List ReportLine) → length lines < 2 ^ 64 → IsFine 0 (number (unsigned (count_matched lines)))
fine_matched lines few = fine_number 0 (count_matched lines) (counted (λ (line : ReportLine). is_matched line.partner) lines few)

fine_counts : (lines : List ReportLine) → length lines < 2 ^ 64 → IsFine 1 (counts_json (counts_of lines))
fine_counts lines few =
    fine_members 0 _
    (good_first 0 (codes "alike") _ _ refl refl (fine_said is_alike lines few)
    (good_first 0 (codes "differs") _ _ refl refl (fine_said differs lines few)
    (good_first 0 (codes "equal") _ _ refl refl (fine_said is_equal lines few)
    (good_first 0 (codes "events") _ _ refl refl (fine_number 0 (length lines) few)
    (good_first 0 (codes "matched") _ _ refl refl (fine_matched lines few)
    (good_first 0 (codes "only_a") _ _ refl refl (fine_said (is_only A) lines few)
    (good_first 0 (codes "only_b") _ _ refl refl (fine_said (is_only B) lines few)
    (good_first 0 (codes "refused") _ _ refl refl (fine_said is_refused lines few)
    (good_first 0 (codes "zone") _ no_members refl tt (fine_said is_unsure lines few) (none 0))))))))))

fine_report : (facts : Facts) (lines : List ReportLine) → AreFacts facts → All IsLine lines → length lines < 2 ^ 64 → IsFine 4 (report_json facts lines)
fine_report facts lines of_facts of_lines few =
    fine_members 3 _
    (good_first 3 (codes "counts") _ _ refl refl (fine_deeper 1 3 _ (omega arith) (fine_counts lines few))
    (good_first 3 (codes "events") _ _ refl refl (fine_array 2 _ (fine_events facts.only_differences lines of_lines))
    (good_facts facts _ of_facts (small_status (status_of (counts_of lines))))))

fine_refused : (side : Side) (r : FileRefusal) → IsFine 1 (refused_json side r)
fine_refused side r =
    fine_members 0 _
    (good_first 0 (codes "advice") _ _ refl refl (fine_text 0 _ (file_advice_utf8 r))
    (good_first 0 (codes "refusal") _ _ refl refl (fine_text 0 _ (file_refusal_utf8 r))
    (good_first 0 (codes "side") _ no_members refl tt (fine_text 0 _ (side_utf8 side)) (none 0))))

fine_refusal : (facts : Facts) (side : Side) (r : FileRefusal) → AreFacts facts → IsFine 4 (refusal_json facts side r)
fine_refusal facts side r h =
    fine_members 3 (put (codes "refused") (refused_json side r) (facts_members facts 2))
    (good_more 3 (codes "refused") (refused_json side r) (facts_members facts 2) refl (fine_deeper 1 3 (refused_json side r) (omega arith) (fine_refused side r))
    (good_facts facts 2 h (omega arith)))

-- ---- texts

pub report_is_read : ReportIsRead
unfolding json_text
report_is_read facts lines of_facts of_lines few =
    let fine = fine_report facts lines of_facts of_lines few in
    let report = report_json facts lines in
    record { is_text = IsUtf8-line report fine.writable; is_read = read-compact_text report fine.writable (omega (arith, fine.shallow)) }

pub refusal_is_read : RefusalIsRead
unfolding json_refusal_text
refusal_is_read facts side r of_facts =
    let fine = fine_refusal facts side r of_facts in
    let report = refusal_json facts side r in
    record { is_text = IsUtf8-line report fine.writable; is_read = read-compact_text report fine.writable (omega (arith, fine.shallow)) }
