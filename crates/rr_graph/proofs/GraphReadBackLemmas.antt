-- What is written for a valid event that repeats is read back (Microsoft Graph, event, patternedRecurrence).
use Rattle.std.proofs.Common.{◌≡◌, ℕ, ◌≤◌, Bool, false, not, ◌&&◌, ◌||◌, if◌then◌else◌, List, [], ◌∷◌, ◌++◌, Option, None, Some, Result, Ok, Err}
use Rattle.std.proofs.Common.{option_and_then, refl, ap, ◌∙◌, ℤ}
use Rattle.std.specs.Prelude.{codes, ok_or}
use Rattle.std.proofs.lemmas.Bool.Decides.{Decides-int_eq}
use Rattle.std.proofs.lemmas.Str.{is_utf8-from_IsUtf8}
use Rattle.serde_json.specs.Data.{Data, boolean, string, object, Members, no_members, member, depth}
use Rattle.serde_json.specs.Read.{read}
use Rattle.serde_json.specs.Written.{compact_text, members_text}
use Rattle.rr_model.specs.Moment.{day_part}
use Rattle.rr_model.specs.Moment.Years.{HasFourDigitYear, IsInYears}
use Rattle.rr_model.specs.Text.Lines.{without_mark}
use Rattle.rr_model.specs.Text.Moments.{extended_text}
use Rattle.rr_model.specs.Text.RuleValues.{◌>>=◌}
use Rattle.rr_model.specs.Text.Rules.{has_time}
use Rattle.rr_model.specs.Graph.Laws.{GraphIsReadBack}
use Rattle.rr_model.specs.Graph.Members.{member_of, object_or, text_in, json_object}
use Rattle.rr_model.specs.Graph.Occurrences.{first_repeat_day}
use Rattle.rr_model.specs.Graph.Reading.{Recurrence, recurrence_of, with_occurrence, repeat_with_occurrence, is_all_day, is_named_utc, turned_start, start_moment}
use Rattle.rr_model.specs.Graph.Reading.{event_start}
use Rattle.rr_model.specs.Graph.Reading.{is_text_or_missing, is_flag_or_missing, holds_or, repeat_from, repeat_of, event_of, bare_of, by_pattern}
use Rattle.rr_model.specs.Graph.Reading.{graph_text, reads_graph}
use Rattle.rr_model.specs.Graph.Text.{pattern_data, range_data, recurrence_data, graph_written}
use Rattle.rr_model.specs.Graph.Validity.{IsValidPattern, IsRangeEnd, IsValidGraphEvent}
use Rattle.rr_model.specs.declared.graph.GraphEvent.{GraphEvent}
use Rattle.rr_model.specs.declared.graph.Pattern.{Pattern}
use Rattle.rr_model.specs.declared.graph.Range.{Range}
use Rattle.rr_model.specs.declared.graph.Repeat.{Repeat}
use Rattle.rr_model.specs.declared.graph.Repeat.TheVariants as repeat
use Rattle.rr_model.specs.declared.kind.Kind.{Kind}
use Rattle.rr_model.specs.declared.kind.Kind.TheVariants.{Days, Moments}
use Rattle.rr_model.specs.declared.refusal.Member.TheVariants as of
use Rattle.rr_model.specs.declared.refusal.Refusal.{Refusal}
use Rattle.rr_model.specs.declared.refusal.Refusal.TheVariants.{BadJson, BadMember, NoStart, NotText, StartDiffers}
use Rattle.rr_model.specs.declared.stamp.Stamp.{Stamp}
use Rattle.rr_text.proofs.WrittenExtendedLemmas.{extended-written}
use Rattle.rr_graph.proofs.JsonTextLemmas.{IsWritable, read-compact_text, IsUtf8-line}
use Rattle.rr_graph.proofs.ReadBackLemmas.{next, recurrence-written}
use Rattle.rr_graph.proofs.WrittenDataLemmas.{event_writable, depth-event_data}

-- ---- the text of an object

unmarked-brace : (rest : List ℕ) → without_mark (123 ∷ rest) ≡ 123 ∷ rest
unmarked-brace rest = refl

json-read : (ms : Members) → IsWritable (object ms) → depth (object ms) ≤ 127
    → json_object (without_mark (compact_text (object ms) ++ 10 ∷ [])) ≡ Ok (object ms)
unfolding json_object
json-read ms h s =
    ap (λ (t : List ℕ). ok_or (read t) BadJson >>= object_or BadJson) (unmarked-brace (members_text false ms ++ 10 ∷ []))
    ∙ ap (λ (o : Option Data). ok_or o BadJson >>= object_or BadJson) (read-compact_text (object ms) h s)

-- what the text of an object states is what the object states
reads-object : (offset : Option ℤ) (ms : Members) → IsWritable (object ms) → depth (object ms) ≤ 127
    → reads_graph offset (compact_text (object ms) ++ 10 ∷ []) ≡ by_pattern offset (member_of (codes "pattern") (object ms)) (object ms)
unfolding reads_graph graph_text
reads-object offset ms h s =
    let text = compact_text (object ms) ++ 10 ∷ [] in
    ap (λ (b : Bool). if b then graph_text offset text else Err NotText) (is_utf8-from_IsUtf8 text (IsUtf8-line (object ms) h))
    ∙ next (json_object (without_mark text)) (object ms) (λ (value : Data). by_pattern offset (member_of (codes "pattern") value) value)
    (by_pattern offset (member_of (codes "pattern") (object ms)) (object ms)) (json-read ms h s) refl

-- ---- a recurrence

-- a valid pattern and range from a day on that have an occurrence
record IsWritten (pattern : Pattern) (range : Range) (day : ℤ) : Type 0 where
  is_pattern : IsValidPattern pattern
  is_end : IsRangeEnd range.end
  begins : range.start_day ≡ day
  years : HasFourDigitYear range.start_day
  first : ℤ
  is_first : first_repeat_day pattern range ≡ Some first

abbrev whole : Pattern → Range → Recurrence
whole pattern range = record { pattern = pattern; range = range }

abbrev event_ok : GraphEvent → Result GraphEvent Refusal
event_ok event = Ok event

abbrev repeated : Pattern → Range → Repeat
repeated pattern range = repeat.Pattern pattern range

repeating-written : (pattern : Pattern) (range : Range) (day : ℤ) → IsWritten pattern range day
    → repeat_with_occurrence (whole pattern range) ≡ Ok (repeated pattern range)
repeating-written pattern range day w = ap (with_occurrence (whole pattern range)) w.is_first

repeating_from-written : (pattern : Pattern) (range : Range) (day : ℤ) → IsWritten pattern range day
    → repeat_from day (whole pattern range) ≡ Ok (repeated pattern range)
repeating_from-written pattern range day w =
    ap (λ (b : Bool). if b then repeat_with_occurrence (whole pattern range) else Err StartDiffers) ((Decides-int_eq range.start_day day).1 w.begins)
    ∙ repeating-written pattern range day w

-- ---- a series of dates

abbrev recurrence_members : Pattern → Range → Members
recurrence_members pattern range =
    member (codes "pattern") (pattern_data pattern) (member (codes "range") (range_data range.end range.start_day) no_members)

-- a bare recurrence is what its members are
bare-members : (value : Data) (found : Recurrence) (rep : Repeat) → recurrence_of value ≡ Ok found → repeat_with_occurrence found ≡ Ok rep
    → bare_of value ≡ Ok (record { kind = Days; start = found.range.start_day; repeat = rep })
unfolding bare_of
bare-members value found rep r h =
    let made : GraphEvent = record { kind = Days; start = found.range.start_day; repeat = rep } in
    next (recurrence_of value) found _ (Ok made) r (next (repeat_with_occurrence found) rep _ (Ok made) h refl)

bare-written : (start : ℤ) (pattern : Pattern) (range : Range) → IsWritten pattern range start
    → bare_of (recurrence_data pattern range) ≡ Ok (record { kind = Days; start = start; repeat = repeat.Pattern pattern range })
bare-written start pattern range w =
    bare-members (recurrence_data pattern range) (whole pattern range) (repeated pattern range)
    (recurrence-written pattern range w.is_pattern w.years w.is_end) (repeating-written pattern range start w)
    ∙ ap (λ (s : ℤ). event_ok (record { kind = Days; start = s; repeat = repeated pattern range })) w.begins

-- ---- a series of moments

abbrev start_object : ℤ → Data
start_object start = object (member (codes "dateTime") (string (extended_text Moments start)) no_members)

abbrev event_members : ℤ → Pattern → Range → Members
event_members start pattern range =
    member (codes "isAllDay") (boolean false)
    (member (codes "recurrence") (recurrence_data pattern range) (member (codes "start") (start_object start) no_members))

start-written : (all_day : Bool) (start : ℤ) → IsInYears Moments start → start_moment None all_day (start_object start) ≡ Ok start
unfolding start_moment
start-written all_day start h =
    let utc : Stamp → Bool = λ (stamp : Stamp). not all_day && (stamp.utc || is_named_utc (text_in (codes "timeZone") (start_object start))) in
    ap
    (λ (o : Option Stamp). ok_or (option_and_then (λ (stamp : Stamp). turned_start (utc stamp) None stamp.at)
    (option_and_then (λ (stamp : Stamp). if has_time stamp.kind then Some stamp else None) o)) (BadMember of.DateTime))
    (extended-written Moments start h)

repeat-written : (day : ℤ) (pattern : Pattern) (range : Range) → IsWritten pattern range day
    → repeat_of day (Some (recurrence_data pattern range)) ≡ Ok (repeated pattern range)
repeat-written day pattern range w =
    next (recurrence_of (recurrence_data pattern range)) (whole pattern range) (repeat_from day) (Ok (repeated pattern range))
    (recurrence-written pattern range w.is_pattern w.years w.is_end) (repeating_from-written pattern range day w)

-- an event is what its members are
event-members : (offset : Option ℤ) (event begun start : Data) (at : ℤ) (rep : Repeat) → ok_or (member_of (codes "start") event) NoStart ≡ Ok begun
    → object_or (BadMember of.Start) begun ≡ Ok start
    → start_moment offset (is_all_day event) start ≡ Ok at
    → holds_or (is_text_or_missing (member_of (codes "timeZone") start)) (BadMember of.TimeZone) ≡ Ok tt
    → holds_or (is_flag_or_missing (member_of (codes "isAllDay") event)) (BadMember of.IsAllDay) ≡ Ok tt
    → repeat_of (day_part Moments at) (member_of (codes "recurrence") event) ≡ Ok rep
    → event_of offset event
    ≡ Ok (record { kind = (event_start (is_all_day event) at).0; start = (event_start (is_all_day event) at).1; repeat = rep })
unfolding event_of
event-members offset event begun start at rep found begins moment zone flag recurs =
    let made : GraphEvent =
    record { kind = (event_start (is_all_day event) at).0; start = (event_start (is_all_day event) at).1; repeat = rep } in
    next (ok_or (member_of (codes "start") event) NoStart) begun _ (Ok made) found
    (next (object_or (BadMember of.Start) begun) start _ (Ok made) begins
    (next (start_moment offset (is_all_day event) start) at _ (Ok made) moment
    (next (holds_or (is_text_or_missing (member_of (codes "timeZone") start)) (BadMember of.TimeZone)) tt _ (Ok made) zone
    (next (holds_or (is_flag_or_missing (member_of (codes "isAllDay") event)) (BadMember of.IsAllDay)) tt _ (Ok made) flag
    (next (repeat_of (day_part Moments at) (member_of (codes "recurrence") event)) rep _ (Ok made) recurs refl)))))

event-written : (start : ℤ) (pattern : Pattern) (range : Range) → IsInYears Moments start → IsWritten pattern range (day_part Moments start)
    → event_of None (object (event_members start pattern range)) ≡ Ok (record { kind = Moments; start = start; repeat = repeat.Pattern pattern range })
event-written start pattern range h w =
    event-members None (object (event_members start pattern range)) (start_object start) (start_object start) start (repeated pattern range) refl refl
    (start-written false start h) refl refl (repeat-written (day_part Moments start) pattern range w)

-- ---- the law

written : (kind : Kind) (start : ℤ) (pattern : Pattern) (range : Range)
    → IsValidGraphEvent (record { kind = kind; start = start; repeat = repeat.Pattern pattern range }) → IsWritten pattern range (day_part kind start)
written kind start pattern range v =
    let r = v.repeats in
    record {
      is_pattern = r.0;
      is_end = r.1;
      begins = r.2;
      years = rw (r.2) v.start;
      first = r.3.0;
      is_first = r.3.1;
    }

-- What is written is read back.
pub graph_is_read_back : GraphIsReadBack
unfolding graph_written
graph_is_read_back Days start pattern range v on =
    let w = written Days start pattern range v in
    reads-object None (recurrence_members pattern range) (event_writable Days start pattern range v.start w.is_pattern w.years w.is_end)
    (depth-event_data Days start pattern range)
    ∙ bare-written start pattern range w
graph_is_read_back Moments start pattern range v on =
    let w = written Moments start pattern range v in
    reads-object None (event_members start pattern range) (event_writable Moments start pattern range v.start w.is_pattern w.years w.is_end)
    (depth-event_data Moments start pattern range)
    ∙ event-written start pattern range v.start w
