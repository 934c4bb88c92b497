-- What is read of a Graph text is a valid event.
use Rattle.std.proofs.Common.{◌≡◌, ℕ, ◌<◌, ◌==◌, Bool, true, false, if◌then◌else◌, Option, None, Some, List, length}
use Rattle.std.proofs.Common.{take, drop, slice_index, option_map, option_and_then, ℤ, ◌+ℤ◌, codes, refl, sym, ap, subst, ◌∙◌}
use Rattle.std.specs.Prelude.{Ok, ok_or}
use Rattle.std.specs.Ordering.{int_eq}
use Rattle.std.specs.Str.{is_utf8}
use Rattle.std.proofs.lemmas.Bool.Decides.{Decides-int_eq}
use Rattle.serde_json.specs.Data.{Data}
use Rattle.rr_model.specs.Graph.Members.{json_object, member_of, number_in, object_in, object_or, text_in, number_in_bounds}
use Rattle.rr_model.specs.Graph.Occurrences.{first_repeat_day}
use Rattle.rr_model.specs.Graph.Reading.{EndType, Recurrence, bare_of, by_pattern, date_in, end_date, end_in, end_type_named, event_of, event_start}
use Rattle.rr_model.specs.Graph.Reading.{graph_moment, graph_text, is_all_day, is_flag_or_missing, is_text_or_missing, holds_or, no_end, numbered}
use Rattle.rr_model.specs.Graph.Reading.{pattern_of, range_of, reads_graph, recurrence_of, repeat_of, repeat_with_occurrence, repeat_from, start_moment, turned_start}
use Rattle.rr_model.specs.Graph.Reading.{with_occurrence}
use Rattle.rr_model.specs.Graph.Validity.{IsRangeEnd, IsRepeatFrom, IsValidGraphEvent, IsValidPattern}
use Rattle.rr_model.specs.Moment.{day_part, moment_at}
use Rattle.rr_model.specs.Moment.Years.{HasFourDigitYear, IsInYears, is_in_years}
use Rattle.rr_model.specs.Text.ExtendedMoments.{date_digits, extended, extended_date_of, extended_moment_of, extended_time_of, time_digits}
use Rattle.rr_model.specs.Text.Lines.{without_mark}
use Rattle.rr_model.specs.Text.Moments.{basic_date, basic_time, date_stamp, is_letter_t, moment_of, moment_stamp}
use Rattle.rr_model.specs.Text.Rules.{has_time}
use Rattle.rr_model.specs.declared.graph.GraphEvent.{GraphEvent}
use Rattle.rr_model.specs.declared.graph.Range.{Range}
use Rattle.rr_model.specs.declared.graph.RangeEnd.{RangeEnd}
use Rattle.rr_model.specs.declared.graph.RangeEnd.TheVariants.{EndDate, NoEnd, Numbered}
use Rattle.rr_model.specs.declared.graph.Repeat.{Repeat}
use Rattle.rr_model.specs.declared.graph.Repeat.TheVariants as repeat
use Rattle.rr_model.specs.declared.kind.Kind.TheVariants.{Days, Moments}
use Rattle.rr_model.specs.declared.refusal.Member.{Member}
use Rattle.rr_model.specs.declared.refusal.Member.TheVariants as of
use Rattle.rr_model.specs.declared.refusal.Refusal.TheVariants.{BadMember, NoStart, NotText, StartDiffers}
use Rattle.rr_model.specs.declared.stamp.Stamp.{Stamp}
use Rattle.rr_model.proofs.MomentLemmas.{day_part-moment_at}
use Rattle.rr_model.proofs.YearLemmas.{years_are_tested}
use Rattle.rr_text.proofs.StepLemmas.{and_then_ok, ok_or_ok, passed, stated, and_then_some, ok_same, where_some}
use Rattle.rr_text.proofs.InYearsLemmas.{basic_time-below, basic_date-in_years}
use Rattle.rr_graph.proofs.ReadPatternLemmas.{pattern_of-valid, within-lies}

-- ---- dates and moments

pub extended_date-in_years : (text : List ℕ) (day : ℤ) → extended_date_of text ≡ Some day → HasFourDigitYear day
unfolding extended_date_of
extended_date-in_years text day h = basic_date-in_years (date_digits text) day (where_some _ (basic_date (date_digits text)) day h)

pub extended_time-below : (text : List ℕ) (second : ℕ) → extended_time_of text ≡ Some second → second < 86_400
unfolding extended_time_of
extended_time-below text second h = basic_time-below (time_digits text) second (where_some _ (basic_time (time_digits text)) second h)

moment_of-in_years :
    (date : Option ℤ) (time : Option ℕ) (mark : Option Bool) (stamp : Stamp) → ((day : ℤ) → date ≡ Some day → HasFourDigitYear day)
    → ((second : ℕ) → time ≡ Some second → second < 86_400) → moment_of date time mark ≡ Some stamp → IsInYears Moments stamp.at
moment_of-in_years None time mark stamp day_in below h = absurd (cc)
moment_of-in_years (Some day) None mark stamp day_in below h = absurd (cc)
moment_of-in_years (Some day) (Some second) None stamp day_in below h = absurd (cc)
moment_of-in_years (Some day) (Some second) (Some utc) stamp day_in below h =
    let e : moment_stamp day second utc ≡ stamp = cc in
    let back : day_part Moments (moment_at Moments day second) ≡ day = day_part-moment_at day second (below second refl) in
    subst (λ (s : Stamp). IsInYears Moments s.at) e (subst HasFourDigitYear (sym back) (day_in day refl))

extended_moment-in_years : (text : List ℕ) (stamp : Stamp) → extended_moment_of text ≡ Some stamp → IsInYears Moments stamp.at
unfolding extended_moment_of
extended_moment-in_years text stamp h =
    moment_of-in_years (extended_date_of (take 10 text)) (extended_time_of (take 8 (drop 11 text))) _ stamp (extended_date-in_years (take 10 text))
    (extended_time-below (take 8 (drop 11 text))) (where_some (is_letter_t (slice_index text 10)) _ stamp h)

-- a date has no time, so that a moment of Graph is one
no_time : (date : Option ℤ) (stamp : Stamp) → option_map date_stamp date ≡ Some stamp → has_time stamp.kind ≡ false
no_time None stamp h = absurd (cc)
no_time (Some day) stamp h =
    let e : date_stamp day ≡ stamp = cc in
    sym (ap (λ (s : Stamp). has_time s.kind) e) ∙ refl

timed : (b : Bool) (stamp other : Stamp) → (if b then Some stamp else None) ≡ Some other → (b ≡ true) × (stamp ≡ other)
timed true stamp other h = (refl, cc)
timed false stamp other h = absurd (cc)

with_time : (text : List ℕ) (stamp : Stamp) → extended text ≡ Some stamp → has_time stamp.kind ≡ true → IsInYears Moments stamp.at
unfolding extended
with_time text stamp h time =
    elim (length text == 10) as (λ b. (if b then option_map date_stamp (extended_date_of text) else extended_moment_of text) ≡ Some stamp
    → IsInYears Moments stamp.at) [
      | true ↦ λ e. (let none = no_time (extended_date_of text) stamp e in absurd (cc))
      | false ↦ λ e. extended_moment-in_years text stamp e
    ] h

graph_moment-in_years : (text : List ℕ) (stamp : Stamp) → graph_moment text ≡ Some stamp → IsInYears Moments stamp.at
graph_moment-in_years text stamp h =
    let read = and_then_some (extended text) (λ s. if has_time s.kind then Some s else None) stamp h in
    let is = timed (has_time read.0.kind) read.0 stamp read.2 in
    subst (λ (s : Stamp). IsInYears Moments s.at) is.1 (with_time text read.0 read.1 is.0)

turned-in_years :
    (is_utc : Bool) (offset : Option ℤ) (at local : ℤ) → IsInYears Moments at → turned_start is_utc offset at ≡ Some local → IsInYears Moments local
turned-in_years is_utc None at local years h = let e : at ≡ local = cc in subst (IsInYears Moments) e years
turned-in_years false (Some offset) at local years h = let e : at ≡ local = cc in subst (IsInYears Moments) e years
turned-in_years true (Some offset) at local years h =
    let is = stated (is_in_years Moments (at +ℤ offset)) (at +ℤ offset) local h in
    subst (IsInYears Moments) is.1 ((years_are_tested Moments (at +ℤ offset)).0 is.0)

start_moment-in_years : (offset : Option ℤ) (all_day : Bool) (start : Data) (at : ℤ) → start_moment offset all_day start ≡ Ok at → IsInYears Moments at
unfolding start_moment
start_moment-in_years offset all_day start at h =
    let some = ok_or_ok _ (BadMember of.DateTime) at h in
    let stamp = and_then_some (option_and_then graph_moment (text_in (codes "dateTime") start)) _ at some in
    let text = and_then_some (text_in (codes "dateTime") start) graph_moment stamp.0 stamp.1 in
    turned-in_years _ offset stamp.0.at at (graph_moment-in_years text.0 stamp.0 text.2) stamp.2

-- ---- the range

date_in-years : (member : Member) (name : List ℕ) (range : Data) (day : ℤ) → date_in member name range ≡ Ok day → HasFourDigitYear day
date_in-years member name range day h =
    let text = and_then_some (text_in name range) extended_date_of day (ok_or_ok _ (BadMember member) day h) in
    extended_date-in_years text.0 day text.2

end-is : (type : EndType) (range : Data) (end : RangeEnd) → end_in type range ≡ Ok end → IsRangeEnd end
end-is no_end range end h = let e : NoEnd ≡ end = ok_same NoEnd end h in subst IsRangeEnd e tt
end-is end_date range end h =
    let day = and_then_ok (date_in of.EndDate (codes "endDate") range) (λ day. Ok (EndDate day)) end h in
    let e : EndDate day.0 ≡ end = ok_same (EndDate day.0) end day.2 in
    subst IsRangeEnd e (date_in-years of.EndDate (codes "endDate") range day.0 day.1)
end-is numbered range end h =
    let count = and_then_ok (number_in_bounds of.NumberOfOccurrences 1 18_446_744_073_709_551_615 (number_in (codes "numberOfOccurrences") range))
    (λ n. Ok (Numbered n)) end h in
    let e : Numbered count.0 ≡ end = ok_same (Numbered count.0) end count.2 in
    subst IsRangeEnd e (within-lies of.NumberOfOccurrences 1 18_446_744_073_709_551_615 (number_in (codes "numberOfOccurrences") range) count.0
    count.1)

-- the range begins in the years 1 to 9999, and so does its end lie
record IsReadRange (range : Range) : Type 0 where
  start : HasFourDigitYear range.start_day
  end : IsRangeEnd range.end

range_of-is : (value : Data) (range : Range) → range_of value ≡ Ok range → IsReadRange range
unfolding range_of
range_of-is value range h =
    let type = and_then_ok (ok_or (option_and_then end_type_named (text_in (codes "type") value)) (BadMember of.RangeType)) _ range h in
    let start_day = and_then_ok (date_in of.StartDate (codes "startDate") value) _ range type.2 in
    let end = and_then_ok (end_in type.0 value) _ range start_day.2 in
    let made : Range = record { start_day = start_day.0; end = end.0 } in
    let same : made ≡ range = ok_same made range end.2 in
    subst IsReadRange same (record {
      start = date_in-years of.StartDate (codes "startDate") value start_day.0 start_day.1;
      end = end-is type.0 value end.0 end.1;
    })

-- ---- the recurrence

record IsReadRecurrence (recurrence : Recurrence) : Type 0 where
  pattern : IsValidPattern recurrence.pattern
  range : IsReadRange recurrence.range

recurrence_of-is : (value : Data) (recurrence : Recurrence) → recurrence_of value ≡ Ok recurrence → IsReadRecurrence recurrence
unfolding recurrence_of
recurrence_of-is value recurrence h =
    let pattern_object = and_then_ok (object_in of.Pattern (codes "pattern") value) _ recurrence h in
    let range_object = and_then_ok (object_in of.Range (codes "range") value) _ recurrence pattern_object.2 in
    let pattern = and_then_ok (pattern_of pattern_object.0) _ recurrence range_object.2 in
    let range = and_then_ok (range_of range_object.0) _ recurrence pattern.2 in
    let made : Recurrence = record { pattern = pattern.0; range = range.0 } in
    let same : made ≡ recurrence = ok_same made recurrence range.2 in
    subst IsReadRecurrence same (record {
      pattern = pattern_of-valid pattern_object.0 pattern.0 pattern.1;
      range = range_of-is range_object.0 range.0 range.1;
    })

occurring : (recurrence : Recurrence) (first : Option ℤ) (found : Repeat) → IsReadRecurrence recurrence
    → first_repeat_day recurrence.pattern recurrence.range ≡ first → with_occurrence recurrence first ≡ Ok found
    → IsRepeatFrom recurrence.range.start_day found
occurring recurrence None found is first h = absurd (cc)
occurring recurrence (Some day) found is first h =
    let made = repeat.Pattern recurrence.pattern recurrence.range in
    subst (IsRepeatFrom recurrence.range.start_day) (ok_same made found h) (is.pattern, is.range.end, refl, (day, first))

repeating-is : (recurrence : Recurrence) (found : Repeat) → IsReadRecurrence recurrence → repeat_with_occurrence recurrence ≡ Ok found
    → IsRepeatFrom recurrence.range.start_day found
repeating-is recurrence found is h = occurring recurrence (first_repeat_day recurrence.pattern recurrence.range) found is refl h

repeat_of-is : (day : ℤ) (member : Option Data) (found : Repeat) → repeat_of day member ≡ Ok found → IsRepeatFrom day found
repeat_of-is day None found h = let e : repeat.Once ≡ found = ok_same repeat.Once found h in subst (IsRepeatFrom day) e tt
repeat_of-is day (Some value) found h =
    let object = and_then_ok (object_or (BadMember of.Recurrence) value) _ found h in
    let recurrence = and_then_ok (recurrence_of object.0) (repeat_from day) found object.2 in
    let is = recurrence_of-is object.0 recurrence.0 recurrence.1 in
    let begins = passed (int_eq recurrence.0.range.start_day day) (repeat_with_occurrence recurrence.0) StartDiffers found recurrence.2 in
    let same : recurrence.0.range.start_day ≡ day = (Decides-int_eq recurrence.0.range.start_day day).0 begins.0 in
    subst (λ d. IsRepeatFrom d found) same (repeating-is recurrence.0 found is begins.1)

-- ---- the event

event_at : (all_day : Bool) (at : ℤ) (found : Repeat) → IsInYears Moments at → IsRepeatFrom (day_part Moments at) found
    → IsValidGraphEvent (record { kind = (event_start all_day at).0; start = (event_start all_day at).1; repeat = found })
event_at true at found years repeats = record { start = years; repeats = repeats }
event_at false at found years repeats = record { start = years; repeats = repeats }

event_of-valid : (offset : Option ℤ) (value : Data) (event : GraphEvent) → event_of offset value ≡ Ok event → IsValidGraphEvent event
unfolding event_of
event_of-valid offset value event h =
    let member = and_then_ok (ok_or (member_of (codes "start") value) NoStart) _ event h in
    let start = and_then_ok (object_or (BadMember of.Start) member.0) _ event member.2 in
    let at = and_then_ok (start_moment offset (is_all_day value) start.0) _ event start.2 in
    let zone = and_then_ok (holds_or (is_text_or_missing (member_of (codes "timeZone") start.0)) (BadMember of.TimeZone)) _ event at.2 in
    let flag = and_then_ok (holds_or (is_flag_or_missing (member_of (codes "isAllDay") value)) (BadMember of.IsAllDay)) _ event zone.2 in
    let found = and_then_ok (repeat_of (day_part Moments at.0) (member_of (codes "recurrence") value)) _ event flag.2 in
    let made : GraphEvent = record { kind = (event_start (is_all_day value) at.0).0; start = (event_start (is_all_day value) at.0).1; repeat = found.0 } in
    let same : made ≡ event = ok_same made event found.2 in
    subst IsValidGraphEvent same (event_at (is_all_day value) at.0 found.0
    (start_moment-in_years offset (is_all_day value) start.0 at.0 at.1)
    (repeat_of-is (day_part Moments at.0) (member_of (codes "recurrence") value) found.0 found.1))

bare_of-valid : (value : Data) (event : GraphEvent) → bare_of value ≡ Ok event → IsValidGraphEvent event
unfolding bare_of
bare_of-valid value event h =
    let recurrence = and_then_ok (recurrence_of value) _ event h in
    let found = and_then_ok (repeat_with_occurrence recurrence.0) _ event recurrence.2 in
    let is = recurrence_of-is value recurrence.0 recurrence.1 in
    let made : GraphEvent = record { kind = Days; start = recurrence.0.range.start_day; repeat = found.0 } in
    let same : made ≡ event = ok_same made event found.2 in
    subst IsValidGraphEvent same (record { start = is.range.start; repeats = repeating-is recurrence.0 found.0 is found.1 })

by_pattern-valid : (offset : Option ℤ) (pattern : Option Data) (value : Data) (event : GraphEvent) → by_pattern offset pattern value ≡ Ok event
    → IsValidGraphEvent event
by_pattern-valid offset None value event h = event_of-valid offset value event h
by_pattern-valid offset (Some pattern) value event h = bare_of-valid value event h

graph_text-valid : (offset : Option ℤ) (text : List ℕ) (event : GraphEvent) → graph_text offset text ≡ Ok event → IsValidGraphEvent event
unfolding graph_text
graph_text-valid offset text event h =
    let value = and_then_ok (json_object (without_mark text)) _ event h in
    by_pattern-valid offset (member_of (codes "pattern") value.0) value.0 event value.2

pub reads_graph-valid : (offset : Option ℤ) (bytes : List ℕ) (event : GraphEvent) → reads_graph offset bytes ≡ Ok event → IsValidGraphEvent event
unfolding reads_graph
reads_graph-valid offset bytes event h = graph_text-valid offset bytes event (passed (is_utf8 bytes) (graph_text offset bytes) NotText event h).1
