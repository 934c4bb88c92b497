-- Empty lines say nothing of an event.
use Rattle.std.proofs.Common.{◌≡◌, ℕ, Bool, true, false, cond, not, ◌&&◌, if◌then◌else◌, List, [], ◌∷◌, ◌++◌, Option, None, Some, codes, Result, Ok, Err, refl, sym, ap, ◌∙◌}
use Rattle.std.specs.Prelude.{◌==◌, length, option_and_then, option_map, option_to_list}
use Rattle.std.specs.List.{filter, flat_map}
use Rattle.std.specs.Option.{is_some}
use Rattle.std.specs.Str.{str_eq_ignore_ascii_case}
use Rattle.std.proofs.lemmas.List.Sums.{length-filter}
use Rattle.rr_model.specs.Rule.Validity.{is_absent}
use Rattle.rr_model.specs.Text.Event.{Components, Left, is_in_event, left_by, no_components, scan_from, scan_of}
use Rattle.rr_model.specs.Text.UsedLines.{is_named, line_kind, value_of_line}
use Rattle.rr_model.specs.declared.line.Line.{Line}
use Rattle.rr_model.specs.declared.refusal.Refusal.{Refusal}
use Rattle.rr_model.specs.declared.stamp.Stamp.{Stamp}
use Rattle.rr_model.specs.declared.used.Scan.{Scan}
use Rattle.rr_events.specs.Cutting.{full_lines, has_text}
use Rattle.rr_ical.specs.Components.{open_after}
use Rattle.rr_events.specs.Own.{first_named, first_value, own_line, own_lines, value_or_empty}
use Rattle.rr_length.specs.Duration.{duration_of}
use Rattle.rr_length.specs.Event.{count_named, end_length, event_length, stamp_on}
use Rattle.rr_length.specs.Length.{unstated}
use Rattle.rr_length.specs.declared.length.Length.{Length}
use Rattle.rr_icalfile.specs.Event.{event_by, event_of, is_cancelled, is_component_line, is_unread, recurrence_of, recurrence_on, used_in}
use Rattle.rr_icalfile.specs.Keys.{first_line}
use Rattle.rr_icalfile.specs.Taken.{series_words, series_words_of}
use Rattle.rr_events.specs.Words.{line_words}
use Rattle.rr_icalfile.specs.Words.{cancelled_words, event_words, title_of, unescaped, words_of}
use Rattle.rr_icalfile.specs.Zones.{date_zones, event_zones, event_zones_by, series_zones, start_zone, zone_on}

-- ---- one empty line

none_left : (text : List ℕ) → not (is_absent text) ≡ false → text ≡ []
none_left [] h = refl
none_left (b ∷ bs) h = absurd (cc)

-- a line without a byte
abbrev pub empty : ℕ → Line
empty number = record { number = number; text = [] }

is_empty : (line : Line) → has_text line ≡ false → line ≡ empty line.number
is_empty line h = ap (λ (t : List ℕ). record { number = line.number; text = t }) (none_left line.text h)

pub empty-open : (names : List (List ℕ)) (number : ℕ) → open_after names (empty number) ≡ Ok names
unfolding open_after line_kind
empty-open names number = refl

empty-component : (number : ℕ) → is_component_line (empty number) ≡ false
unfolding line_kind
empty-component number = refl

empty-zones : (number : ℕ) → date_zones (empty number) ≡ []
unfolding line_kind
empty-zones number = refl

empty-scan : (components : Components) (number : ℕ) (more : Components → Scan) → scan_from (left_by false components (empty number)) more ≡ more components
unfolding left_by line_kind
empty-scan components number more = refl

-- ---- the lines of an event that are its own

-- a line with text, before lines some of which are left out
own-kept : (names : List (List ℕ)) (line : Line) (less lines : List Line) → has_text line ≡ true
    → ((after : List (List ℕ)) → own_lines after less ≡ filter has_text (own_lines after lines))
    → own_lines names (line ∷ less) ≡ filter has_text (own_lines names (line ∷ lines))
own-kept names line less lines has more = by (open_after names line)
  where
    own : (is_own : Bool) (after : List (List ℕ)) → (if is_own then line ∷ own_lines after less else own_lines after less)
        ≡ filter has_text (if is_own then line ∷ own_lines after lines else own_lines after lines)
    own true after =
        ap (λ (ls : List Line). line ∷ ls) (more after)
        ∙ sym (ap (λ (b : Bool). cond b (line ∷ filter has_text (own_lines after lines)) (filter has_text (own_lines after lines))) has)
    own false after = more after

    by : (r : Result (List (List ℕ)) Refusal) → own_line (is_in_event names) line r (λ after. own_lines after less)
        ≡ filter has_text (own_line (is_in_event names) line r (λ after. own_lines after lines))
    by (Err refusal) = refl
    by (Ok after) = own (is_in_event names && is_in_event after) after

own-empty : (names : List (List ℕ)) (number : ℕ) (lines : List Line)
    → filter has_text (own_lines names lines) ≡ filter has_text (own_lines names (empty number ∷ lines))
own-empty names number lines =
    by (is_in_event names && is_in_event names)
    ∙ ap (λ (r : Result (List (List ℕ)) Refusal). filter has_text (own_line (is_in_event names) (empty number) r (λ after. own_lines after lines)))
    (sym (empty-open names number))
  where
    by : (b : Bool) → filter has_text (own_lines names lines) ≡ filter has_text (if b then empty number ∷ own_lines names lines else own_lines names lines)
    by true = refl
    by false = refl

own-by : (line : Line) (lines : List Line) → ((names : List (List ℕ)) → own_lines names (filter has_text lines) ≡ filter has_text (own_lines names lines))
    → (names : List (List ℕ)) (b : Bool) → has_text line ≡ b
    → own_lines names (cond b (line ∷ filter has_text lines) (filter has_text lines)) ≡ filter has_text (own_lines names (line ∷ lines))
own-by line lines more names true h = own-kept names line (filter has_text lines) lines h more
own-by line lines more names false h =
    more names ∙ own-empty names line.number lines ∙ ap (λ (l : Line). filter has_text (own_lines names (l ∷ lines))) (sym (is_empty line h))

own-less : (lines : List Line) (names : List (List ℕ)) → own_lines names (filter has_text lines) ≡ filter has_text (own_lines names lines)
own-less [] names = refl
own-less (line ∷ lines) names = own-by line lines (λ ns. own-less lines ns) names (has_text line) refl

-- the lines of an event without the empty ones have the same own lines but for the empty ones
own-full : (lines : List Line) → own_lines [] (full_lines lines) ≡ filter has_text (own_lines [] lines)
own-full [] = refl
own-full (line ∷ lines) = by (open_after [] line)
  where
    by : (r : Result (List (List ℕ)) Refusal) → own_line false line r (λ after. own_lines after (filter has_text lines))
        ≡ filter has_text (own_line false line r (λ after. own_lines after lines))
    by (Err refusal) = refl
    by (Ok after) = own-less lines after

-- an empty line is none that is looked for
module _ (word : List ℕ) (some : is_named [] word ≡ false) where
  first-by : (line : Line) (own : List Line) → first_named word (filter has_text own) ≡ first_named word own → (b : Bool) → has_text line ≡ b
      → first_named word (cond b (line ∷ filter has_text own) (filter has_text own)) ≡ first_named word (line ∷ own)
  first-by line own more true h = ap (λ (o : Option Line). if is_named line.text word then Some line else o) more
  first-by line own more false h =
      more
      ∙ ap (λ (b : Bool). if b then Some line else first_named word own)
      (sym (ap (λ (l : Line). is_named l.text word) (is_empty line h) ∙ some))

  first-less : (own : List Line) → first_named word (filter has_text own) ≡ first_named word own
  first-less [] = refl
  first-less (line ∷ own) = first-by line own (first-less own) (has_text line) refl

zones-by : (line : Line) (own : List Line) → flat_map date_zones (filter has_text own) ≡ flat_map date_zones own → (b : Bool) → has_text line ≡ b
    → flat_map date_zones (cond b (line ∷ filter has_text own) (filter has_text own)) ≡ flat_map date_zones (line ∷ own)
zones-by line own more true h = ap (λ (zs : List (List ℕ)). date_zones line ++ zs) more
zones-by line own more false h =
    more ∙ ap (λ (zs : List (List ℕ)). zs ++ flat_map date_zones own) (sym (ap date_zones (is_empty line h) ∙ empty-zones line.number))

zones-less : (own : List Line) → flat_map date_zones (filter has_text own) ≡ flat_map date_zones own
zones-less [] = refl
zones-less (line ∷ own) = zones-by line own (zones-less own) (has_text line) refl

-- ---- the lines that are read

-- an empty line is none that passes a test
module _ (test : Line → Bool) (none : (number : ℕ) → test (empty number) ≡ false) where
  filter-by : (line : Line) (lines : List Line) → filter test (filter has_text lines) ≡ filter test lines → (b : Bool) → has_text line ≡ b
      → filter test (cond b (line ∷ filter has_text lines) (filter has_text lines)) ≡ filter test (line ∷ lines)
  filter-by line lines more true h = ap (λ (ls : List Line). cond (test line) (line ∷ ls) ls) more
  filter-by line lines more false h =
      more ∙ ap (λ (b : Bool). cond b (line ∷ filter test lines) (filter test lines)) (sym (ap test (is_empty line h) ∙ none line.number))

  filter-less : (lines : List Line) → filter test (filter has_text lines) ≡ filter test lines
  filter-less [] = refl
  filter-less (line ∷ lines) = filter-by line lines (filter-less lines) (has_text line) refl

components_full : (lines : List Line) → filter is_component_line (full_lines lines) ≡ filter is_component_line lines
components_full [] = refl
components_full (line ∷ lines) = ap (λ (ls : List Line). cond (is_component_line line) (line ∷ ls) ls) (filter-less is_component_line empty-component lines)

-- a line that is kept, before lines some of which are
scan_kept : (line : Line) (components : Components) (less lines : List Line)
    → ((after : Components) → scan_of false 0 after less ≡ scan_of false 0 after lines)
    → scan_of false 0 components (line ∷ less) ≡ scan_of false 0 components (line ∷ lines)
scan_kept line components less lines more = by (left_by false components line)
  where
    by : (r : Result Left Refusal) → scan_from r (λ after. scan_of false 0 after less) ≡ scan_from r (λ after. scan_of false 0 after lines)
    by (Err refusal) = refl
    by (Ok step) = ap (λ (s : Scan). scan_from (Ok step) (λ after. s)) (more step.components)

scan_by : (line : Line) (lines : List Line) → ((after : Components) → scan_of false 0 after (filter has_text lines) ≡ scan_of false 0 after lines)
    → (components : Components) (b : Bool) → has_text line ≡ b
    → scan_of false 0 components (cond b (line ∷ filter has_text lines) (filter has_text lines)) ≡ scan_of false 0 components (line ∷ lines)
scan_by line lines more components true h = scan_kept line components (filter has_text lines) lines more
scan_by line lines more components false h =
    more components ∙ sym (empty-scan components line.number (λ after. scan_of false 0 after lines))
    ∙ ap (λ (l : Line). scan_of false 0 components (l ∷ lines)) (sym (is_empty line h))

scan_less : (lines : List Line) (components : Components) → scan_of false 0 components (filter has_text lines) ≡ scan_of false 0 components lines
scan_less [] components = refl
scan_less (line ∷ lines) components = scan_by line lines (λ after. scan_less lines after) components (has_text line) refl

scan_full : (lines : List Line) → scan_of false 0 no_components (full_lines lines) ≡ scan_of false 0 no_components lines
scan_full [] = refl
scan_full (line ∷ lines) = scan_kept line no_components (filter has_text lines) lines (scan_less lines)

used_full : (is_unread : Bool) (lines : List Line) → used_in is_unread (full_lines lines) ≡ used_in is_unread lines
used_full true lines = ap (scan_of false 0 no_components) (components_full lines)
used_full false lines = scan_full lines

-- ---- what the lines of an event state

first_full : (lines : List Line) → first_line (full_lines lines) ≡ first_line lines
first_full [] = refl
first_full (line ∷ lines) = refl

recurrence-less : (own : List Line) → recurrence_of (filter has_text own) ≡ recurrence_of own
recurrence-less own = ap (λ (line : Option Line). option_map recurrence_on line) (first-less (codes "RECURRENCE-ID") refl own)

cancelled-less : (own : List Line) → is_cancelled (filter has_text own) ≡ is_cancelled own
cancelled-less own =
    ap (λ (line : Option Line). str_eq_ignore_ascii_case (value_or_empty (option_and_then (λ (l : Line). value_of_line l.text) line)) (codes "CANCELLED"))
    (first-less (codes "STATUS") refl own)

start-less : (own : List Line) → start_zone (filter has_text own) ≡ start_zone own
start-less own =
    ap (λ (line : Option Line). value_or_empty (option_and_then (λ (l : Line). zone_on l.text) line)) (first-less (codes "DTSTART") refl own)

event_zones-less : (gone : Bool) (own : List Line) → event_zones gone (filter has_text own) ≡ event_zones gone own
event_zones-less gone own =
    ap (λ (line : Option Line). event_zones_by line gone (filter has_text own)) (first-less (codes "RECURRENCE-ID") refl own)
    ∙ by (first_named (codes "RECURRENCE-ID") own) gone
  where
    by : (recurrence : Option Line) (b : Bool) → event_zones_by recurrence b (filter has_text own) ≡ event_zones_by recurrence b own
    by None b = λ i. start-less own i ∷ zones-less own i
    by (Some line) true = refl
    by (Some line) false = ap (λ (zone : List ℕ). option_to_list (zone_on line.text) ++ zone ∷ []) (start-less own)

unread-less : (own : List Line) → is_unread (filter has_text own) ≡ is_unread own
unread-less own = λ i. is_some (recurrence-less own i) && cancelled-less own i

-- how many lines have a name, none of which is empty
count-less : (word : List ℕ) → is_named [] word ≡ false → (own : List Line) → count_named word (filter has_text own) ≡ count_named word own
count-less word some own =
    let has_name = λ (line : Line). is_named line.text word in
    sym (length-filter has_name (filter has_text own)) ∙ ap length (filter-less has_name (λ number. some) own) ∙ length-filter has_name own

-- a length by what the lines of an end and of a duration state
abbrev length_as : ℕ → ℕ → Option Line → Option Line → Line → Stamp → Option Length
length_as ends durations end duration line start =
    if (ends == 0) && (durations == 0) then Some (unstated start.kind)
    else (if (ends == 1) && (durations == 0) then option_and_then (λ (last : Line). end_length line last) end
    else (if (ends == 0) && (durations == 1)
    then duration_of (value_or_empty (option_and_then (λ (l : Line). value_of_line l.text) duration))
    else None))

length-less : (own : List Line) → event_length (filter has_text own) ≡ event_length own
length-less own =
    let start = first-less (codes "DTSTART") refl own in
    let end = first-less (codes "DTEND") refl own in
    let duration = first-less (codes "DURATION") refl own in
    let ends = count-less (codes "DTEND") refl own in
    let durations = count-less (codes "DURATION") refl own in
    λ i. option_and_then (λ (line : Line). option_and_then (length_as (ends i) (durations i) (end i) (duration i) line) (stamp_on line)) (start i)

event-less : (first : ℕ) (scan : Scan) (own : List Line) → event_by first scan (filter has_text own) ≡ event_by first scan own
event-less first scan own =
    let zones = ap (λ (b : Bool). event_zones b (filter has_text own)) (cancelled-less own) ∙ event_zones-less (is_cancelled own) own in
    λ i. record {
      first = first;
      scan = scan;
      recurrence = recurrence-less own i;
      is_cancelled = cancelled-less own i;
      zones = zones i;
      length = length-less own i;
    }

pub event_full : (lines : List Line) → event_of (full_lines lines) ≡ event_of lines
event_full lines =
    let full = full_lines lines in
    let own = own_lines [] lines in
    let less = filter has_text own in
    ap (λ (ls : List Line). event_by (first_line full) (used_in (is_unread ls) full) ls) (own-full lines)
    ∙ ap (λ (n : ℕ). event_by n (used_in (is_unread less) full) less) (first_full lines)
    ∙ ap (λ (b : Bool). event_by (first_line lines) (used_in b full) less) (unread-less own)
    ∙ ap (λ (s : Scan). event_by (first_line lines) s less) (used_full (is_unread own) lines)
    ∙ event-less (first_line lines) (used_in (is_unread own) lines) own

-- ---- its words and its title

empty-words : (number : ℕ) → line_words (empty number) ≡ []
empty-words number = refl

words-by : (line : Line) (own : List Line) → flat_map line_words (filter has_text own) ≡ flat_map line_words own → (b : Bool) → has_text line ≡ b
    → flat_map line_words (cond b (line ∷ filter has_text own) (filter has_text own)) ≡ flat_map line_words (line ∷ own)
words-by line own more true h = ap (λ (ws : List (List ℕ)). line_words line ++ ws) more
words-by line own more false h =
    more ∙ ap (λ (ws : List (List ℕ)). ws ++ flat_map line_words own) (sym (ap line_words (is_empty line h) ∙ empty-words line.number))

words-less : (own : List Line) → flat_map line_words (filter has_text own) ≡ flat_map line_words own
words-less [] = refl
words-less (line ∷ own) = words-by line own (words-less own) (has_text line) refl

pub words_full : (lines : List Line) → event_words (full_lines lines) ≡ event_words lines
words_full lines =
    let own = own_lines [] lines in ap words_of (own-full lines) ∙ (λ i. words-less own i ++ cancelled_words (cancelled-less own i))

pub title_full : (lines : List Line) → title_of (full_lines lines) ≡ title_of lines
title_full lines =
    ap (λ (own : List Line). unescaped false (first_value (codes "SUMMARY") own)) (own-full lines)
    ∙ ap (λ (line : Option Line). unescaped false (value_or_empty (option_and_then (λ (l : Line). value_of_line l.text) line)))
    (first-less (codes "SUMMARY") refl (own_lines [] lines))

pub series_words_full : (lines : List Line) → series_words (full_lines lines) ≡ series_words lines
series_words_full lines =
    let own = own_lines [] lines in
    ap series_words_of (own-full lines)
    ∙ (λ i. if not (is_some (recurrence-less own i)) then Some (words-less own i ++ cancelled_words (cancelled-less own i)) else None)

pub series_zones_full : (lines : List Line) → series_zones (own_lines [] (full_lines lines)) ≡ series_zones (own_lines [] lines)
series_zones_full lines = let own = own_lines [] lines in ap series_zones (own-full lines) ∙ (λ i. start-less own i ∷ zones-less own i)
