-- What the events of a key state together, step by step.
use Rattle.std.proofs.Common.{◌≡◌, ℕ, ◌<◌, ◌≤◌, Bool, List, [], ◌∷◌, ◌++◌, get_or, length, map, ℤ, Option, None, Some, Result, Ok, Err}
use Rattle.std.proofs.Common.{refl, sym, subst, ap, ◌∙◌}
use Rattle.std.specs.Prelude.{option_map, option_to_list, slice_get}
use Rattle.std.proofs.lemmas.List.{append-nil, map-append}
use Rattle.std.proofs.lemmas.Option.{slice_get-map, slice_get_past, slice_get_read}
use Rattle.rr_events.specs.Finding.{lines_in}
use Rattle.rr_events.specs.declared.find.Piece.{Piece}
use Rattle.rr_model.specs.declared.line.Line.{Line}
use Rattle.rr_seam.specs.Stated.{AnswersStated, IsKeyStated}
use Rattle.rr_model.specs.Series.Validity.{IsValidSeries}
use Rattle.rr_seam.specs.Steps.{◌>=>◌, AnswersKey}
use Rattle.rr_seam.specs.declared.file.KeySeries.{KeySeries}
use Rattle.rr_seam.specs.declared.refusal.KeyFault.{KeyFault}
use Rattle.rr_seam.specs.declared.refusal.KeyFault.TheVariants as key_fault
use Rattle.rr_seam.specs.declared.refusal.KeyRefusal.{KeyRefusal}
use Rattle.rr_icalfile.specs.Calendar.{EventTexts, calendar_in, first_of, lengths_by_events, line_of, marks_of_day, stated_by, text_at, texts_at}
use Rattle.rr_icalfile.specs.Calendar.{zones_by_events, zones_in}
use Rattle.rr_icalfile.specs.Days.{day_in, reading_of, reading_of_events, series_in}
use Rattle.rr_icalfile.specs.Edited.{KeyEvents, key_events}
use Rattle.rr_icalfile.specs.Lengths.{lengths_of}
use Rattle.rr_icalfile.specs.Parts.{lines_of}
use Rattle.rr_icalfile.specs.Taken.{taken}
use Rattle.rr_icalfile.specs.declared.day.Reading.{Reading}
use Rattle.rr_icalfile.specs.declared.event.Event.{Event}
use Rattle.rr_icalfile.specs.declared.part.Part.{Part}
use Rattle.rr_icalfile.proofs.DayLemmas.{reading-valid}

-- ---- the event of an index

got : (pieces : List Piece) (index : ℕ) (o : Option Piece) → slice_get pieces index ≡ o → slice_get (map lines_in pieces) index ≡ option_map lines_in o
got pieces index o is = slice_get-map lines_in pieces index ∙ ap (option_map lines_in) is

-- the part of an index is put
pub part_put : (old new : List Part) (part : Part) (pieces : List Piece) (index : ℕ) → new ≡ old ++ part ∷ [] → index < length pieces
    → part.piece ≡ get_or pieces index part.piece → map lines_of new ≡ map lines_of old ++ text_at (map lines_in pieces) index
part_put old new part pieces index put within is =
    let at = slice_get_read pieces (length pieces) index part.piece refl within is in
    ap (map lines_of) put ∙ map-append lines_of old (part ∷ [])
    ∙ ap (λ (o : Option (List Line)). map lines_of old ++ option_to_list o) (sym (got pieces index (Some part.piece) at))

-- beyond the last event there is none
pub none_at : (found : List (List Line)) (pieces : List Piece) (index : ℕ) → length pieces ≤ index → found ≡ found ++ text_at (map lines_in pieces) index
none_at found pieces index past =
    sym (ap (λ (o : Option (List Line)). found ++ option_to_list o) (got pieces index None (slice_get_past pieces index past)) ∙ append-nil found)

-- beyond the last event nothing is put
pub none_put : {A : Type 0} (f : List Line → A) (found : List A) (pieces : List Piece) (index : ℕ) → length pieces ≤ index
    → found ≡ found ++ map f (text_at (map lines_in pieces) index)
none_put f found pieces index past =
    sym (ap (λ (o : Option (List Line)). found ++ map f (option_to_list o)) (got pieces index None (slice_get_past pieces index past)) ∙ append-nil found)

-- ---- the steps

-- the events that are listed are those of the texts
module _ (offset : Option ℤ) (lenient : Bool) (texts : List (List Line)) (listed : List Event) (same : listed ≡ taken texts) where
  abbrev from : Result KeyEvents KeyRefusal → Result Reading KeyRefusal
  from events = events >=> reading_of offset lenient

  by_listed : reading_of_events offset lenient (taken texts) ≡ from (key_events listed)
  by_listed = sym (ap (reading_of_events offset lenient) same)

  pub not_gathered : (f : KeyFault) → AnswersKey (key_events listed) (Err f) → AnswersStated (stated_by offset lenient texts) (Err f)
  not_gathered (key_fault.Refused r) h = ap series_in (by_listed ∙ ap from h)
  not_gathered key_fault.NoMemory h = tt

  module _ (all : KeyEvents) (is : key_events listed ≡ Ok all) where
    by_gathered : reading_of_events offset lenient (taken texts) ≡ reading_of offset lenient all
    by_gathered = by_listed ∙ ap from is

    pub not_read : (f : KeyFault) → AnswersKey (reading_of offset lenient all) (Err f) → AnswersStated (stated_by offset lenient texts) (Err f)
    not_read (key_fault.Refused r) h = ap series_in (by_gathered ∙ h)
    not_read key_fault.NoMemory h = tt

    pub was_read : (reading : Reading) (key : KeySeries) → reading_of offset lenient all ≡ Ok reading → key.series ≡ reading.series
        → key.marks ≡ marks_of_day reading.day → key.lengths ≡ lengths_of offset all → key.place ≡ first_of all.series all.instances
        → key.zones.items ≡ zones_in all
        → IsKeyStated (stated_by offset lenient texts) key
    was_read reading key h series marks lengths at zones = record {
      states = ap series_in (by_gathered ∙ h) ∙ ap Ok (sym series);
      valid = subst IsValidSeries (sym series) (reading-valid offset lenient all reading h);
      at = at ∙ ap line_of (sym is ∙ ap key_events same);
      zones = zones ∙ ap zones_by_events (sym is ∙ ap key_events same);
      lengths = lengths ∙ ap (lengths_by_events offset) (sym is ∙ ap key_events same);
      marks = marks ∙ sym (ap (λ r. marks_of_day (day_in r)) (by_gathered ∙ h));
    }

-- ---- a file

-- what is stated by pieces is stated by the file that has them
pub by_file : (file : EventTexts) (offset : Option ℤ) (lenient : Bool) (pieces listed : List Piece) (indexes : List ℕ) (r : Result KeySeries KeyFault)
    → ◌≡◌ {A = EventTexts} (record { offset = offset; lenient = lenient; texts = map lines_in pieces }) file → listed ≡ pieces
    → AnswersStated (stated_by offset lenient (texts_at (map lines_in listed) indexes)) r → AnswersStated ((calendar_in file).stated indexes) r
by_file file offset lenient pieces listed indexes r view same h =
    subst (λ (f : EventTexts). AnswersStated ((calendar_in f).stated indexes) r) view
    (subst (λ (ps : List Piece). AnswersStated (stated_by offset lenient (texts_at (map lines_in ps) indexes)) r) same h)
