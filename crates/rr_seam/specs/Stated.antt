-- What a file states by its events: the one thing that a comparison knows of its language.
use Rattle.std.specs.Prelude.{◌≡◌, ℕ, List, Option, Result, Ok, Err, ⊤}
use Rattle.rr_length.specs.Lengths.{Lengths}
use Rattle.rr_model.specs.Series.Validity.{IsValidSeries}
use Rattle.rr_model.specs.declared.rule.Series.{Series}
use Rattle.rr_seam.specs.Words.{Words}
use Rattle.rr_seam.specs.declared.file.KeySeries.{KeySeries}
use Rattle.rr_seam.specs.declared.key.Key.{Key}
use Rattle.rr_seam.specs.declared.marks.Marks.{Marks}
use Rattle.rr_seam.specs.declared.refusal.KeyFault.{KeyFault}
use Rattle.rr_seam.specs.declared.refusal.KeyFault.TheVariants as key_fault
use Rattle.rr_seam.specs.declared.refusal.KeyRefusal.{KeyRefusal}

-- What the events of a key state together: their series with its instances as dates, or why they are refused; the place at which a
-- limit refuses that series; the names of their zones; the words in which they state it; how long their occurrences are, if that can be
-- told; and how they are read if they are at odds with RFC 5545.
pub record Stated : Type 0 where
  pub series : Result Series KeyRefusal
  pub place : ℕ
  pub zones : List (List ℕ)
  pub words : Words
  pub lengths : Option Lengths
  pub marks : Marks

-- A calendar: the keys of its events in their order, by the indexes of events what they state together, and the title of each event.
pub record Calendar : Type 0 where
  pub keys : List Key
  pub stated : List ℕ → Stated
  pub titles : ℕ → List ℕ

-- the calendar of these keys, whose events state this and have these titles
abbrev pub calendar_by : List Key → (List ℕ → Stated) → (ℕ → List ℕ) → Calendar
calendar_by keys stated titles = record { keys = keys; stated = stated; titles = titles }

-- a valid series is stated, with these zones, lengths and readings, and is refused by limits at this place
pub record IsKeyStated (stated : Stated) (key : KeySeries) : Type 0 where
  pub states : stated.series ≡ Ok key.series
  pub valid : IsValidSeries key.series
  pub at : key.place ≡ stated.place
  pub zones : key.zones.items ≡ stated.zones
  pub lengths : key.lengths ≡ stated.lengths
  pub marks : key.marks ≡ stated.marks

-- the answer is the series that is stated, or its refusal, but out of memory may come in place of each
abbrev pub AnswersStated : Stated → Result KeySeries KeyFault → Type 0
AnswersStated stated (Ok key) = IsKeyStated stated key
AnswersStated stated (Err (key_fault.Refused r)) = stated.series ≡ Err r
AnswersStated stated (Err key_fault.NoMemory) = ⊤
