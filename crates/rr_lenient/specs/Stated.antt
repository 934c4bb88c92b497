-- What the events of a key state, as calendars show it (RFC 5545, sections 3.3.10 and 3.8.5.3).
use Rattle.std.specs.Prelude.{◌≡◌, Bool, false, if◌then◌else◌, Result, Ok, Err}
use Rattle.rr_model.specs.Series.Validity.{IsValidSeries}
use Rattle.rr_model.specs.declared.rule.Series.{Series}
use Rattle.rr_seam.specs.Marks.{marks_of_both}
use Rattle.rr_seam.specs.Stated.{IsKeyStated, Stated}
use Rattle.rr_seam.specs.declared.file.KeySeries.{KeySeries}
use Rattle.rr_seam.specs.declared.marks.Marks.{Marks}
use Rattle.rr_seam.specs.declared.refusal.KeyRefusal.{KeyRefusal}
use Rattle.rr_lenient.specs.Read.{ReadSeries, read_of}

-- how a series that is at odds with the standard is read
abbrev pub marks_of : ReadSeries → Marks
marks_of read = record { until = read.until; start = read.start; day = false }

-- a series that is stated, as it is read
abbrev pub series_read : Result Series KeyRefusal → Result Series KeyRefusal
series_read (Ok series) = Ok (read_of series).series
series_read (Err refusal) = Err refusal

-- these marks, and those of a series that is stated
abbrev pub marks_read : Result Series KeyRefusal → Marks → Marks
marks_read (Ok series) marks = marks_of_both marks (marks_of (read_of series))
marks_read (Err refusal) marks = marks

-- what is stated, as it is read
abbrev pub stated_read : Stated → Stated
stated_read stated = record stated { series = series_read stated.series; marks = marks_read stated.series stated.marks }

-- What is stated, as calendars show it if that is asked for, and otherwise as it stands.
abbrev pub stated_if : Bool → Stated → Stated
stated_if lenient stated = if lenient then stated_read stated else stated

-- what is given of a key, as it is read
pub record IsReadKey (given read : KeySeries) : Type 0 where
  pub series : read.series ≡ (read_of given.series).series
  pub valid : IsValidSeries read.series
  pub zones : read.zones ≡ given.zones
  pub place : read.place ≡ given.place
  pub lengths : read.lengths ≡ given.lengths
  pub marks : read.marks ≡ marks_of_both given.marks (marks_of (read_of given.series))

-- What is read of a key that is stated is stated so, as it is read.
abbrev pub ReadKeyIsStated : Type 0
ReadKeyIsStated = (stated : Stated) (given read : KeySeries) → IsKeyStated stated given → IsReadKey given read → IsKeyStated (stated_read stated) read
