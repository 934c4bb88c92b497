-- What a command is about: occurrences with a cycle, by the form in which a text states them.
use Rattle.std.specs.Prelude.{◌≡◌, ℕ, Option, None, Result, Ok, Err}
use Rattle.rr_model.specs.Moment.{Occurrences}
use Rattle.rr_model.specs.Series.Cycle.{series_cycle}
use Rattle.rr_model.specs.Series.FirstRefusal.{IsFirstRefusal, Limits}
use Rattle.rr_model.specs.Series.Occurrences.{Occurs}
use Rattle.rr_model.specs.Sets.Sketch.{StandsIn}
use Rattle.rr_model.specs.declared.kind.Kind.{Kind}
use Rattle.rr_model.specs.declared.refusal.Refusal.{Refusal}
use Rattle.rr_model.specs.declared.rule.Series.{Series}
use Rattle.rr_model.specs.declared.sketch.Sketch.{Sketch}
use Rattle.rr_skip.specs.Judged.{IsSkipLimitRefusal}
use Rattle.rr_skip.specs.Members.{OccursSkipping, skip_cycle}
use Rattle.rr_skip.specs.declared.series.SkipSeries.{SkipSeries}

-- a series of RFC 5545, the sketch of a canonical text, or a series of RFC 7529
pub data Subject : Type 0 where
  of_series : Series → Subject
  of_sketch : Sketch → Subject
  of_skipping : SkipSeries → Subject

-- the occurrences of a subject
abbrev pub OccursIn : Subject → Occurrences
OccursIn (of_series series) = Occurs series
OccursIn (of_sketch sketch) = StandsIn sketch
OccursIn (of_skipping series) = OccursSkipping series

-- whether they are dates or moments
abbrev pub kind_of : Subject → Kind
kind_of (of_series series) = series.kind
kind_of (of_sketch sketch) = sketch.kind
kind_of (of_skipping series) = series.kind

-- after how many days it repeats, once it has settled
abbrev pub cycle_of : Subject → ℕ
cycle_of (of_series series) = series_cycle series
cycle_of (of_sketch sketch) = sketch.period
cycle_of (of_skipping series) = skip_cycle series

-- The first refusal of what was read, by these limits, or None. A canonical text is refused by no limit. A series of RFC 7529 has one
-- rule, which fits its start, and all that is asked of it is asked of its occurrences: its cycle is judged and its count.
abbrev pub IsSubjectRefusal : Limits → Subject → Option Refusal → Type 0
IsSubjectRefusal limits (of_series series) x = IsFirstRefusal limits series x
IsSubjectRefusal limits (of_sketch sketch) x = x ≡ None
IsSubjectRefusal limits (of_skipping series) x = IsSkipLimitRefusal series x

-- what may be read of a text: a subject, or why the text is refused
abbrev pub Reading : Type 1
Reading = Result Subject Refusal → Type 0

-- what is read of a text that states a series
abbrev pub as_subject : Result Series Refusal → Result Subject Refusal
as_subject (Ok series) = Ok (of_series series)
as_subject (Err refusal) = Err refusal

-- what is read of a text that states a series of RFC 7529
abbrev pub as_skipping : Result SkipSeries Refusal → Result Subject Refusal
as_skipping (Ok series) = Ok (of_skipping series)
as_skipping (Err refusal) = Err refusal
