-- What the text of an operand states in its own language, with no word of RFC 5545 unless that is its language.
use Rattle.std.specs.Prelude.{◌≡◌, ℤ, List, ℕ, Option, Ok}
use Rattle.rr_answer.specs.Command.{Operand}
use Rattle.rr_answer.specs.OperandReading.{IsSubjectRead, reads_zoned_rrule, reads_zoned_rscale}
use Rattle.rr_answer.specs.Subjects.{OccursIn, Subject}
use Rattle.rr_answer.specs.declared.command.Language.{Language}
use Rattle.rr_answer.specs.declared.command.DayLanguage.TheVariants.{Canon, Rscale, ZonedRscale}
use Rattle.rr_answer.specs.declared.command.Language.TheVariants as language
use Rattle.rr_answer.specs.declared.command.SeriesLanguage.TheVariants.{Rrule, ZonedRrule, Vcal, Graph, List as list}
use Rattle.rr_algebra.specs.Stated.{IsDescriptor}
use Rattle.rr_model.specs.Graph.Occurrences.{IsGraphOccurrence}
use Rattle.rr_model.specs.Graph.Reading.{reads_graph}
use Rattle.rr_model.specs.Moment.{Occurrences}
use Rattle.rr_model.specs.Series.Occurrences.{Occurs}
use Rattle.rr_model.specs.Sets.Sketch.{StandsIn}
use Rattle.rr_model.specs.Sets.Verdict.{HaveEqualOccurrences}
use Rattle.rr_rule_parts.specs.Calendars.{reads_calendar}
use Rattle.rr_model.specs.Text.Lines.{without_mark}
use Rattle.rr_ical.specs.Lists.{reads_list}
use Rattle.rr_model.specs.Vcal.Members.{OccursInVseries}
use Rattle.rr_model.specs.Vcal.Reading.{reads_vcal}
use Rattle.rr_model.specs.declared.graph.GraphEvent.{GraphEvent}
use Rattle.rr_model.specs.declared.rule.Series.{Series}
use Rattle.rr_model.specs.declared.sketch.Sketch.{Sketch}
use Rattle.rr_model.specs.declared.vcal.VSeries.{VSeries}
use Rattle.rr_skip.specs.Members.{OccursSkipping}
use Rattle.rr_skip.specs.Reading.{reads_rscale}
use Rattle.rr_skip.specs.declared.series.SkipSeries.{SkipSeries}

-- The occurrences of what the bytes state: of a series of RFC 5545 or of dates, of the items of a vCalendar 1.0 series, of the
-- days of a Graph pattern within its range, of the sketch of a canonical text, of a rule of RFC 7529 with its SKIP. The offset is the
-- stated one, local time less UTC in seconds; with `zone` the moments of UTC of a text are read in local time of the zones that it defines.
abbrev pub OccursAsStated : Language → Option ℤ → List ℕ → Occurrences
OccursAsStated (language.Series Rrule) offset bytes k t = (series : Series) × (reads_calendar offset bytes ≡ Ok series) × Occurs series k t
OccursAsStated (language.Series ZonedRrule) offset bytes k t = (series : Series) × (reads_zoned_rrule bytes ≡ Ok series) × Occurs series k t
OccursAsStated (language.Series list) offset bytes k t = (series : Series) × (reads_list bytes ≡ Ok series) × Occurs series k t
OccursAsStated (language.Series Vcal) offset bytes k t = (series : VSeries) × (reads_vcal offset bytes ≡ Ok series) × OccursInVseries series k t
OccursAsStated (language.Series Graph) offset bytes k t = (event : GraphEvent) × (reads_graph offset bytes ≡ Ok event) × IsGraphOccurrence event k t
OccursAsStated (language.Days Canon) offset bytes k t = (sketch : Sketch) × IsDescriptor (without_mark bytes) sketch × StandsIn sketch k t
OccursAsStated (language.Days Rscale) offset bytes k t = (series : SkipSeries) × (reads_rscale offset bytes ≡ Ok series) × OccursSkipping series k t
OccursAsStated (language.Days ZonedRscale) offset bytes k t = (series : SkipSeries) × (reads_zoned_rscale bytes ≡ Ok series) × OccursSkipping series k t

-- What is read of an operand has the occurrences that its text states in its own language.
abbrev pub OwnSense : Type 0
OwnSense =
    (operand : Operand) (bytes : List ℕ) (subject : Subject) → IsSubjectRead operand bytes (Ok subject)
    → HaveEqualOccurrences (OccursIn subject) (OccursAsStated operand.language operand.offset bytes)
