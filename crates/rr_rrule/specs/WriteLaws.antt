-- What is written for a series is read back.
use Rattle.std.specs.Prelude.{◌≡◌, true, All, None, Ok}
use Rattle.rr_model.specs.Series.Validity.{IsValidSeries}
use Rattle.rr_model.specs.Text.WriteLaws.{IsOneEnd}
use Rattle.rr_model.specs.Text.Written.{calendar_written}
use Rattle.rr_model.specs.declared.rule.Series.{Series}
use Rattle.rr_rule_parts.specs.Calendars.{reads_calendar}

-- A valid series whose start counts, and of whose rules and excluded rules none has both ends, is read back from its text.
abbrev pub CalendarIsReadBack : Type 0
CalendarIsReadBack =
    (series : Series) → IsValidSeries series → series.start_counts ≡ true → All (λ rule. IsOneEnd rule.end) series.rules → All (λ rule. IsOneEnd rule.end) series.excluded
    → reads_calendar None (calendar_written series) ≡ Ok series
