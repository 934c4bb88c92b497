-- From which year on a series has occurrences (RFC 5545, sections 3.3.4 and 3.8.5).
use Rattle.std.specs.Prelude.{ℤ}
use Rattle.rr_model.specs.Moment.{day_part}
use Rattle.rr_model.specs.Moment.Years.{IsFromYearOne}
use Rattle.rr_model.specs.Series.Occurrences.{Occurs}
use Rattle.rr_model.specs.Series.Validity.{IsValidSeries}
use Rattle.rr_model.specs.declared.kind.Kind.{Kind}
use Rattle.rr_model.specs.declared.rule.Series.{Series}

-- Each occurrence of a valid series lies in the year 1 or later.
abbrev pub OccursFromYearOne : Type 0
OccursFromYearOne = (series : Series) (k : Kind) (t : ℤ) → IsValidSeries series → Occurs series k t → IsFromYearOne (day_part k t)
