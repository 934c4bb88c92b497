-- Which ranges are valid (Microsoft Graph, recurrenceRange).
use Rattle.rr_model.specs.Graph.Validity.{IsRangeEnd}
use Rattle.rr_model.specs.Moment.Years.{HasFourDigitYear}
use Rattle.rr_model.specs.declared.graph.Range.{Range}

-- a range begins in the years 1 to 9999, and its end is valid
abbrev pub IsValidRange : Range → Type 0
IsValidRange range = HasFourDigitYear range.start_day × IsRangeEnd range.end
