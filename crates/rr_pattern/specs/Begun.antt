-- Ranges that begin on another day (Microsoft Graph, recurrenceRange, startDate).
use Rattle.std.specs.Prelude.{ℤ}
use Rattle.rr_model.specs.declared.graph.Range.{Range}

-- the range from that day on, with the same end
abbrev pub begun_on : Range → ℤ → Range
begun_on range day = record { start_day = day; end = range.end }
