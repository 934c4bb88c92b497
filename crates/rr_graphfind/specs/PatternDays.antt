-- The days of a pattern beside those of a set of occurrences.
use Rattle.std.specs.Prelude.{ℕ, ℤ}
use Rattle.rr_family.specs.Lasting.{is_occupied}
use Rattle.rr_family.specs.Taking.{AgreeWithin}
use Rattle.rr_model.specs.Graph.Occurrences.{is_pattern_day}
use Rattle.rr_model.specs.declared.graph.Pattern.{Pattern}
use Rattle.rr_model.specs.declared.sketch.Sketch.{Sketch}

-- the occupied ones of n days from the first day on are the pattern's days, counted from that day
abbrev pub HasPatternDays : Sketch → Pattern → ℤ → ℕ → Type 0
HasPatternDays s pattern first days = AgreeWithin (is_pattern_day pattern first) (is_occupied s) first days
