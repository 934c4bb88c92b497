-- The series of a list of dates or moments.
use Rattle.std.specs.Prelude.{true, false, ℤ, pos, List, [], Option, None, Some}
use Rattle.rr_model.specs.declared.kind.Kind.TheVariants.{Days}
use Rattle.rr_model.specs.declared.rule.Series.{Series}
use Rattle.rr_model.specs.declared.stamp.Stamp.{Stamp}

-- the first value is the start, and the others are further dates
abbrev pub series_of_list : Option Stamp → List ℤ → Series
series_of_list None plus = record { kind = Days; start = pos 0; start_counts = false; rules = []; excluded = []; plus = []; minus = [] }
series_of_list (Some first) plus = record { kind = first.kind; start = first.at; start_counts = true; rules = []; excluded = []; plus = plus; minus = [] }
