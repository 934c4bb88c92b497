-- Worked cases of counted days of a pattern.
use Rattle.std.proofs.Common.{◌≡◌, ℕ, pos, refl}
use Rattle.rr_model.specs.Calendar.{weekday_of}
use Rattle.rr_model.specs.Calendar.Week.{week_index}
use Rattle.rr_model.specs.Graph.Occurrences.{is_pattern_day, pattern_days_to}
use Rattle.rr_model.specs.Whole.Count.{count_from}
use Rattle.rr_model.specs.declared.graph.Form.{Form}
use Rattle.rr_model.specs.declared.graph.Form.TheVariants.{Daily, Weekly}
use Rattle.rr_model.specs.declared.graph.Pattern.{Pattern}

abbrev pattern : Form → ℕ → ℕ → Pattern
pattern form interval days = record { form = form; interval = interval; day_of_month = 1; month = 1; days = days; first_day = 6; index = pos 1 }

-- every second day from 1970-01-01 on: three up to 1970-01-06
of_days : pattern_days_to (pattern Daily 2 0) (pos 0) (pos 5) ≡ 3
unfolding count_from is_pattern_day
of_days = refl

-- Mondays and Fridays from Thursday, 1970-01-01, on: two up to 1970-01-05
of_weekdays : pattern_days_to (pattern Weekly 1 34) (pos 0) (pos 4) ≡ 2
unfolding count_from is_pattern_day weekday_of week_index
of_weekdays = refl
