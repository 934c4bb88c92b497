-- The series of the used lines of an event of vCalendar 1.0.
use Rattle.std.specs.Prelude.{ℤ, Option, Result, Ok}
use Rattle.rr_model.specs.Text.Passes.{passes}
use Rattle.rr_model.specs.Text.RuleValues.{◌>>=◌}
use Rattle.rr_model.specs.Vcal.Reading.{vrule_beside, vcal_language, vseries_of_event}
use Rattle.rr_model.specs.declared.refusal.Refusal.{Refusal}
use Rattle.rr_model.specs.declared.used.Scan.{Scan}
use Rattle.rr_model.specs.declared.vcal.VSeries.{VSeries}

-- the series that the used lines of an event state, from both passes over them
abbrev pub vcal_scan : Option ℤ → Scan → Result VSeries Refusal
vcal_scan offset scan = passes vcal_language (vrule_beside offset) offset scan >>= λ event. Ok (vseries_of_event event)
