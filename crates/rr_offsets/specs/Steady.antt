-- Zones whose rules go on each year (RFC 5545, section 3.6.5).
use Rattle.std.specs.Prelude.{Bool, true, false, ◌&&◌, ◌==◌, ℤ, pos, int_lt, List}
use Rattle.std.specs.List.{list_all}
use Rattle.rr_model.specs.declared.rule.End.{End}
use Rattle.rr_model.specs.declared.rule.End.TheVariants.{Never, Until}
use Rattle.rr_model.specs.declared.rule.Rule.{Rule}
use Rattle.rr_zone.specs.Observances.{is_yearly}
use Rattle.rr_zone.specs.declared.observance.Observance.{Observance}

-- 3000-01-01T00:00:00
abbrev pub year_3000 : ℤ
year_3000 = pos 32_503_680_000

-- a moment lies before the year 3000
abbrev pub is_early : ℤ → Bool
is_early t = int_lt t year_3000

-- a rule ends never, or at a moment before the year 3000
abbrev pub is_steady_end : End → Bool
is_steady_end Never = true
is_steady_end (Until kind at) = is_early at
is_steady_end end = false

-- a rule has its turn each year, up to its end
abbrev pub is_steady_rule : Rule → Bool
is_steady_rule rule = is_yearly rule.freq && (rule.interval == 1) && is_steady_end rule.end

-- the start and all dates of an observance lie before the year 3000, and its rules go on each year
abbrev pub is_steady_observance : Observance → Bool
is_steady_observance o = is_early o.series.start && list_all is_early o.series.plus && list_all is_steady_rule o.series.rules

-- A zone whose starts, dates and ends of rules lie before the year 3000, and whose rules go on each year.
abbrev pub is_steady : List Observance → Bool
is_steady zone = list_all is_steady_observance zone
