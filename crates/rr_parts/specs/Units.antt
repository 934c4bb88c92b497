-- The units of a rule, by its frequency and by the weekday on which its weeks begin (RFC 5545, section 3.3.10, FREQ and WKST).
use Rattle.std.specs.Prelude.{ℤ}
use Rattle.rr_model.specs.Moment.Units.{unit_number, unit_start}
use Rattle.rr_model.specs.declared.kind.Kind.{Kind}
use Rattle.rr_model.specs.declared.rule.Rule.{Rule}

-- the number of the unit in which a moment lies
abbrev pub unit_of : Rule → Kind → ℤ → ℤ
unit_of rule kind t = unit_number rule.freq rule.week_start kind t

-- the first moment of the unit of this number
abbrev pub start_of_unit : Rule → Kind → ℤ → ℤ
start_of_unit rule kind unit = unit_start rule.freq rule.week_start kind unit
