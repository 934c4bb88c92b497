-- What the time parts of a rule say of a time of day (RFC 5545, section 3.3.10, BYHOUR, BYMINUTE and BYSECOND).
use Rattle.std.specs.Prelude.{Bool, ◌&&◌}
use Rattle.rr_model.specs.Rule.Filled.{wants_hour, wants_minute, wants_second}
use Rattle.rr_model.specs.declared.rule.Rule.{Rule}
use Rattle.rr_parts.specs.Numbers.{number_allowed}
use Rattle.rr_parts.specs.declared.times.Time.{Time}

-- each time part, filled from the start's own time if it is absent and wanted, allows the time
abbrev pub time_allowed : Rule → Time → Time → Bool
time_allowed rule own time =
    number_allowed (wants_hour rule.freq) rule.by_hour own.hour time.hour && number_allowed (wants_minute rule.freq) rule.by_minute own.minute time.minute
    && number_allowed (wants_second rule.freq) rule.by_second own.second time.second
