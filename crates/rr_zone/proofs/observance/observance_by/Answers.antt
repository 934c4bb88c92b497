use Rattle.std.proofs.Common.{sym, to_z-of_z, ◌∙◌}
use Rattle.rr_rrule.proofs.BesideLemmas.{scan-valid}
use Rattle.rr_zone.proofs.SoundLemmas.{series-sound}
use Rattle.rr_zone.proofs.observance.observance_by.Goals as goal

pub returns-then-is_zone_series-clause-sound : goal.returns-then-is_zone_series-clause-sound
returns-then-is_zone_series-clause-sound c =
    rw (to_z-of_z c.ranges.from, to_z-of_z c.ranges.to)
    (series-sound c.in-Ok.series c.args.from c.args.to (sym c.is_zone_series.ensures ∙ c.if-is_zone_series.true)
    (scan-valid _ c.args.scan.now c.in-Ok.series c.in-Ok.ensures) c.requires.from c.requires.to)
