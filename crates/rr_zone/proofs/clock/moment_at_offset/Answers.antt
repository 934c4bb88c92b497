use Rattle.std.proofs.Common.{FitsSigned, w64, to_z-of_z}
use Rattle.rr_zone.proofs.MomentLemmas.{at_offset}
use Rattle.rr_zone.proofs.clock.moment_at_offset.Goals as goal

pub returns-clause-value : goal.returns-clause-value
returns-clause-value c =
    let less : FitsSigned w64 c.less.result = record { sfits = c.less.type_inv } in
    at_offset c.later_in_years.result c.less.result c.args.local c.args.offset (rw (to_z-of_z c.ranges.local, to_z-of_z c.ranges.offset) at c.less.ensures)
    (rw (to_z-of_z less) at c.later_in_years.ensures.value)
