use Rattle.std.proofs.Common.{to_z-of_z}
use Rattle.rr_expand.proofs.finer.fitting_seconds.Goals as goal

pub fitting_seconds_by-requires-clause-times : goal.fitting_seconds_by-requires-clause-times
fitting_seconds_by-requires-clause-times c = c.in_ok-times.ensures

pub returns : goal.returns
returns c = rw (to_z-of_z c.ranges.start, to_z-of_z c.ranges.day) at c.fitting_seconds_by.ensures
