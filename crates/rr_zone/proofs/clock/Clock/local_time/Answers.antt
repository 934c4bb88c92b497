use Rattle.std.proofs.Common.{to_z-of_z}
use Rattle.rr_zone.proofs.NearLemmas.{years-near}
use Rattle.rr_zone.proofs.clock.Clock.local_time.Goals as goal

pub local_from-requires-clause-at : goal.local_from-requires-clause-at
local_from-requires-clause-at c = rw (to_z-of_z c.ranges.at) (years-near c.args.at c.requires)

pub local_before-requires : goal.local_before-requires
local_before-requires c = rw (to_z-of_z c.ranges.at) (years-near c.args.at c.requires)
