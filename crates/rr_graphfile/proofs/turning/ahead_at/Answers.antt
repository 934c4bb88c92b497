use Rattle.std.proofs.Common.{to_z-of_z}
use Rattle.rr_graphfile.proofs.TurningLemmas.{years_near}
use Rattle.rr_graphfile.proofs.turning.ahead_at.Goals as goal

pub at-requires : goal.at-requires
at-requires c = rw (to_z-of_z c.ranges.at) (years_near c.args.at c.requires)
