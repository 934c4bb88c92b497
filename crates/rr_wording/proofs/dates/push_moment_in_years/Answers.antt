use Rattle.std.proofs.Common.{to_z-of_z}
use Rattle.rr_model.proofs.StartLemmas.{IsDayWithin-start}
use Rattle.rr_wording.proofs.dates.push_moment_in_years.Goals as goal

pub push_moment-requires : goal.push_moment-requires
push_moment-requires c = rw (to_z-of_z c.ranges.at) (IsDayWithin-start 0 c.args.kind c.args.at c.requires)
