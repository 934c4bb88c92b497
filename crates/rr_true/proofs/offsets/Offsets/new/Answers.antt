use Rattle.std.proofs.Common.{to_z-of_z}
use Rattle.rr_true.proofs.OffsetLemmas.{by_parts}
use Rattle.rr_true.proofs.offsets.Offsets.new.Goals as goal

pub returns : goal.returns
returns c u = rw (to_z-of_z c.ranges.initial, to_z-of_z c.ranges.settled) (by_parts c.args.initial c.args.changes.items c.args.settled c.args.days u)
