use Rattle.std.proofs.Common.{to_z-of_z}
use Rattle.rr_true.proofs.OffsetLemmas.{one_offset_sound}
use Rattle.rr_true.proofs.offsets.Offsets.fixed.Goals as goal

pub new-requires-2 : goal.new-requires-2
new-requires-2 c = rw (to_z-of_z c.ranges.offset) (one_offset_sound c.args.offset c.new.result.items c.new.ensures.items c.requires)
