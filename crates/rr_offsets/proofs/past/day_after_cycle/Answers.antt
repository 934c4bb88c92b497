use Rattle.std.proofs.Common.{w64, to_z-of_z, FitsSigned}
use Rattle.rr_offsets.proofs.PastLemmas.{day_after_past}
use Rattle.rr_offsets.proofs.past.day_after_cycle.Goals as goal

pub returns : goal.returns
returns c =
    let first : FitsSigned w64 c.cycle_after.result = record { sfits = c.cycle_after.type_inv } in
    let day : FitsSigned w64 c.day_after.result = record { sfits = c.day_after.type_inv } in
    rw (to_z-of_z day) (day_after_past c.args.past c.day_after.result c.requires
    (rw (to_z-of_z first, c.cycle_after.ensures, to_z-of_z c.ranges.past) at c.day_after.ensures))
