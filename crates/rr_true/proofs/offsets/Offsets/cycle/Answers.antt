use Rattle.std.proofs.Common.{to_z-of_z, FitsSigned, w64, rules}
use Rattle.rr_true.proofs.OffsetLemmas.{is_offset, repeats}
use Rattle.rr_true.proofs.offsets.Offsets.cycle.Goals as goal

pub returns-clause-repeats : goal.returns-clause-repeats
returns-clause-repeats c =
    let settled : FitsSigned w64 c.self.inside.settled = search rules in
    rw (to_z-of_z settled, ← c.self.view_is) (repeats _ c.self.invariant)

pub returns-clause-offset : goal.returns-clause-offset
returns-clause-offset c = rw (← c.self.view_is) (is_offset _ c.self.invariant)
