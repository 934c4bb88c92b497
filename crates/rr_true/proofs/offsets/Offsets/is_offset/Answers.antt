use Rattle.rr_true.proofs.OffsetLemmas.{is_offset}
use Rattle.rr_true.proofs.offsets.Offsets.is_offset.Goals as goal

pub returns : goal.returns
returns c = rw (← c.self.view_is) (is_offset _ c.self.invariant)
