use Rattle.rr_setpos.proofs.PositionLemmas.{set_positions_are_by_parts as law}
use Rattle.rr_setpos.proofs.laws.set_positions_are_by_parts.Goals as goal

pub returns : goal.returns
returns c = law
