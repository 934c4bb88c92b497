use Rattle.std.proofs.Common.{arith}
use Rattle.rr_text.proofs.PhysicalLemmas.{no_lines_left}
use Rattle.rr_ical.proofs.event.count_lines.Goals as goal

pub returns : goal.returns
returns c = omega (arith, c.loop-after.invariant.so_far, no_lines_left c.loop-after.rest.now c.in_default.ensures)
