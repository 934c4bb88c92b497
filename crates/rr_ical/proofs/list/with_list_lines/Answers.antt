use Rattle.std.proofs.Common.{◌+◌}
use Rattle.rr_ical.proofs.TextLemmas.{nothing_left}
use Rattle.rr_ical.proofs.list.with_list_lines.Goals as goal

pub returns-clause-answer : goal.returns-clause-answer
returns-clause-answer c = nothing_left (c.loop-text.number + 1) c.loop-text.so_far c.loop-text.rest.now _ c.in_default.ensures c.loop-text.invariant.so_far
