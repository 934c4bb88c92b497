use Rattle.std.proofs.Common.{◌≡◌, ◌++◌, [], ◌≤◌, ◌+◌, length}
use Rattle.rr_zone.specs.Rewritten.{local_lines}
use Rattle.rr_zone.specs.Zones.{raw_lines_in}
use Rattle.rr_zone.proofs.RewrittenLemmas.{line}
use Rattle.rr_zone.proofs.rewritten.push_event.Given as goal

abbrev pub invariant-loop-names : goal.invariant-loop-names
invariant-loop-names l = record {
  so_far : l.out.items ++ local_lines (line l.fn.clock l.fn.others l.name l.is_instance) l.names (raw_lines_in l.rest)
      ≡ l.fn.out.items ++ local_lines (line l.fn.clock l.fn.others l.name l.is_instance) [] (raw_lines_in l.piece);
  clock : l.clock ≡ l.fn.clock;
  others : l.others ≡ l.fn.others;
  few : l.rest.first + length l.rest.text.now ≤ l.piece.first + length l.piece.text.now;
}

abbrev pub decreases-loop-names : goal.decreases-loop-names
decreases-loop-names l = length l.rest.text.now
