use Rattle.std.proofs.Common.{◌≡◌, ◌+◌, ◌≤◌, ◌++◌, length}
use Rattle.std.specs.List.{filter}
use Rattle.rr_events.specs.Cutting.{has_text, lines_at}
use Rattle.rr_events.proofs.full.put_lines.Given as goal

-- the lines of the rest are left
abbrev pub invariant-loop-cut : goal.invariant-loop-cut
invariant-loop-cut l = record {
  same : l.lines ++ filter has_text (lines_at l.rest.number l.rest.text.now) ≡ l.fn.lines ++ filter has_text (lines_at l.number l.text);
  few : l.rest.number + length l.rest.text.now ≤ l.number + length l.text;
}

abbrev pub decreases-loop-cut : goal.decreases-loop-cut
decreases-loop-cut l = length l.rest.text.now
