use Rattle.std.proofs.Common.{length, ◌≤◌, ◌+◌}
use Rattle.rr_events.proofs.SegmentLemmas.{IsRead}
use Rattle.rr_events.proofs.segment.piece_lines.Given as goal

abbrev pub invariant-loop-lines : goal.invariant-loop-lines
invariant-loop-lines l = IsRead l.piece l.lines l.rest × (l.rest.first + length l.rest.text.now ≤ l.piece.first + length l.piece.text.now)

abbrev pub decreases-loop-lines : goal.decreases-loop-lines
decreases-loop-lines l = length l.rest.text.now
