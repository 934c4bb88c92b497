use Rattle.std.proofs.Common.{◌≡◌, ◌+◌, ◌≤◌, [], length}
use Rattle.rr_events.specs.Cutting.{lines_at}
use Rattle.rr_events.specs.Finding.{lines_in}
use Rattle.rr_icalfile.specs.Keys.{uid_in}
use Rattle.rr_icalfile.proofs.key.uid_of.Given as goal

-- the UID is that of the rest
abbrev pub invariant-loop-names : goal.invariant-loop-names
invariant-loop-names l = record {
  same : uid_in l.names (lines_at l.rest.number l.rest.text.now) ≡ uid_in [] (lines_in l.piece);
  few : l.rest.number + length l.rest.text.now ≤ l.piece.first + length l.piece.text.now;
}

abbrev pub decreases-loop-names : goal.decreases-loop-names
decreases-loop-names l = length l.rest.text.now
