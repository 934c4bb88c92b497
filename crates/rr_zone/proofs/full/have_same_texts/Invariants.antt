use Rattle.std.proofs.Common.{◌≡◌, ◌+◌, ◌≤◌, length}
use Rattle.rr_events.specs.RawLines.{lines_of}
use Rattle.rr_zone.specs.Zones.{have_same_texts, raw_lines_in}
use Rattle.rr_zone.proofs.full.have_same_texts.Given as goal

-- the lines of both rests are left
abbrev pub invariant-loop-cut : goal.invariant-loop-cut
invariant-loop-cut l = record {
  same : have_same_texts (lines_of (raw_lines_in l.rest)) (lines_of (raw_lines_in l.other))
      ≡ have_same_texts (lines_of (raw_lines_in l.a)) (lines_of (raw_lines_in l.b));
  few : l.rest.first + length l.rest.text.now ≤ l.a.first + length l.a.text.now;
  few_others : l.other.first + length l.other.text.now ≤ l.b.first + length l.b.text.now;
}

abbrev pub decreases-loop-cut : goal.decreases-loop-cut
decreases-loop-cut l = length l.rest.text.now
