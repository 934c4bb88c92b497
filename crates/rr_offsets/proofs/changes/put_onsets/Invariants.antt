use Rattle.std.proofs.Common.{◌≡◌, drop}
use Rattle.rr_offsets.specs.Listing.{with_onsets}
use Rattle.rr_offsets.proofs.changes.put_onsets.Given as goal

abbrev pub invariant-loop-onset : goal.invariant-loop-onset
invariant-loop-onset l = with_onsets l.end l.moments (drop l.onset-index l.onsets) ≡ with_onsets l.end l.fn.moments l.onsets
