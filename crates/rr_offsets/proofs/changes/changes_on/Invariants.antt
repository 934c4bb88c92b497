use Rattle.std.proofs.Common.{◌≡◌, map, take}
use Rattle.rr_offsets.specs.Listing.{change_on}
use Rattle.rr_offsets.proofs.changes.changes_on.Given as goal

abbrev pub invariant-loop-at : goal.invariant-loop-at
invariant-loop-at l = l.changes.items ≡ map (change_on l.tables) (take l.at-index l.moments)
