use Rattle.std.proofs.Common.{◌≡◌, drop}
use Rattle.rr_offsets.specs.Listing.{first_from}
use Rattle.rr_offsets.proofs.changes.first_from.Given as goal

abbrev pub invariant-loop-change : goal.invariant-loop-change
invariant-loop-change l = first_from (drop l.change-index l.changes) l.past ≡ first_from l.changes l.past
