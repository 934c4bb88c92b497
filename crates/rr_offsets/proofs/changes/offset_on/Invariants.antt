use Rattle.std.proofs.Common.{◌≡◌, drop, pos}
use Rattle.std.specs.Prelude.{unwrap_or}
use Rattle.rr_offsets.specs.Listing.{listed_offset}
use Rattle.rr_offsets.proofs.changes.offset_on.Given as goal

abbrev pub invariant-loop-table : goal.invariant-loop-table
invariant-loop-table l = unwrap_or (listed_offset (drop l.table-index l.tables) l.at) (pos 0) ≡ unwrap_or (listed_offset l.tables l.at) (pos 0)
