use Rattle.std.proofs.Common.{◌≡◌, ◌++◌, drop}
use Rattle.rr_offsets.specs.Listing.{all_onsets}
use Rattle.rr_offsets.proofs.changes.all_onsets.Given as goal

abbrev pub invariant-loop-table : goal.invariant-loop-table
invariant-loop-table l = l.onsets.items ++ all_onsets (drop l.table-index l.tables) ≡ all_onsets l.tables
