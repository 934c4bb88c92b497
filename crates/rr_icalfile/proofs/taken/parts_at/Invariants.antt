use Rattle.std.proofs.Common.{◌≡◌, ◌++◌, drop, map}
use Rattle.rr_events.specs.Finding.{lines_in}
use Rattle.rr_icalfile.specs.Calendar.{texts_at}
use Rattle.rr_icalfile.specs.Parts.{lines_of}
use Rattle.rr_icalfile.proofs.taken.parts_at.Given as goal

abbrev pub invariant-loop-index : goal.invariant-loop-index
invariant-loop-index l =
    map lines_of l.parts.items ++ texts_at (map lines_in l.pieces) (drop l.index-index l.indexes) ≡ texts_at (map lines_in l.pieces) l.indexes
