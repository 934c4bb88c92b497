use Rattle.std.proofs.Common.{◌≡◌, ◌++◌, drop, map}
use Rattle.rr_icalfile.specs.Parts.{lines_of}
use Rattle.rr_icalfile.specs.Taken.{once}
use Rattle.rr_icalfile.proofs.TakenLemmas.{kept_behind}
use Rattle.rr_icalfile.proofs.taken.once.Given as goal

abbrev pub invariant-loop-part : goal.invariant-loop-part
invariant-loop-part l = map lines_of l.kept.items ++ kept_behind l.first (map lines_of (drop l.part-index l.parts)) ≡ once (map lines_of l.parts)
