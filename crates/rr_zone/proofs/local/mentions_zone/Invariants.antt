use Rattle.std.proofs.Common.{◌≡◌, length}
use Rattle.rr_zone.specs.Local.{mentions_zone}
use Rattle.rr_zone.proofs.local.mentions_zone.Given as goal

abbrev pub invariant-loop-index : goal.invariant-loop-index
invariant-loop-index l = mentions_zone l.rest ≡ mentions_zone l.text

abbrev pub decreases-loop-index : goal.decreases-loop-index
decreases-loop-index l = length l.rest
