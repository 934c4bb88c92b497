use Rattle.std.specs.Prelude.{◌≡◌, ◌++◌, drop}
use Rattle.rr_trip.specs.Likeness.{keys_by}
use Rattle.rr_trip.proofs.likeness.keys_by.Given as goal

-- the keys of the others are left
abbrev pub invariant-loop-index : goal.invariant-loop-index
invariant-loop-index l =
    l.keys.items ++ keys_by l.likeness l.side l.index (drop l.index l.features) (drop l.index l.found) ≡ keys_by l.likeness l.side 0 l.features l.found
