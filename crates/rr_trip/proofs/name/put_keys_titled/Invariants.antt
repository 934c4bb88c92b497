use Rattle.std.proofs.Common.{◌≡◌, ◌++◌, drop}
use Rattle.rr_trip.specs.Shown.{keys_titled}
use Rattle.rr_trip.proofs.name.put_keys_titled.Given as goal

-- those of the other events are left
abbrev pub invariant-loop-index : goal.invariant-loop-index
invariant-loop-index g l =
    l.keys.items ++ keys_titled l.name (g.F.EventFile.titles l.file) l.index (drop l.index (g.F.EventFile.keys l.file))
    ≡ l.fn.keys.items ++ keys_titled l.name (g.F.EventFile.titles l.file) 0 (g.F.EventFile.keys l.file)
