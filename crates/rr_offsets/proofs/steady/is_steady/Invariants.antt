use Rattle.std.proofs.Common.{◌≡◌, drop}
use Rattle.rr_offsets.specs.Steady.{is_steady}
use Rattle.rr_offsets.proofs.steady.is_steady.Given as goal

abbrev pub invariant-loop-observance : goal.invariant-loop-observance
invariant-loop-observance l = is_steady (drop l.observance-index l.zone) ≡ is_steady l.zone
