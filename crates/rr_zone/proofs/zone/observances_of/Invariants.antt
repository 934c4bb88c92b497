use Rattle.std.proofs.Common.{◌≡◌, drop, map}
use Rattle.rr_events.specs.Segments.{section_in}
use Rattle.rr_zone.specs.Zones.{observances_of}
use Rattle.rr_zone.proofs.PartLemmas.{read_from}
use Rattle.rr_zone.proofs.zone.observances_of.Given as goal

abbrev pub invariant-loop-part : goal.invariant-loop-part
invariant-loop-part l = read_from l.zone (drop l.part-index l.parts) ≡ observances_of (map section_in l.parts)
