use Rattle.std.proofs.Common.{◌≡◌, drop, map}
use Rattle.serde_json.specs.View.{view}
use Rattle.rr_moved.specs.Moved.{AreInYears}
use Rattle.rr_seam.specs.Steps.{key_in_turn}
use Rattle.rr_graphfile.specs.Parsed.{turning_in}
use Rattle.rr_graphfile.specs.Stated.{with_exception}
use Rattle.rr_graphfile.proofs.instances.with_all_exceptions.Given as goal

abbrev pub invariant-loop-event : goal.invariant-loop-event
invariant-loop-event l =
    (key_in_turn (with_exception (turning_in l.turning) l.beside.place l.beside.kind l.beside.start) l.shifts (map view (drop l.event-index l.events))
    ≡ key_in_turn (with_exception (turning_in l.turning) l.beside.place l.beside.kind l.beside.start) l.fn.shifts (map view l.events))
    × AreInYears l.beside.kind l.shifts
