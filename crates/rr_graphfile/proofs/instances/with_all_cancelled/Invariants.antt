use Rattle.std.proofs.Common.{◌≡◌, drop, map}
use Rattle.serde_json.specs.View.{view}
use Rattle.rr_moved.specs.Moved.{AreInYears}
use Rattle.rr_seam.specs.Steps.{key_in_turn}
use Rattle.rr_graphfile.specs.Stated.{with_cancelled}
use Rattle.rr_graphfile.proofs.instances.with_all_cancelled.Given as goal

abbrev pub invariant-loop-id : goal.invariant-loop-id
invariant-loop-id l =
    (key_in_turn (with_cancelled l.beside.place l.beside.kind l.beside.start) l.shifts (map view (drop l.id-index l.ids))
    ≡ key_in_turn (with_cancelled l.beside.place l.beside.kind l.beside.start) l.fn.shifts (map view l.ids))
    × AreInYears l.beside.kind l.shifts
