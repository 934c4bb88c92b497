use Rattle.std.proofs.Common.{◌≡◌, to_z, of_z, to_z-of_z, w64, arith}
use Rattle.std.proofs.lemmas.Int.{ints}
use Rattle.rr_expand.specs.Years.{Filling}
use Rattle.rr_expand.proofs.allowed_days.AllowedDays.first_from.Goals as goal
use Rattle.rr_expand.proofs.allowed_days.AllowedDays.first_from.Goals.{in-None, in-Some}

pub returns-clause-first : goal.returns-clause-first
returns-clause-first c =
    let i = c.self.inside in
    let own : Filling = record { rule = i.rule; start_day = i.start_day } in
    let known = c.self.invariant in
    let start : to_z w64 (of_z w64 i.start_day) ≡ i.start_day = omega (arith, ints, known.near.0, known.near.1) in
    elim c.match-self.branch [
      | in-None w ↦
          (let first = w.first_of_all.ensures own (rw w.in-None.is at known.days) in
          rw (w.result-is, ← c.self.view_is) (rw (to_z-of_z c.ranges.from, to_z-of_z c.ranges.end) at first))
      | in-Some w ↦ rw (w.result-is, ← c.self.view_is) (rw (start, to_z-of_z c.ranges.from, to_z-of_z c.ranges.end) at w.first_from.ensures.first)
    ]
