use Rattle.std.proofs.Common.{◌≡◌, to_z, of_z, to_z-of_z, w64, arith}
use Rattle.std.proofs.lemmas.Int.{ints}
use Rattle.rr_expand.specs.Years.{Filling}
use Rattle.rr_expand.proofs.allowed_days.AllowedDays.list.Goals as goal
use Rattle.rr_expand.proofs.allowed_days.AllowedDays.list.Goals.{in-None, in-Some}

pub returns-clause-listed : goal.returns-clause-listed
returns-clause-listed c =
    let i = c.self.inside in
    let own : Filling = record { rule = i.rule; start_day = i.start_day } in
    let known = c.self.invariant in
    let start : to_z w64 (of_z w64 i.start_day) ≡ i.start_day = omega (arith, ints, known.near.0, known.near.1) in
    elim c.match-self.branch [
      | in-None w ↦
          (let listed = w.list_all.ensures own (rw w.in-None.is at known.days) in
          rw (w.result-is, w.days-is, ← c.self.view_is) (rw (to_z-of_z c.ranges.first) at listed))
      | in-Some w ↦ rw (w.result-is, w.days-is, ← c.self.view_is) (rw (start, to_z-of_z c.ranges.first) at w.list.ensures.listed)
    ]
