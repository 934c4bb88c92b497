use Rattle.std.proofs.Common.{◌≡◌, arith, subst, ◌∙◌, w64, to_z, of_z}
use Rattle.std.proofs.lemmas.Int.{ints}
use Rattle.rr_family.specs.DaySets.{IsLastDay}
use Rattle.rr_family.proofs.WalkLemmas.{count_same}
use Rattle.rr_family.proofs.window.last_of.Goals as goal

pub returns-clause-end : goal.returns-clause-end
returns-clause-end g c =
    let last = c.last_occupied-day.ensures in
    let low = last.low in
    let near = last.near in
    let first_near = c.requires.near in
    let back : c.last_occupied-day.result ≡ to_z w64 (of_z w64 c.last_occupied-day.result) = omega (arith, ints, near.0, near.1) in (
      subst (λ z. IsLastDay (g.A.DaySeq.sketch c.args.seq.now) z) back last.last,
      c.count_occupied-many.ensures ∙ count_same _ _ _ _ _ (omega (arith, ints, first_near.0, first_near.1))
          (omega (arith, ints, low, near.0, near.1, first_near.0, first_near.1)),
    )
