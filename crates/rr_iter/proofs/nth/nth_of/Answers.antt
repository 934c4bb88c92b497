use Rattle.std.proofs.Common.{to_z-of_z, refl, ◌∙◌, arith}
use Rattle.std.proofs.lemmas.Int.{ints}
use Rattle.rr_model.proofs.YearLemmas.{year_1}
use Rattle.rr_lazy.specs.Next.{with_set}
use Rattle.rr_lazy.proofs.FirstLemmas.{first_day_is}
use Rattle.rr_lazy.proofs.AheadLemmas.{day_fits}
use Rattle.rr_iter.proofs.NumberLemmas.{counted_seconds, place_next, place_none, place_some, unasked_counted}
use Rattle.rr_iter.proofs.nth.nth_of.Goals as goal

pub days-init : goal.days-init
days-init g c =
    let t = to_z-of_z c.ranges.to in
    let tree = g.A.Lazy.tree c.args.lazy in
    let position = g.A.Lazy.position c.args.lazy in
    let u = unasked_counted tree position c.args.to c.args.number c.requires.unasked c.requires.low c.requires.some in
    rw t (u.0, u.1, u.2, c.requires.knows _, u.3)

pub next-requires-clause-low : goal.next-requires-clause-low
next-requires-clause-low g c = let t = to_z-of_z c.ranges.to in omega (arith, ints, t, c.requires.low, year_1)

pub next-requires-clause-knows : goal.next-requires-clause-knows
next-requires-clause-knows g c = c.days.invariant.3

pub returns-in-None : goal.returns-in-None
returns-in-None g c =
    let n = rw (c.in-None.is, to_z-of_z c.ranges.to, c.days.invariant.0) at c.in_ok-next.ensures.next in
    let within = rw (to_z-of_z c.ranges.to) at c.days.invariant.1 in
    let begun = (g.met.A.Lazy.sound c.days.lazy).in_years in
    let tree = g.A.Lazy.tree c.args.lazy in
    let old = g.A.Lazy.position c.days.lazy in
    let new = g.A.Lazy.position c.next.new.self in
    (c.days.invariant.2, place_none tree old new c.args.to c.args.number c.days.left begun within c.days.invariant.4 n)

pub returns-then-left-count : goal.returns-then-left-count
returns-then-left-count g c =
    let n = rw (c.in-Some.is, to_z-of_z c.ranges.to, c.days.invariant.0) at c.in_ok-next.ensures.next in
    let begun = (g.met.A.Lazy.sound c.days.lazy).in_years in
    let tree = g.A.Lazy.tree c.args.lazy in
    let old = g.A.Lazy.position c.days.lazy in
    let found = c.in-Some.found in
    let day = with_set c.next.new.sets found in
    let many = counted_seconds c.next.new.sets found n.0 in
    let fits = (day_fits old found.day c.args.to (rw first_day_is at begun) n.1.0.late n.1.1 c.requires.high).0 in
    rw fits (
      n.1.1,
      place_some tree old found.day day.times c.args.number c.days.left begun c.days.invariant.4 n.1.0 c.days.invariant.2
          (omega (arith, many, c.if-left-count.true)),
    )

pub days-preserved : goal.days-preserved
days-preserved g c =
    let t = to_z-of_z c.ranges.to in
    let n = rw (c.in-Some.is, t, c.days.invariant.0) at c.in_ok-next.ensures.next in
    let begun = (g.met.A.Lazy.sound c.days.lazy).in_years in
    let tree = g.A.Lazy.tree c.args.lazy in
    let old = g.A.Lazy.position c.days.lazy in
    let new = g.A.Lazy.position c.next.new.self in
    let day = with_set c.next.new.sets c.in-Some.found in
    let many = counted_seconds c.next.new.sets c.in-Some.found n.0 in
    let p = rw many at (place_next tree old new c.args.to day day.times c.args.number c.days.left begun c.days.invariant.4 n.1 refl
    (omega (arith, many, c.if-left-count.false))) in
    (c.in_ok-next.ensures.tree ∙ c.days.invariant.0, rw t p.1, p.2, c.next.ensures.knows, p.3)
