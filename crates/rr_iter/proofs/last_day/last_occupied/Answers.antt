use Rattle.std.proofs.Common.{◌≡◌, to_z-of_z, inr, ◌∙◌, arith}
use Rattle.std.specs.Prelude.{false}
use Rattle.std.proofs.lemmas.Int.{ints, by_lt_z}
use Rattle.rr_model.specs.Sets.Tree.{stands_at}
use Rattle.rr_model.proofs.YearLemmas.{year_1}
use Rattle.rr_lazy.specs.Next.{with_set}
use Rattle.rr_lazy.proofs.FirstLemmas.{first_day_is}
use Rattle.rr_lazy.proofs.AheadLemmas.{day_fits}
use Rattle.rr_iter.proofs.LastDayLemmas.{none_since, second_found}
use Rattle.rr_iter.proofs.last_day.last_occupied.Goals as goal

pub next-requires-clause-low : goal.next-requires-clause-low
next-requires-clause-low g c = let t = to_z-of_z c.ranges.to in omega (arith, ints, t, c.requires.low, year_1)

pub next-requires-clause-knows : goal.next-requires-clause-knows
next-requires-clause-knows g c = c.days.invariant.2

pub days-preserved : goal.days-preserved
days-preserved g c =
    let n = rw (c.in-Some.is, to_z-of_z c.ranges.to, c.days.invariant.0) at c.in_ok-next.ensures.next in
    let begun = (g.met.A.Lazy.sound c.days.lazy).in_years in
    let day = c.in-Some.found.day in
    let fits = (day_fits (g.A.Lazy.position c.days.lazy) day c.args.to (rw first_day_is at begun) n.1.0.late n.1.1 c.requires.high).0 in
    let tree = g.A.Lazy.tree c.args.lazy in
    rw fits (
      c.in_ok-next.ensures.tree ∙ c.days.invariant.0,
      none_since tree day (g.A.Lazy.position c.next.new.self) n.1.2,
      c.next.ensures.knows,
      inr (second_found tree (g.A.Lazy.position c.days.lazy) day ((with_set c.next.new.sets c.in-Some.found).times) n.1.0),
    )

pub returns-in-None : goal.returns-in-None
returns-in-None g c =
    let n = rw (c.in-None.is, to_z-of_z c.ranges.to, c.days.invariant.0) at c.in_ok-next.ensures.next in
    let i = c.days.invariant in
    record {
      after = λ d s a b. by_lt_z {P = stands_at (g.A.Lazy.tree c.args.lazy) d s ≡ false} d (g.A.Lazy.position c.days.lazy) (λ l. i.1 d s a l)
          (λ h. n.0 d s h (omega (arith, ints, b, n.2)));
      occupied = rw (to_z-of_z c.ranges.given) at i.3;
    }
