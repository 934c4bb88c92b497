use Rattle.std.proofs.Common.{◌≡◌, w64, to_z, of_z, to_z-of_z, arith}
use Rattle.std.proofs.lemmas.Int.{ints}
use Rattle.rr_model.proofs.YearLemmas.{year_1}
use Rattle.rr_start.proofs.SearchLemmas.{first_in_slice, none_of_days, slice_some}
use Rattle.rr_start.proofs.first_second.first_second.Goals as goal

pub next-requires-clause-low : goal.next-requires-clause-low
next-requires-clause-low g c = let t = to_z-of_z c.ranges.to in omega (arith, ints, t, c.requires.low, year_1)

pub returns-in-None : goal.returns-in-None
returns-in-None g c =
    let n = rw (c.in-None.is, to_z-of_z c.ranges.to) at c.in_ok-next.ensures.next in
    none_of_days (g.A.Lazy.tree c.args.lazy) (g.A.Lazy.position c.args.lazy) c.args.to (g.A.Lazy.position c.next.new.self) c.requires.unasked n

pub bounds-as_slice-0 : goal.bounds-as_slice-0
bounds-as_slice-0 g c =
    let n = rw (c.in-Some.is, to_z-of_z c.ranges.to) at c.in_ok-next.ensures.next in
    slice_some (g.A.Lazy.tree c.args.lazy) (g.A.Lazy.position c.args.lazy) c.args.to (g.A.Lazy.position c.next.new.self) c.requires.unasked c.next.new.sets
    c.in-Some.found c.times.result.now c.as_slice.result.now n c.times.ensures c.as_slice.ensures.same

pub returns : goal.returns
returns g c =
    let n = rw (c.in-Some.is, to_z-of_z c.ranges.to) at c.in_ok-next.ensures.next in
    let day : to_z w64 (of_z w64 c.in-Some.found.day) ≡ c.in-Some.found.day =
    omega (arith, ints, n.1.0.late, n.1.1, c.requires.high, c.requires.unasked, year_1) in
    rw day (first_in_slice (g.A.Lazy.tree c.args.lazy) (g.A.Lazy.position c.args.lazy) c.args.to (g.A.Lazy.position c.next.new.self) c.requires.unasked
    c.next.new.sets c.in-Some.found c.times.result.now c.as_slice.result.now n c.times.ensures c.as_slice.ensures.same)
