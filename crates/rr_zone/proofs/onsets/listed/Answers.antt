use Rattle.std.proofs.Common.{◌≡◌, ◌∙◌, pos, ◌+ℤ◌, List, ℕ, ◌<◌, ◌≤◌, All, [], length, length-take, take, refl, sym, subst, w32, w64, to_z, of_z, to_z-of_z, arith}
use Rattle.std.proofs.lemmas.Int.{ints}
use Rattle.std.proofs.lemmas.List.Elements.{All-take}
use Rattle.std.proofs.lemmas.Option.{get_or_from_slice_get}
use Rattle.rr_model.proofs.YearLemmas.{year_1}
use Rattle.rr_lazy.specs.Next.{with_set}
use Rattle.rr_lazy.proofs.FirstLemmas.{first_day_is}
use Rattle.rr_zone.proofs.TableLemmas.{all_listed, day_listed, nothing_listed}
use Rattle.rr_zone.proofs.onsets.listed.Goals as goal

pub days-init : goal.days-init
days-init g c = record {
  tree = refl;
  knows = c.requires.knows c.new-sets.result;
  list = rw c.new-onsets.ensures
      (nothing_listed (g.A.Lazy.tree c.args.lazy) (to_z w32 (of_z w32 c.args.from)) (g.A.Lazy.position c.args.lazy) c.requires.unasked);
  within = let u = c.requires.unasked in let t = to_z-of_z c.ranges.last in omega (arith, ints, u, t, c.requires.last.late);
}

pub next-requires-clause-knows : goal.next-requires-clause-knows
next-requires-clause-knows g c = c.days.invariant.knows

pub next-requires-clause-low : goal.next-requires-clause-low
next-requires-clause-low g c = omega (arith, ints, year_1, to_z-of_z c.ranges.last, c.requires.last.late)

pub slice_bounds-seconds-end : goal.slice_bounds-seconds-end
slice_bounds-seconds-end g c =
    let n = rw (c.in-Some.is, c.days.invariant.tree) at c.in_ok-next.ensures.next in
    let whole = c.as_slice.ensures.same ∙ sym (get_or_from_slice_get c.next.new.sets c.in-Some.found.number.index c.times.result.now [] c.times.ensures) in
    let few : c.in-Some.found.count ≤ length c.as_slice.result.now = rw whole n.0.1 in
    simp length-take (omega (arith, few))

pub put_seconds-requires-clause-near : goal.put_seconds-requires-clause-near
put_seconds-requires-clause-near g c =
    let n = rw (c.in-Some.is, c.days.invariant.tree) at c.in_ok-next.ensures.next in
    let begun = rw first_day_is at (g.met.A.Lazy.sound c.days.lazy).in_years in
    let late = n.1.0.late in
    let early = n.1.1 in
    let t = to_z-of_z c.ranges.last in
    let high = c.requires.last.early in
    let fits : to_z w64 (of_z w64 c.in-Some.found.day) ≡ c.in-Some.found.day = omega (arith, ints, begun, late, early, t, high) in
    rw fits (omega (arith, ints, begun, late, early, t, high), omega (arith, ints, begun, late, early, t, high))

pub days-smaller : goal.days-smaller
days-smaller g c =
    let n = rw (c.in-Some.is, c.days.invariant.tree) at c.in_ok-next.ensures.next in
    let late = n.1.0.late in
    let early = n.1.1 in
    let moved = n.1.2 in
    omega (arith, ints, late, early, moved)

pub days-preserved : goal.days-preserved
days-preserved g c =
    let i = c.days.invariant in
    let tree = g.A.Lazy.tree c.args.lazy in
    let n = rw (c.in-Some.is, i.tree) at c.in_ok-next.ensures.next in
    let begun = (g.met.A.Lazy.sound c.days.lazy).in_years in
    let low = rw first_day_is at begun in
    let late = n.1.0.late in
    let early = n.1.1 in
    let moved = n.1.2 in
    let day = c.in-Some.found.day in
    let t = to_z-of_z c.ranges.last in
    let high = c.requires.last.early in
    let fits : to_z w64 (of_z w64 day) ≡ day = omega (arith, ints, low, late, early, t, high) in
    let whole = c.as_slice.ensures.same ∙ sym (get_or_from_slice_get c.next.new.sets c.in-Some.found.number.index c.times.result.now [] c.times.ensures) in
    let below : All (λ s. s < 86_400) (take c.in-Some.found.count c.as_slice.result.now) =
    All-take (λ s. s < 86_400) c.in-Some.found.count c.as_slice.result.now
    (subst (λ (xs : List ℕ). All (λ s. s < 86_400) xs) (sym c.as_slice.ensures.same) c.as_slice.ensures.of_day.below_a_day) in
    let small = subst (λ (xs : List ℕ). All (λ s. s < 86_400) (take c.in-Some.found.count xs)) whole below in
    let put = rw (fits, whole) at c.in_ok-put_seconds-in-Some.ensures in
    record {
      tree = c.in_ok-next.ensures.tree ∙ i.tree;
      knows = c.in_ok-next.ensures.knows;
      list = rw (moved, put)
          (day_listed tree (to_z w32 (of_z w32 c.args.from)) (g.A.Lazy.position c.days.lazy) day c.days.onsets (with_set c.next.new.sets c.in-Some.found).times
          i.list n.1.0 begun small);
      within = omega (arith, ints, early, moved);
    }

pub returns-in-None : goal.returns-in-None
returns-in-None g c =
    let i = c.days.invariant in
    let n = rw (c.in-None.is, i.tree) at c.in_ok-next.ensures.next in
    let past = n.2 in
    let list = rw (to_z-of_z c.ranges.from) at i.list in
    let t = to_z-of_z c.ranges.last in
    rw t at (all_listed (g.A.Lazy.tree c.args.lazy) c.args.from (g.A.Lazy.position c.days.lazy) (g.A.Lazy.position c.next.new.self)
    (to_z w64 (of_z w64 c.args.last) +ℤ pos 1) c.days.onsets list i.within n.0 (omega (arith, ints, past)))
