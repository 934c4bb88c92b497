use Rattle.std.proofs.Common.{rules, ◌+ℤ◌, pos, Ok, Some, arith, to_z-of_z}
use Rattle.std.proofs.lemmas.Int.{ints}
use Rattle.rr_model.specs.Sets.Tree.{without}
use Rattle.rr_lazy.specs.Next.{HasNone, IsNextIn}
use Rattle.rr_lazy.specs.Stretch.{KnowsPart}
use Rattle.rr_lazy.proofs.FirstLemmas.{first_day_is}
use Rattle.rr_lazy.proofs.PositionLemmas.{IsAfterDay, IsPast, after_day, past_read}
use Rattle.rr_lazy.proofs.WithoutLemmas.{known_past}
use Rattle.rr_lazy.proofs.without.WithoutLazy.next.Given.{Over}
use Rattle.rr_lazy.proofs.without.WithoutLazy.next.Goals.{After-position_past-self, After-struct_told-1}
use Rattle.rr_lazy.proofs.without.WithoutLazy.next.Goals as goal

pub next_left-requires-clause-known : goal.next_left-requires-clause-known
next_left-requires-clause-known g c = rw (c.as_slice-dates.ensures.value) (c.args.self.now.position, c.requires.knows.1)

-- ---- if nothing is given

record Nothing (g : Over) (c : After-position_past-self g) : Type 0 where
  past : IsPast c.args.self.now.position c.args.to c.position_past-self.result
  known : KnowsPart c.next_left.new.sets (g.A.Lazy.tree c.args.self.now.part.lazy) (g.A.Lazy.position c.next_left.new.part.lazy) c.args.self.now.kind
      c.args.self.now.dates c.position_past-self.result c.next_left.new.part.ahead
  none : HasNone (without (g.A.Lazy.tree c.args.self.now.part.lazy) c.args.self.now.kind c.args.self.now.dates) c.args.self.now.position c.position_past-self.result

nothing : (g : Over) (c : After-position_past-self g) → Nothing g c
nothing g c =
    let s = c.args.self.now in
    let e = c.position_past-self.ensures in
    let past = past_read s.position c.args.to c.position_past-self.result s.begun (search rules) c.ranges.to (record { sfits = c.position_past-self.type_inv })
    e.kept e.past e.one in
    let n = rw (c.in-None.is, to_z-of_z c.ranges.to, c.as_slice-dates.ensures.value) at c.in_ok-next_left.ensures.next in
    let o = known_past (g.A.Lazy.tree s.part.lazy) s.kind s.dates c.next_left.new.sets (g.A.Lazy.position c.next_left.new.part.lazy) s.position c.args.to
    c.position_past-self.result c.next_left.new.part.ahead (n.2 s.position c.requires.knows.1) n.0 n.1 past.kept past.one in
    record { past = past; known = o.0; none = o.1 }

pub invariant_of-self-in-None : goal.invariant_of-self-in-None
invariant_of-self-in-None g c =
    record { begun = (nothing g c).past.begun; one_kind = rw c.in_ok-next_left.ensures.tree c.args.self.now.one_kind }

pub returns-in-None-clause-knows : goal.returns-in-None-clause-knows
returns-in-None-clause-knows g c =
    let n = nothing g (goal.at.returns-in-None-clause-knows g c).After-position_past-self in
    (c.in_ok-next_left.ensures.knows, rw (c.in_ok-next_left.ensures.tree, n.past.new) n.known)

pub returns-in-None-clause-next : goal.returns-in-None-clause-next
returns-in-None-clause-next g c =
    let n = nothing g (goal.at.returns-in-None-clause-next g c).After-position_past-self in
    rw n.past.new (n.none, n.past.kept, n.past.past, n.past.one)

-- ---- if a day is given

record Found (g : Over) (c : After-struct_told-1 g) : Type 0 where
  next : IsNextIn c.next_left.new.sets (without (g.A.Lazy.tree c.args.self.now.part.lazy) c.args.self.now.kind c.args.self.now.dates)
      c.args.self.now.position c.args.to (Ok (Some c.in-Some.found)) (c.in-Some.found.day +ℤ pos 1)
  known : KnowsPart c.next_left.new.sets (g.A.Lazy.tree c.args.self.now.part.lazy) (g.A.Lazy.position c.next_left.new.part.lazy) c.args.self.now.kind
      c.args.self.now.dates (c.in-Some.found.day +ℤ pos 1) c.next_left.new.part.ahead
  after : IsAfterDay c.in-Some.found.day

found : (g : Over) (c : After-struct_told-1 g) → Found g c
found g c =
    let s = c.args.self.now in
    let n = (rw (c.in-Some.is, to_z-of_z c.ranges.to, c.as_slice-dates.ensures.value) at c.in_ok-next_left.ensures.next) s.position c.requires.knows.1 in
    record {
      next = n.0;
      known = n.1;
      after = after_day s.position c.in-Some.found.day c.args.to s.begun n.0.1.0.late n.0.1.1 c.requires.high;
    }

pub overflow_add-self : goal.overflow_add-self
overflow_add-self g c =
    let n = (found g c).next in
    omega (arith, ints, n.1.0.late, n.1.1, c.args.self.now.begun, first_day_is, c.requires.high)

pub invariant_of-self-in-Some : goal.invariant_of-self-in-Some
invariant_of-self-in-Some g c =
    record { begun = (found g c).after.begun; one_kind = rw c.in_ok-next_left.ensures.tree c.args.self.now.one_kind }

pub returns-in-Some-clause-knows : goal.returns-in-Some-clause-knows
returns-in-Some-clause-knows g c =
    let f = found g (goal.at.returns-in-Some-clause-knows g c).After-struct_told-1 in
    (c.in_ok-next_left.ensures.knows, rw (c.in_ok-next_left.ensures.tree, f.after.next) f.known)

pub returns-in-Some-clause-next : goal.returns-in-Some-clause-next
returns-in-Some-clause-next g c =
    let f = found g (goal.at.returns-in-Some-clause-next g c).After-struct_told-1 in
    (f.next.0, (f.next.1.0, f.next.1.1, f.after.next))
