use Rattle.std.proofs.Common.{rules, refl, ◌+ℤ◌, pos, Ok, Some, arith, to_z-of_z}
use Rattle.std.proofs.lemmas.Int.{ints}
use Rattle.rr_model.specs.Sets.Tree.{except}
use Rattle.rr_lazy.specs.Except.{KnowsBoth}
use Rattle.rr_lazy.specs.Parts.{part_of}
use Rattle.rr_lazy.specs.Next.{HasNone, IsNextIn}
use Rattle.rr_lazy.proofs.FirstLemmas.{first_day_is}
use Rattle.rr_lazy.proofs.PositionLemmas.{IsAfterDay, IsPast, after_day, past_read}
use Rattle.rr_lazy.proofs.ExceptLemmas.{known_past, same_one_kind}
use Rattle.rr_lazy.proofs.except.ExceptLazy.next.Given.{Over}
use Rattle.rr_lazy.proofs.except.ExceptLazy.next.Goals.{After-position_past-self, After-struct_told-1}
use Rattle.rr_lazy.proofs.except.ExceptLazy.next.Goals as goal

pub next_of_both-requires-clause-known : goal.next_of_both-requires-clause-known
next_of_both-requires-clause-known g c = (c.args.self.now.position, c.args.self.now.begun, c.requires.knows.2)

-- ---- if nothing is given

record Nothing (g : Over) (c : After-position_past-self g) : Type 0 where
  past : IsPast c.args.self.now.position c.args.to c.position_past-self.result
  known : KnowsBoth c.next_of_both.new.sets
      (part_of (g.A.Lazy.tree c.args.self.now.a.lazy) (g.A.Lazy.position c.next_of_both.new.a.lazy) c.next_of_both.new.a.ahead)
      (part_of (g.B.Lazy.tree c.args.self.now.b.lazy) (g.B.Lazy.position c.next_of_both.new.b.lazy) c.next_of_both.new.b.ahead) c.position_past-self.result
  none : HasNone (except (g.A.Lazy.tree c.args.self.now.a.lazy) (g.B.Lazy.tree c.args.self.now.b.lazy)) c.args.self.now.position c.position_past-self.result

nothing : (g : Over) (c : After-position_past-self g) → Nothing g c
nothing g c =
    let s = c.args.self.now in
    let e = c.position_past-self.ensures in
    let past = past_read s.position c.args.to c.position_past-self.result s.begun (search rules) c.ranges.to (record { sfits = c.position_past-self.type_inv })
    e.kept e.past e.one in
    let n = rw (c.in-None.is, to_z-of_z c.ranges.to) at c.in_ok-next_of_both.ensures.next in
    let o = known_past (g.A.Lazy.tree s.a.lazy) (g.B.Lazy.tree s.b.lazy) c.next_of_both.new.sets
    (part_of (g.B.Lazy.tree s.b.lazy) (g.B.Lazy.position c.next_of_both.new.b.lazy) c.next_of_both.new.b.ahead)
    (g.A.Lazy.position c.next_of_both.new.a.lazy) s.position c.args.to c.position_past-self.result c.next_of_both.new.a.ahead refl
    (n.2 s.position c.requires.knows.2) n.0 n.1 past.kept past.one in
    record { past = past; known = o.0; none = o.1 }

pub invariant_of-self-in-None : goal.invariant_of-self-in-None
invariant_of-self-in-None g c = record {
  begun = (nothing g c).past.begun;
  one_kind = same_one_kind _ _ _ _ c.in_ok-next_of_both.ensures.tree_a c.in_ok-next_of_both.ensures.tree_b c.args.self.now.one_kind;
}

pub returns-in-None-clause-knows : goal.returns-in-None-clause-knows
returns-in-None-clause-knows g c =
    let n = nothing g (goal.at.returns-in-None-clause-knows g c).After-position_past-self in
    let e = c.in_ok-next_of_both.ensures in
    (e.knows_a, e.knows_b, rw (e.tree_a, e.tree_b, n.past.new) n.known)

pub returns-in-None-clause-next : goal.returns-in-None-clause-next
returns-in-None-clause-next g c =
    let n = nothing g (goal.at.returns-in-None-clause-next g c).After-position_past-self in
    rw n.past.new (n.none, n.past.kept, n.past.past, n.past.one)

-- ---- if a day is given

record Found (g : Over) (c : After-struct_told-1 g) : Type 0 where
  next : IsNextIn c.next_of_both.new.sets (except (g.A.Lazy.tree c.args.self.now.a.lazy) (g.B.Lazy.tree c.args.self.now.b.lazy)) c.args.self.now.position
      c.args.to (Ok (Some c.in-Some.found)) (c.in-Some.found.day +ℤ pos 1)
  known : KnowsBoth c.next_of_both.new.sets
      (part_of (g.A.Lazy.tree c.args.self.now.a.lazy) (g.A.Lazy.position c.next_of_both.new.a.lazy) c.next_of_both.new.a.ahead)
      (part_of (g.B.Lazy.tree c.args.self.now.b.lazy) (g.B.Lazy.position c.next_of_both.new.b.lazy) c.next_of_both.new.b.ahead) (c.in-Some.found.day +ℤ pos 1)
  after : IsAfterDay c.in-Some.found.day

found : (g : Over) (c : After-struct_told-1 g) → Found g c
found g c =
    let s = c.args.self.now in
    let n = (rw (c.in-Some.is, to_z-of_z c.ranges.to) at c.in_ok-next_of_both.ensures.next) s.position c.requires.knows.2 in
    record {
      next = n.0;
      known = n.1;
      after = after_day s.position c.in-Some.found.day c.args.to s.begun n.0.1.0.late n.0.1.1 c.requires.high;
    }

pub overflow_add-self : goal.overflow_add-self
overflow_add-self g c =
    let n = (found g c).next in
    omega (arith, ints, n.1.0.late, n.1.1, c.args.self.now.begun, first_day_is, c.requires.high)

pub invariant_of-self-in-Some : goal.invariant_of-self-in-Some
invariant_of-self-in-Some g c = record {
  begun = (found g c).after.begun;
  one_kind = same_one_kind _ _ _ _ c.in_ok-next_of_both.ensures.tree_a c.in_ok-next_of_both.ensures.tree_b c.args.self.now.one_kind;
}

pub returns-in-Some-clause-knows : goal.returns-in-Some-clause-knows
returns-in-Some-clause-knows g c =
    let f = found g (goal.at.returns-in-Some-clause-knows g c).After-struct_told-1 in
    let e = c.in_ok-next_of_both.ensures in
    (e.knows_a, e.knows_b, rw (e.tree_a, e.tree_b, f.after.next) f.known)

pub returns-in-Some-clause-next : goal.returns-in-Some-clause-next
returns-in-Some-clause-next g c =
    let f = found g (goal.at.returns-in-Some-clause-next g c).After-struct_told-1 in
    (f.next.0, (f.next.1.0, f.next.1.1, f.after.next))
