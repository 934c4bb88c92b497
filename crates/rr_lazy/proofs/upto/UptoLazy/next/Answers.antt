use Rattle.std.proofs.Common.{rules, ◌≡◌, ◌≢◌, ◌≤ℤ◌, pos, [], Contains, ◌+ℤ◌, ◌<ℤ◌, ℤ, FitsSigned, to_z, of_z, w64, to_z-of_z, arith, sym, ◌∙◌, nat_lt, ℕ, List}
use Rattle.std.proofs.Common.{take, get_or, length, Ok, Some, ◌≤◌, refl}
use Rattle.std.specs.Prelude.{IsTrue, int_le}
use Rattle.std.proofs.lemmas.Int.{ints, clamps}
use Rattle.std.specs.Int.{int_min}
use Rattle.rr_model.specs.Moment.{day_part}
use Rattle.rr_model.specs.Rising.Sets.{IsSetOf}
use Rattle.rr_model.specs.Moment.{moment_at}
use Rattle.rr_model.specs.Sets.Tree.{Tree, upto}
use Rattle.rr_model.specs.declared.kind.Kind.{Kind}
use Rattle.rr_lazy.specs.Next.{HasNone, IsFirstOccupied, IsNextIn, with_set}
use Rattle.rr_lazy.specs.Upto.{IsUpTo}
use Rattle.rr_lazy.proofs.TreeLemmas.{seconds_of_occupied}
use Rattle.rr_lazy.proofs.FirstLemmas.{first_day_is}
use Rattle.rr_lazy.proofs.PositionLemmas.{IsAfterDay, IsPast, after_day, past_read}
use Rattle.rr_lazy.proofs.UptoLemmas.{none_after, upto_none, upto_emptied, upto_some, take_some}
use Rattle.rr_lazy.proofs.upto.UptoLazy.next.Given.{Over}
use Rattle.rr_lazy.proofs.upto.UptoLazy.next.Goals.{After-count_to-arg-in-Some-1, After-min, After-position_past-self-in-None, After-position_past-self-then-found-eq0}
use Rattle.rr_lazy.proofs.upto.UptoLazy.next.Goals.{After-struct_told-1}
use Rattle.rr_lazy.proofs.upto.UptoLazy.next.Goals as goal

pub returns-then-self-clause-next : goal.returns-then-self-clause-next
returns-then-self-clause-next g c =
    let s = c.args.self.now in
    let e = c.position_past-self.ensures in
    let fits : FitsSigned w64 c.position_past-self.result = record { sfits = c.position_past-self.type_inv } in
    let p = past_read s.position c.args.to c.position_past-self.result s.begun (search rules) c.ranges.to fits e.kept e.past e.one in
    let after : day_part s.kind s.at <ℤ s.position = omega (arith, ints, c.if-self.true, s.of_day) in
    rw p.new ((λ d x l h. none_after (g.A.Lazy.tree s.lazy) s.kind s.at d x (omega (arith, ints, l, after))), p.kept, p.past, p.one)

-- ---- if the part is asked, up to the lesser of two days

record Bound (g : Over) (c : After-min g) : Type 0 where
  together : g.A.Lazy.position c.args.self.now.lazy ≡ c.args.self.now.position
  lesser : c.min.result ≡ int_min c.args.to (day_part c.args.self.now.kind c.args.self.now.at)
  same : to_z w64 (of_z w64 c.min.result) ≡ c.min.result

bound : (g : Over) (c : After-min g) → Bound g c
bound g c =
    let s = c.args.self.now in
    let last : FitsSigned w64 s.last_day = search rules in
    record {
      together = s.together (omega (arith, ints, c.if-self.false));
      lesser = rw (to_z-of_z c.ranges.to, to_z-of_z last, s.of_day) at c.min.ensures.value;
      same = (let fits : FitsSigned w64 c.min.result = record { sfits = c.min.type_inv } in to_z-of_z fits);
    }

pub next-requires-clause-low : goal.next-requires-clause-low
next-requires-clause-low g c =
    let s = c.args.self.now in
    let fits : FitsSigned w64 s.last_day = search rules in
    omega (arith, ints, clamps, c.min.ensures.value, to_z-of_z fits, to_z-of_z c.ranges.to, c.requires.low, s.begun, first_day_is, c.if-self.false)

-- ---- if it has no day

-- what holds if nothing is given up to a day
record Nothing (tree : Tree) (kind : Kind) (at position to new own : ℤ) : Type 0 where
  past : IsPast position to new
  none : HasNone (upto tree kind at) position new
  together : new ≤ℤ day_part kind at → own ≡ new

nothing : (g : Over) (c : After-position_past-self-in-None g) → Nothing (g.A.Lazy.tree c.args.self.now.lazy) c.args.self.now.kind c.args.self.now.at
    c.args.self.now.position c.args.to c.position_past-self-in-None.result (g.A.Lazy.position c.next.new.self)
nothing g c =
    let s = c.args.self.now in
    let r = c.position_past-self-in-None.result in
    let e = c.position_past-self-in-None.ensures in
    let fits : FitsSigned w64 r = record { sfits = c.position_past-self-in-None.type_inv } in
    let p = past_read s.position c.args.to r s.begun (search rules) c.ranges.to fits e.kept e.past e.one in
    let b = bound g (goal.at.invariant_of-self-in-None g c).After-min in
    let n = rw (c.in-None.is, b.same) at c.in_ok-next.ensures.next in
    let u = upto_none (g.A.Lazy.tree s.lazy) (g.A.Lazy.tree c.next.new.self) s.kind s.at (g.A.Lazy.position s.lazy)
    (g.A.Lazy.position c.next.new.self) s.position c.args.to c.min.result r b.together b.lesser p.kept p.past p.one n in
    record { past = p; none = u.0; together = u.1 }

pub invariant_of-self-in-None : goal.invariant_of-self-in-None
invariant_of-self-in-None g c =
    let s = c.args.self.now in
    let n = nothing g c in
    record {
      begun = n.past.begun;
      one_kind = rw c.in_ok-next.ensures.tree s.one_kind;
      of_day = s.of_day;
      together = λ l. n.together (omega (arith, ints, l, s.of_day, n.past.new)) ∙ sym n.past.new;
    }

pub returns-in-None-clause-next : goal.returns-in-None-clause-next
returns-in-None-clause-next g c =
    let n = nothing g (goal.at.returns-in-None-clause-next g c).After-position_past-self-in-None in
    rw n.past.new (n.none, n.past.kept, n.past.past, n.past.one)

-- ---- if it has one

record Given (g : Over) (c : After-count_to-arg-in-Some-1 g) : Type 0 where
  next : IsNextIn c.next.new.sets (g.A.Lazy.tree c.args.self.now.lazy) (g.A.Lazy.position c.args.self.now.lazy) c.min.result
      (Ok (Some c.in-Some.found)) (g.A.Lazy.position c.next.new.self)
  late : c.args.self.now.position ≤ℤ c.in-Some.found.day
  within : c.in-Some.found.day ≤ℤ c.args.to
  after : IsAfterDay c.in-Some.found.day

given : (g : Over) (c : After-count_to-arg-in-Some-1 g) → Given g c
given g c =
    let s = c.args.self.now in
    let b = bound g (goal.at.count_to-requires-clause-of_day g c).After-min in
    let n = rw (c.in-Some.is, b.same) at c.in_ok-next.ensures.next in
    let late : s.position ≤ℤ c.in-Some.found.day = omega (arith, ints, n.1.0.late, b.together) in
    let within : c.in-Some.found.day ≤ℤ c.args.to = omega (arith, ints, clamps, n.1.1, b.lesser) in
    record { next = n; late = late; within = within; after = after_day s.position c.in-Some.found.day c.args.to s.begun late within c.requires.high }

pub count_to-requires-clause-of_day : goal.count_to-requires-clause-of_day
count_to-requires-clause-of_day g c =
    seconds_of_occupied (g.A.Lazy.tree c.args.self.now.lazy) (g.A.Lazy.position c.args.self.now.lazy) c.in-Some.found.day
    (with_set c.next.new.sets c.in-Some.found).times (given g c).next.1.0

-- ---- if nothing is kept of that day

emptied : (g : Over) (c : After-position_past-self-then-found-eq0 g) → Nothing (g.A.Lazy.tree c.args.self.now.lazy) c.args.self.now.kind c.args.self.now.at
    c.args.self.now.position c.args.to c.position_past-self-then-found-eq0.result (g.A.Lazy.position c.next.new.self)
emptied g c =
    let s = c.args.self.now in
    let r = c.position_past-self-then-found-eq0.result in
    let e = c.position_past-self-then-found-eq0.ensures in
    let fits : FitsSigned w64 r = record { sfits = c.position_past-self-then-found-eq0.type_inv } in
    let p = past_read s.position c.args.to r s.begun (search rules) c.ranges.to fits e.kept e.past e.one in
    let at = goal.at.invariant_of-self-then-found-eq0 g c in
    let b = bound g at.After-min in
    let given = given g at.After-count_to-arg-in-Some-1 in
    let af : FitsSigned w64 s.at = search rules in
    let df = given.after.same in
    let whole : List ℕ = get_or c.next.new.sets c.in-Some.found.number.index [] in
    let set : IsUpTo s.kind s.at c.in-Some.found.day ((with_set c.next.new.sets c.in-Some.found).times) (take c.count_to.result whole) =
    rw (to_z-of_z af) at c.count_to.ensures.seconds in
    let none : take c.count_to.result whole ≡ [] = rw c.if-found-eq0.true refl in
    let u = upto_emptied (g.A.Lazy.tree s.lazy) (g.A.Lazy.tree c.next.new.self) s.kind s.at (g.A.Lazy.position s.lazy)
    (g.A.Lazy.position c.next.new.self) s.position c.args.to c.min.result r b.together b.lesser p.kept p.past p.one
    (with_set c.next.new.sets c.in-Some.found) (take c.count_to.result whole) given.next.1 set none in
    record { past = p; none = u.0; together = u.1 }

pub invariant_of-self-then-found-eq0 : goal.invariant_of-self-then-found-eq0
invariant_of-self-then-found-eq0 g c =
    let s = c.args.self.now in
    let e = emptied g c in
    record {
      begun = e.past.begun;
      one_kind = rw c.in_ok-next.ensures.tree s.one_kind;
      of_day = s.of_day;
      together = λ l. e.together (omega (arith, ints, l, s.of_day, e.past.new)) ∙ sym e.past.new;
    }

pub returns-then-found-eq0-clause-next : goal.returns-then-found-eq0-clause-next
returns-then-found-eq0-clause-next g c =
    let e = emptied g (goal.at.returns-then-found-eq0-clause-next g c).After-position_past-self-then-found-eq0 in
    rw e.past.new (e.none, e.past.kept, e.past.past, e.past.one)

-- ---- if something is

record Kept (g : Over) (c : After-struct_told-1 g) : Type 0 where
  few : c.count_to.result ≤ length (get_or c.next.new.sets c.in-Some.found.number.index [])
  first : IsFirstOccupied (upto (g.A.Lazy.tree c.args.self.now.lazy) c.args.self.now.kind c.args.self.now.at) c.args.self.now.position
      c.in-Some.found.day (take c.count_to.result (get_or c.next.new.sets c.in-Some.found.number.index []))
  within : c.in-Some.found.day ≤ℤ c.args.to
  together : g.A.Lazy.position c.next.new.self ≡ to_z w64 (of_z w64 (to_z w64 (of_z w64 c.in-Some.found.day) +ℤ pos 1))

kept : (g : Over) (c : After-struct_told-1 g) → Kept g c
kept g c =
    let s = c.args.self.now in
    let at = goal.at.invariant_of-self-in-Some g c in
    let b = bound g at.After-min in
    let given = given g at.After-count_to-arg-in-Some-1 in
    let af : FitsSigned w64 s.at = search rules in
    let df = given.after.same in
    let set : IsSetOf nat_lt (with_set c.next.new.sets (record { day = c.in-Some.found.day; number = c.in-Some.found.number; count = c.count_to.result })).times
    (λ x. Contains (with_set c.next.new.sets c.in-Some.found).times x × IsTrue (int_le (moment_at s.kind c.in-Some.found.day x) s.at)) =
    rw (to_z-of_z af) at c.count_to.ensures.seconds in
    let whole : List ℕ = get_or c.next.new.sets c.in-Some.found.number.index [] in
    let few : c.count_to.result ≤ length whole = omega (arith, c.count_to.ensures.few, given.next.0.1) in
    let some : take c.count_to.result whole ≢ [] = take_some c.count_to.result whole c.if-found-eq0.false few in
    let u = upto_some (g.A.Lazy.tree s.lazy) s.kind s.at (g.A.Lazy.position s.lazy) (g.A.Lazy.position c.next.new.self) s.position c.args.to c.min.result
    _ b.together b.lesser (with_set c.next.new.sets c.in-Some.found) (take c.count_to.result whole) given.next.1 set some given.after.next in
    record { few = few; first = u.0; within = u.1; together = u.2 }

pub overflow_add-self : goal.overflow_add-self
overflow_add-self g c =
    let given = given g (goal.at.overflow_add-self g c).After-count_to-arg-in-Some-1 in
    omega (arith, ints, given.late, given.within, c.args.self.now.begun, first_day_is, c.requires.high)

pub invariant_of-self-in-Some : goal.invariant_of-self-in-Some
invariant_of-self-in-Some g c =
    let s = c.args.self.now in
    let together = (kept g c).together in
    record {
      begun = (given g (goal.at.invariant_of-self-in-Some g c).After-count_to-arg-in-Some-1).after.begun;
      one_kind = rw c.in_ok-next.ensures.tree s.one_kind;
      of_day = s.of_day;
      together = λ l. together;
    }

pub returns-else-found-eq0-clause-next : goal.returns-else-found-eq0-clause-next
returns-else-found-eq0-clause-next g c =
    let at = goal.at.returns-else-found-eq0-clause-next g c in
    let given = given g at.After-count_to-arg-in-Some-1 in
    let k = kept g at.After-struct_told-1 in
    ((given.next.0.0, k.few), (k.first, k.within, given.after.next))
