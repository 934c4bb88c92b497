use Rattle.std.proofs.Common.{◌≡◌, ℕ, ℤ, pos, List, Option, Result, Ok, Some, sym, subst, ◌≤ℤ◌, ◌<ℤ◌, ◌+ℤ◌, w64, to_z, of_z, arith, rules}
use Rattle.std.proofs.Common.{to_z-of_z, FitsSigned}
use Rattle.std.proofs.lemmas.Int.{ints}
use Rattle.std.specs.Option.{ForNone}
use Rattle.rr_model.specs.declared.refusal.NoMemory.{NoMemory}
use Rattle.rr_model.specs.Sets.Tree.{Tree, union}
use Rattle.rr_lazy.specs.declared.occupied_day.OccupiedDay.{OccupiedDay}
use Rattle.rr_lazy.specs.Ahead.{IsAheadIn, IsFirstOfBoth, IsGivenByBoth, day_seen}
use Rattle.rr_lazy.specs.Next.{HasNone, IsNextIn}
use Rattle.rr_lazy.specs.Tables.{ahead_more}
use Rattle.rr_lazy.proofs.AheadLemmas.{given_on, neither, side_given_in, side_none_in, union_day, union_next}
use Rattle.rr_lazy.proofs.PositionLemmas.{IsPast, past_read}
use Rattle.rr_lazy.proofs.union.UnionLazy.next.Given.{Over}
use Rattle.rr_lazy.proofs.union.UnionLazy.next.Goals.{After-on_day-arg-in-Some-2-1, After-position_past-self}
use Rattle.rr_lazy.proofs.union.UnionLazy.next.Goals as goal

same_next : (sets : List (List ℕ)) (t t' u u' : Tree) (from from' to new new' : ℤ) (result : Result (Option OccupiedDay) NoMemory) → t ≡ t' → u ≡ u'
    → from ≡ from' → new ≡ new' → IsNextIn sets (union t u) from to result new → IsNextIn sets (union t' u') from' to result new'
same_next sets t t' u u' from from' to new new' result e f g h x =
    subst (λ y. IsNextIn sets (union t' u') from' to result y) h (subst (λ y. IsNextIn sets (union t' u') y to result new) g
    (subst (λ y. IsNextIn sets (union t' y) from to result new) f (subst (λ y. IsNextIn sets (union y u) from to result new) e x)))

-- ---- if no part has a day up to the last one

record Nothing (g : Over) (c : After-position_past-self g) : Type 0 where
  past : IsPast c.fill_both.new.self.position c.args.to c.position_past-self.result
  ahead_a : IsAheadIn c.fill_both.new.sets (g.A.Lazy.tree c.fill_both.new.self.a.lazy) (g.A.Lazy.position c.fill_both.new.self.a.lazy) c.position_past-self.result
      c.fill_both.new.self.a.ahead
  ahead_b : IsAheadIn c.fill_both.new.sets (g.B.Lazy.tree c.fill_both.new.self.b.lazy) (g.B.Lazy.position c.fill_both.new.self.b.lazy) c.position_past-self.result
      c.fill_both.new.self.b.ahead
  none : HasNone (union (g.A.Lazy.tree c.fill_both.new.self.a.lazy) (g.B.Lazy.tree c.fill_both.new.self.b.lazy)) c.fill_both.new.self.position c.position_past-self.result

nothing : (g : Over) (c : After-position_past-self g) → Nothing g c
nothing g c =
    let s = c.fill_both.new.self in
    let k = c.fill_both.ensures.knows in
    let sets = c.fill_both.new.sets in
    let r = c.position_past-self.result in
    let e = c.position_past-self.ensures in
    let t = to_z-of_z c.ranges.to in
    let fits : FitsSigned w64 r = record { sfits = c.position_past-self.type_inv } in
    let past = past_read s.position c.args.to r s.begun (search rules) c.ranges.to fits e.kept e.past e.one in
    let none = rw t at c.in-None.ensures sets in
    let a = side_none_in sets (g.A.Lazy.tree s.a.lazy) (g.A.Lazy.position s.a.lazy) s.position c.args.to r s.a.ahead k.2 past.kept past.one none.0
    (rw t at c.in_ok-fill_both.ensures.none_a) in
    let b = side_none_in sets (g.B.Lazy.tree s.b.lazy) (g.B.Lazy.position s.b.lazy) s.position c.args.to r s.b.ahead k.3 past.kept past.one none.1
    (rw t at c.in_ok-fill_both.ensures.none_b) in
    record { past = past; ahead_a = a.0; ahead_b = b.0; none = neither (g.A.Lazy.tree s.a.lazy) (g.B.Lazy.tree s.b.lazy) s.position r a.1 b.1 }

pub returns-in-None-clause-knows : goal.returns-in-None-clause-knows
returns-in-None-clause-knows g c =
    let n = nothing g (goal.at.returns-in-None-clause-knows g c).After-position_past-self in
    let k = c.fill_both.ensures.knows in
    rw n.past.new (k.0, k.1, n.ahead_a, n.ahead_b)

pub returns-in-None-clause-next : goal.returns-in-None-clause-next
returns-in-None-clause-next g c =
    let n = nothing g (goal.at.returns-in-None-clause-next g c).After-position_past-self in
    let e = c.fill_both.ensures in
    rw (n.past.new, sym e.tree_a, sym e.tree_b, sym e.position) (n.none, n.past.kept, n.past.past, n.past.one)

-- ---- if one has

record Given (g : Over) (c : After-on_day-arg-in-Some-2-1 g) : Type 0 where
  first : (sets : List (List ℕ))
      → IsFirstOfBoth (day_seen sets c.fill_both.new.self.a.ahead) (day_seen sets c.fill_both.new.self.b.ahead) c.args.to (Some c.in-Some.day)
  none_a : ForNone c.fill_both.new.self.a.ahead (c.in-Some.day <ℤ g.A.Lazy.position c.fill_both.new.self.a.lazy)
  none_b : ForNone c.fill_both.new.self.b.ahead (c.in-Some.day <ℤ g.B.Lazy.position c.fill_both.new.self.b.lazy)
  late : c.fill_both.new.self.position ≤ℤ c.in-Some.day
  same : to_z w64 (of_z w64 c.in-Some.day) ≡ c.in-Some.day
  after : to_z w64 (of_z w64 (to_z w64 (of_z w64 c.in-Some.day) +ℤ pos 1)) ≡ c.in-Some.day +ℤ pos 1
  next : (new : List (List ℕ)) (found : Option OccupiedDay)
      → IsGivenByBoth c.fill_both.new.sets c.fill_both.new.self.a.ahead c.fill_both.new.self.b.ahead c.in-Some.day new found
      → IsNextIn new (union (g.A.Lazy.tree c.fill_both.new.self.a.lazy) (g.B.Lazy.tree c.fill_both.new.self.b.lazy)) c.fill_both.new.self.position c.args.to
      (Ok found) (c.in-Some.day +ℤ pos 1)

given : (g : Over) (c : After-on_day-arg-in-Some-2-1 g) → Given g c
given g c =
    let s = c.fill_both.new.self in
    let k = c.fill_both.ensures.knows in
    let sets = c.fill_both.new.sets in
    let t = to_z-of_z c.ranges.to in
    let first : (sets : List (List ℕ)) → IsFirstOfBoth (day_seen sets s.a.ahead) (day_seen sets s.b.ahead) c.args.to (Some c.in-Some.day) =
    λ sets. rw t at c.in-Some.ensures sets in
    let na = rw t at c.in_ok-fill_both.ensures.none_a in
    let nb = rw t at c.in_ok-fill_both.ensures.none_b in
    let day = union_day sets (g.A.Lazy.tree s.a.lazy) (g.B.Lazy.tree s.b.lazy) (g.A.Lazy.position s.a.lazy) (g.B.Lazy.position s.b.lazy) s.position c.in-Some.day c.args.to
    s.a.ahead s.b.ahead k.2 k.3 (first sets) na nb s.begun c.requires.high in
    let within = (first sets).0 in
    record {
      first = first;
      none_a = λ h. omega (arith, ints, na h, within);
      none_b = λ h. omega (arith, ints, nb h, within);
      late = day.0;
      same = day.1;
      after = day.2;
      next = union_next sets (g.A.Lazy.tree s.a.lazy) (g.B.Lazy.tree s.b.lazy) (g.A.Lazy.position s.a.lazy) (g.B.Lazy.position s.b.lazy) s.position c.in-Some.day c.args.to
          s.a.ahead s.b.ahead k.2 k.3 (first sets) na nb;
    }

pub on_day-requires-clause-a : goal.on_day-requires-clause-a
on_day-requires-clause-a g c = given_on c.fill_both.new.sets _ _ _ _ c.fill_both.ensures.knows.2

pub on_day-requires-clause-b : goal.on_day-requires-clause-b
on_day-requires-clause-b g c = given_on c.fill_both.new.sets _ _ _ _ c.fill_both.ensures.knows.3

pub returns-in_err-found-in-Some-clause-knows : goal.returns-in_err-found-in-Some-clause-knows
returns-in_err-found-in-Some-clause-knows g c =
    let s = c.fill_both.new.self in
    let k = c.fill_both.ensures.knows in
    let sets = c.fill_both.new.sets in
    let new = c.on_day.new.sets in
    let more = c.on_day.ensures.kept in (
      g.met.A.Lazy.knows_more s.a.lazy sets new more k.0,
      g.met.B.Lazy.knows_more s.b.lazy sets new more k.1,
      ahead_more sets new _ _ _ _ more k.2,
      ahead_more sets new _ _ _ _ more k.3,
    )

pub overflow_add-self : goal.overflow_add-self
overflow_add-self g c = rw (given g (goal.at.overflow_add-self g c).After-on_day-arg-in-Some-2-1).same (search rules)

pub invariant_of-self-in-Some : goal.invariant_of-self-in-Some
invariant_of-self-in-Some g c =
    let s = c.fill_both.new.self in
    let given = given g (goal.at.invariant_of-self-in-Some g c).After-on_day-arg-in-Some-2-1 in
    record { begun = rw given.after (omega (arith, ints, given.late, s.begun)); one_kind = s.one_kind }

pub returns-in_ok-found-in-Some-clause-knows : goal.returns-in_ok-found-in-Some-clause-knows
returns-in_ok-found-in-Some-clause-knows g c =
    let s = c.fill_both.new.self in
    let k = c.fill_both.ensures.knows in
    let sets = c.fill_both.new.sets in
    let new = c.on_day.new.sets in
    let more = c.on_day.ensures.kept in
    let day = given g (goal.at.returns-in_ok-found-in-Some-clause-knows g c).After-on_day-arg-in-Some-2-1 in (
      g.met.A.Lazy.knows_more s.a.lazy sets new more k.0,
      g.met.B.Lazy.knows_more s.b.lazy sets new more k.1,
      side_given_in new (g.A.Lazy.tree s.a.lazy) (g.A.Lazy.position s.a.lazy) s.position c.in-Some.day _ s.a.ahead c.forget.new.ahead
          (ahead_more sets new _ _ _ _ more k.2) day.late (day.first new).2 day.none_a (rw day.same at c.forget.ensures.left new)
          c.forget.ensures.within day.after,
      side_given_in new (g.B.Lazy.tree s.b.lazy) (g.B.Lazy.position s.b.lazy) s.position c.in-Some.day _ s.b.ahead c.forget-in-Some.new.ahead
          (ahead_more sets new _ _ _ _ more k.3) day.late (day.first new).3 day.none_b (rw day.same at c.forget-in-Some.ensures.left new)
          c.forget-in-Some.ensures.within day.after,
    )

pub returns-in_ok-found-in-Some-clause-kept : goal.returns-in_ok-found-in-Some-clause-kept
returns-in_ok-found-in-Some-clause-kept g c number times e = c.on_day.ensures.kept number times (c.fill_both.ensures.kept number times e)

pub returns-in_ok-found-in-Some-clause-next : goal.returns-in_ok-found-in-Some-clause-next
returns-in_ok-found-in-Some-clause-next g c =
    let day = given g (goal.at.returns-in_ok-found-in-Some-clause-next g c).After-on_day-arg-in-Some-2-1 in
    let found = c.in_ok-found-in-Some.found in
    let new = c.on_day.new.sets in
    same_next new _ _ _ _ _ _ c.args.to _ _ (Ok found) c.fill_both.ensures.tree_a c.fill_both.ensures.tree_b c.fill_both.ensures.position (sym day.after)
    (day.next new found (rw day.same at c.in_ok-found-in-Some.ensures.given))
