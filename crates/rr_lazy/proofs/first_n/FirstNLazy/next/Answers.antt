use Rattle.std.proofs.Common.{refl, ◌⊎◌, ◌≡◌, pos, ◌+ℤ◌, ◌≤ℤ◌, ◌<ℤ◌, w64, to_z, of_z, arith, inl, inr, ℕ, ◌-◌, List, [], take, get_or}
use Rattle.rr_lazy.specs.Next.{with_set}
use Rattle.std.proofs.lemmas.Int.{ints, to_z-of_z}
use Rattle.rr_lazy.proofs.FirstLemmas.{first_day_is, none_spent, spent_moves, first_none, first_some, take_lesser}
use Rattle.rr_lazy.proofs.first_n.FirstNLazy.next.Goals as goal

pub invariant_of-self : goal.invariant_of-self
invariant_of-self g c =
    let s = c.args.self.now in
    let q : to_z w64 (of_z w64 c.position_past-self.result) ≡ c.position_past-self.result =
    to_z-of_z w64 c.position_past-self.result (record { sfits = c.position_past-self.type_inv }) in
    rw q (record {
      counting =
          spent_moves (g.A.Lazy.tree s.lazy) (g.A.Lazy.position s.lazy) s.position s.count s.left s.counting c.position_past-self.result c.if-self-eq0.true
          (omega (arith, ints, c.position_past-self.ensures.kept));
    })

pub returns-then-self-eq0-clause-next : goal.returns-then-self-eq0-clause-next
returns-then-self-eq0-clause-next g c =
    let s = c.args.self.now in
    let q : to_z w64 (of_z w64 c.position_past-self.result) ≡ c.position_past-self.result =
    to_z-of_z w64 c.position_past-self.result (record { sfits = c.position_past-self.type_inv }) in
    rw q (
      none_spent (g.A.Lazy.tree s.lazy) (g.A.Lazy.position s.lazy) s.position s.count s.left s.counting c.position_past-self.result c.if-self-eq0.true,
      omega (arith, ints, c.position_past-self.ensures.kept),
      omega (arith, ints, c.position_past-self.ensures.past),
      elim c.position_past-self.ensures.one [ inl e ↦ inl (omega (arith, ints)) | inr e ↦ inr (omega (arith, ints)) ],
    )

pub invariant_of-self-in-None : goal.invariant_of-self-in-None
invariant_of-self-in-None g c =
    let s = c.args.self.now in
    let r = c.position_past-self-in-None.result in
    let q : to_z w64 (of_z w64 r) ≡ r = to_z-of_z w64 r (record { sfits = c.position_past-self-in-None.type_inv }) in
    let n = rw c.in-None.is at c.in_ok-next.ensures.next in
    rw q (record {
      counting = (first_none (g.A.Lazy.tree s.lazy) (g.A.Lazy.tree c.next.new.self) (g.A.Lazy.position s.lazy)
          (g.A.Lazy.position c.next.new.self) s.position c.args.to (to_z w64 (of_z w64 c.args.to)) r s.count s.left
          s.counting (omega (arith, c.if-self-eq0.false)) n c.in_ok-next.ensures.tree (to_z-of_z w64 c.args.to c.ranges.to)
          (omega (arith, ints, c.position_past-self-in-None.ensures.kept)) (omega (arith, ints, c.position_past-self-in-None.ensures.past))
          (elim c.position_past-self-in-None.ensures.one [ inl e ↦ inl (omega (arith, ints)) | inr e ↦ inr (omega (arith, ints)) ])).0;
    })

pub returns-in-None-clause-next : goal.returns-in-None-clause-next
returns-in-None-clause-next g c =
    let s = c.args.self.now in
    let r = c.position_past-self-in-None.result in
    let q : to_z w64 (of_z w64 r) ≡ r = to_z-of_z w64 r (record { sfits = c.position_past-self-in-None.type_inv }) in
    let n = rw c.in-None.is at c.in_ok-next.ensures.next in
    let one : (r ≡ c.args.to +ℤ pos 1) ⊎ (r ≡ s.position) =
    elim c.position_past-self-in-None.ensures.one [ inl e ↦ inl (omega (arith, ints)) | inr e ↦ inr (omega (arith, ints)) ] in
    let kept : s.position ≤ℤ r = omega (arith, ints, c.position_past-self-in-None.ensures.kept) in
    let past : c.args.to <ℤ r = omega (arith, ints, c.position_past-self-in-None.ensures.past) in
    rw q (
      (first_none (g.A.Lazy.tree s.lazy) (g.A.Lazy.tree c.next.new.self) (g.A.Lazy.position s.lazy)
          (g.A.Lazy.position c.next.new.self) s.position c.args.to (to_z w64 (of_z w64 c.args.to)) r s.count s.left
          s.counting (omega (arith, c.if-self-eq0.false)) n c.in_ok-next.ensures.tree (to_z-of_z w64 c.args.to c.ranges.to) kept past one).1,
      kept,
      past,
      one,
    )

pub invariant_of-self-in-Some : goal.invariant_of-self-in-Some
invariant_of-self-in-Some g c =
    let s = c.args.self.now in
    let found = c.in-Some.found in
    let whole : List ℕ = get_or c.next.new.sets found.number.index [] in
    let both = rw c.in-Some.is at c.in_ok-next.ensures.next in
    let n = both.1 in
    let t = to_z-of_z w64 c.args.to c.ranges.to in
    let same = s.counting.together (omega (arith, c.if-self-eq0.false)) in
    let d : to_z w64 (of_z w64 found.day) ≡ found.day = omega (arith, ints, n.0.late, n.1, s.counting.begun, first_day_is, same, t) in
    let q : to_z w64 (of_z w64 (to_z w64 (of_z w64 found.day) +ℤ pos 1)) ≡ found.day +ℤ pos 1 =
    omega (arith, ints, d, n.0.late, n.1, s.counting.begun, first_day_is, same, t) in
    let cut = take_lesser s.left found.count c.min.result whole both.0.1 c.min.ensures in
    let all = first_some (g.A.Lazy.tree s.lazy) (g.A.Lazy.tree c.next.new.self) (g.A.Lazy.position s.lazy)
    (g.A.Lazy.position c.next.new.self) s.position c.args.to (to_z w64 (of_z w64 c.args.to)) _ (with_set c.next.new.sets found) (take c.min.result whole)
    s.count s.left (s.left - c.min.result) s.counting (omega (arith, c.if-self-eq0.false)) n c.in_ok-next.ensures.tree t cut.1 q (rw cut.2 refl) in
    record { counting = all.0 }

pub returns-in-Some-clause-next : goal.returns-in-Some-clause-next
returns-in-Some-clause-next g c =
    let s = c.args.self.now in
    let found = c.in-Some.found in
    let whole : List ℕ = get_or c.next.new.sets found.number.index [] in
    let both = rw c.in-Some.is at c.in_ok-next.ensures.next in
    let n = both.1 in
    let t = to_z-of_z w64 c.args.to c.ranges.to in
    let same = s.counting.together (omega (arith, c.if-self-eq0.false)) in
    let d : to_z w64 (of_z w64 found.day) ≡ found.day = omega (arith, ints, n.0.late, n.1, s.counting.begun, first_day_is, same, t) in
    let q : to_z w64 (of_z w64 (to_z w64 (of_z w64 found.day) +ℤ pos 1)) ≡ found.day +ℤ pos 1 =
    omega (arith, ints, d, n.0.late, n.1, s.counting.begun, first_day_is, same, t) in
    let cut = take_lesser s.left found.count c.min.result whole both.0.1 c.min.ensures in
    let all = first_some (g.A.Lazy.tree s.lazy) (g.A.Lazy.tree c.next.new.self) (g.A.Lazy.position s.lazy)
    (g.A.Lazy.position c.next.new.self) s.position c.args.to (to_z w64 (of_z w64 c.args.to)) _ (with_set c.next.new.sets found) (take c.min.result whole)
    s.count s.left (s.left - c.min.result) s.counting (omega (arith, c.if-self-eq0.false)) n c.in_ok-next.ensures.tree t cut.1 q (rw cut.2 refl) in
    ((both.0.0, omega (arith, cut.0, both.0.1)), (all.1, all.2, q))
