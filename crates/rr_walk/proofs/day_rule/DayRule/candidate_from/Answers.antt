use Rattle.std.proofs.Common.{◌≡◌, pos, ◌+ℤ◌, to_z, of_z, w64, arith, to_z-of_z}
use Rattle.std.proofs.lemmas.Int.{ints}
use Rattle.rr_walk.proofs.PlainLemmas.{first_of_each}
use Rattle.rr_walk.proofs.day_rule.DayRule.candidate_from.Goals as goal

pub returns-then-self-eq1-clause-first : goal.returns-then-self-eq1-clause-first
returns-then-self-eq1-clause-first c =
    let r = c.args.self.now in
    let u = rw c.self.view_is at c.self.invariant in
    let next : to_z w64 (of_z w64 (to_z w64 (of_z w64 c.args.to) +ℤ pos 1)) ≡ c.args.to +ℤ pos 1 =
    omega (arith, ints, c.requires.next.0, c.requires.next.1) in
    first_of_each r c.args.from c.args.to (c.args.to +ℤ pos 1) c.first_from.result (rw (← c.self.view_is) c.if-self-eq1.true) (omega (arith, ints))
    (rw (next, to_z-of_z c.ranges.from, u.of_allowed) at c.first_from.ensures.first)
