use Rattle.std.proofs.Common.{◌≡◌, ℤ, pos, ◌+ℤ◌, ◌≤ℤ◌, ◌<ℤ◌, arith, w64, to_z, of_z, to_z-of_z}
use Rattle.std.proofs.lemmas.Int.{clamps, ints}
use Rattle.std.specs.Int.{int_min}
use Rattle.rr_expand.specs.Years.{Filling}
use Rattle.rr_expand.proofs.allowed_days.KeptMasks.list.Goals as goal

-- the lesser of two days that come after one
least : (end next last day : ℤ) → last ≡ int_min end next → day <ℤ end → day <ℤ next → (day <ℤ last) × (last ≤ℤ end) × (last ≤ℤ next)
least end next last day e a b = (omega (arith, ints, clamps, e, a, b), omega (arith, ints, clamps, e), omega (arith, ints, clamps, e))

module _ (c : goal.After-list-arg-in-loop-day-1) where
  -- the day after the last one
  abbrev pub end : ℤ
  end = c.args.first +ℤ pos c.args.count

  end_is : to_z w64 (of_z w64 (to_z w64 (of_z w64 c.args.first) +ℤ to_z w64 (of_z w64 c.from.result))) ≡ end
  end_is = omega (arith, ints, c.from.ensures, c.requires.first, c.requires.last)

  next_is : to_z w64 (of_z w64 c.enter_year_of.new.self.year.next) ≡ c.enter_year_of.new.self.year.next
  next_is = let y = c.enter_year_of.ensures.known.year in omega (arith, ints, y.near.0, y.near.1, y.ordered, y.short)

  pub till : (to_z w64 c.loop-day.day-bits <ℤ c.min-last.result) × (c.min-last.result ≤ℤ end) × (c.min-last.result ≤ℤ c.enter_year_of.new.self.year.next)
  till = least end c.enter_year_of.new.self.year.next c.min-last.result (to_z w64 c.loop-day.day-bits) (rw (end_is, next_is) at c.min-last.ensures.value)
      (omega (arith, ints, c.loop-day-test.true, end_is)) c.enter_year_of.ensures.not_over

  pub last_is : to_z w64 (of_z w64 c.min-last.result) ≡ c.min-last.result
  last_is =
      let t = till in
      let low = c.loop-day.invariant.1 in
      omega (arith, ints, t.0, t.1, low, to_z-of_z c.ranges.first, c.requires.first, c.requires.last)

pub list-requires-clause-some : goal.list-requires-clause-some
list-requires-clause-some c = let t = till c in rw (last_is c) (omega (arith, ints, t.0))

pub list-requires-clause-not_over : goal.list-requires-clause-not_over
list-requires-clause-not_over c = let t = till c in rw (last_is c) t.2

pub returns-in_err-list-clause-known : goal.returns-in_err-list-clause-known
returns-in_err-list-clause-known c = rw (to_z-of_z c.ranges.start_day) at c.enter_year_of.ensures.known

pub loop-day-smaller : goal.loop-day-smaller
loop-day-smaller c =
    let b = c.before.before.before in
    let t = till b in
    omega (arith, ints, last_is b, t.0, t.1, to_z-of_z c.ranges.first)

pub loop-day-preserved : goal.loop-day-preserved
loop-day-preserved c =
    let b = c.before.before.before in
    let t = till b in
    let first = to_z-of_z c.ranges.first in
    let start = to_z-of_z c.ranges.start_day in
    let own : Filling = record { rule = c.args.rule.now; start_day = c.args.start_day } in
    let known = rw start at c.enter_year_of.ensures.known in
    let inv = rw (start, first) at c.loop-day.invariant in
    let listed = rw (last_is b) at (c.in_ok-list.ensures own c.args.first inv.1 known.marked inv.3) in
    rw (start, first, last_is b) (known, omega (arith, ints, inv.1, t.0), t.1, listed)

pub returns-clause-listed : goal.returns-clause-listed
returns-clause-listed c =
    let end : to_z w64 (of_z w64 (to_z w64 (of_z w64 c.args.first) +ℤ to_z w64 (of_z w64 c.from.result))) ≡ c.args.first +ℤ pos c.args.count =
    omega (arith, ints, c.from.ensures, c.requires.first, c.requires.last) in
    let inv = rw (to_z-of_z c.ranges.start_day, to_z-of_z c.ranges.first) at c.loop-day.invariant in
    let is : to_z w64 c.loop-day.day-bits ≡ c.args.first +ℤ pos c.args.count = omega (arith, ints, end, inv.2, c.loop-day-test.false) in
    rw is at inv.3
