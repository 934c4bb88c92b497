use Rattle.std.proofs.Common.{rules, ◌≡◌, FitsSigned, to_z, of_z, to_z-of_z, w64, arith}
use Rattle.std.proofs.lemmas.Int.{ints}
use Rattle.rr_expand.specs.Years.{Filling}
use Rattle.rr_expand.specs.KeptMasks.{AreKeptMasks}
use Rattle.rr_expand.proofs.KeptMaskLemmas.{IsPassed, passed_first, passed_near, passed_year, passed_found, passed_all}
use Rattle.rr_expand.proofs.allowed_days.KeptMasks.first_from.Goals as goal
use Rattle.rr_expand.proofs.allowed_days.KeptMasks.first_from.Goals.{At-loop-day}

pub loop-day-init : goal.loop-day-init
loop-day-init c =
    rw (to_z-of_z c.ranges.start_day, to_z-of_z c.ranges.from, to_z-of_z c.ranges.end)
    (c.requires.known, passed_first _ c.args.from c.args.end c.requires.from)

module _ (c : At-loop-day) where
  -- the rule beside the day of its start
  abbrev pub own : Filling
  own = record { rule = c.args.rule.now; start_day = c.args.start_day }

  -- the invariant by the arguments themselves
  pub known : AreKeptMasks own c.loop-day.self × IsPassed own c.args.from c.args.end (to_z w64 c.loop-day.day-bits)
  known = rw (to_z-of_z c.ranges.start_day, to_z-of_z c.ranges.from, to_z-of_z c.ranges.end) at c.loop-day.invariant

pub enter_year_of-requires-clause-near : goal.enter_year_of-requires-clause-near
enter_year_of-requires-clause-near c =
    let b = c.before.before in
    passed_near (own b) c.args.from c.args.end (to_z w64 c.loop-day.day-bits) c.requires.from c.requires.end (known b).1
    (omega (arith, ints, c.loop-day-test.true, to_z-of_z c.ranges.end))

-- the walk if the year has no allowed day
module _ (c : goal.After-day-1) where
  abbrev b : At-loop-day
  b = c.before.before.before.before.before.before.before

  masks_are : AreKeptMasks (own b) c.enter_year_of.new.self
  masks_are = rw (to_z-of_z c.ranges.start_day) at c.enter_year_of.ensures.known

  passed : IsPassed (own b) c.args.from c.args.end c.enter_year_of.new.self.year.next
  passed =
      let none = rw (to_z-of_z c.ranges.end) at c.in_default.ensures in
      passed_year (own b) c.args.from c.args.end c.enter_year_of.new.self (to_z w64 c.loop-day.day-bits) masks_are c.enter_year_of.ensures.begun (known b).1
      c.enter_year_of.ensures.not_over (omega (arith, ints, c.loop-day-test.true, to_z-of_z c.ranges.end)) c.requires.end none

  next_is : to_z w64 (of_z w64 c.enter_year_of.new.self.year.next) ≡ c.enter_year_of.new.self.year.next
  next_is = let p = passed in omega (arith, ints, p.near.0, p.near.1)

pub loop-day-smaller : goal.loop-day-smaller
loop-day-smaller c = let p = passed c in omega (arith, ints, next_is c, p.near.0, p.near.1, c.enter_year_of.ensures.not_over)

pub loop-day-preserved : goal.loop-day-preserved
loop-day-preserved c =
    rw (to_z-of_z c.ranges.start_day, to_z-of_z c.ranges.from, to_z-of_z c.ranges.end, next_is c) (masks_are c, passed c)

pub returns-in-Some-clause-known : goal.returns-in-Some-clause-known
returns-in-Some-clause-known c = rw (to_z-of_z c.ranges.start_day) at c.enter_year_of.ensures.known

pub returns-in-Some-clause-first : goal.returns-in-Some-clause-first
returns-in-Some-clause-first c =
    let b = c.before.before.before.before.before.before in
    let are = rw (to_z-of_z c.ranges.start_day) at c.enter_year_of.ensures.known in
    let found = rw (to_z-of_z c.ranges.end) at c.in-Some.ensures in
    let fits : FitsSigned w64 c.in-Some.found = search rules in
    rw (to_z-of_z fits)
    (passed_found (own b) c.args.from c.args.end c.enter_year_of.new.self (to_z w64 c.loop-day.day-bits) are c.enter_year_of.ensures.begun (known b).1
    c.in-Some.found found)

pub returns-clause-known : goal.returns-clause-known
returns-clause-known c = (known c.before).0

pub returns-clause-first : goal.returns-clause-first
returns-clause-first c =
    passed_all (own c.before) c.args.from c.args.end (to_z w64 c.loop-day.day-bits) (omega (arith, ints, c.loop-day-test.false, to_z-of_z c.ranges.end))
    (known c.before).1
