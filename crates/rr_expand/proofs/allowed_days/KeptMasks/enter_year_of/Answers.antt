use Rattle.std.proofs.Common.{rules, ◌≡◌, ◌∙◌, ap, sym, arith, ℤ, ◌+ℤ◌, ◌≤ℤ◌, ◌<ℤ◌, pos, FitsSigned, to_z, of_z, to_z-of_z, w64}
use Rattle.std.proofs.lemmas.Int.{ints}
use Rattle.rr_model.specs.Calendar.{IsDayWithin, first_day_of_year, year_of}
use Rattle.rr_model.proofs.CalendarLemmas.{first_day_of_year-next}
use Rattle.rr_expand.specs.KeptMasks.{IsMaskedYear}
use Rattle.rr_expand.specs.declared.allowed_days.MaskedYear.{MaskedYear}
use Rattle.rr_expand.proofs.KeptMaskLemmas.{year_follows, year_reaches}
use Rattle.rr_expand.proofs.allowed_days.KeptMasks.enter_year_of.Goals.{After-enter_year-arg-else-self-day-2-1, After-number-1, After-struct_told-1}
use Rattle.rr_expand.proofs.allowed_days.KeptMasks.enter_year_of.Goals as goal

-- ---- the next year

next_fits : (year : MaskedYear) → IsMaskedYear year → to_z w64 (of_z w64 year.next) ≡ year.next
next_fits year y = omega (arith, ints, y.near.0, y.near.1, y.ordered, y.short)

number_is : (n : ℤ) → IsDayWithin 0 (n +ℤ pos 1) → to_z w64 (of_z w64 (to_z w64 (of_z w64 n) +ℤ pos 1)) ≡ n +ℤ pos 1
number_is n near = omega (arith, ints, near.0, near.1)

-- its number
abbrev number : After-number-1 → ℤ
number c = c.args.self.now.year.number +ℤ pos 1

record Following (c : After-number-1) : Type 0 where
  near : IsDayWithin 0 (number c)
  number_is : to_z w64 (of_z w64 (to_z w64 (of_z w64 c.args.self.now.year.number) +ℤ pos 1)) ≡ number c
  first : IsDayWithin 1000 (first_day_of_year (number c))
  next : IsDayWithin 1000 (first_day_of_year (number c +ℤ pos 1))
  not_over : c.args.day <ℤ first_day_of_year (number c +ℤ pos 1)

following : (c : After-number-1) → Following c
following c =
    let year = c.args.self.now.year in
    let y = c.requires.known.year in
    let fits = next_fits year y in
    let same = to_z-of_z c.ranges.day in
    let begun : year.next ≤ℤ c.args.day = omega (arith, ints, c.if-self-day-2.true, fits, same) in
    let below : c.args.day <ℤ (year.next +ℤ pos 365) = omega (arith, ints, c.if-day-self-2.true, fits, same, y.near.0, y.near.1, y.ordered, y.short) in
    let f = year_follows c.args.day (year.number +ℤ pos 1) c.requires.near (rw (sym y.of_next) begun) (rw (sym y.of_next) below) in
    record { near = f.0; number_is = number_is year.number f.0; first = f.1; next = f.2; not_over = f.3 }

pub overflow_add-number : goal.overflow_add-number
overflow_add-number c = let near = (following c).near in omega (arith, ints, near.0, near.1)

pub enter_year-requires-clause-first : goal.enter_year-requires-clause-first
enter_year-requires-clause-first c =
    let f = following (goal.at.enter_year-requires-clause-first c).After-number-1 in
    rw f.number_is (next_fits c.args.self.now.year c.requires.known.year ∙ c.requires.known.year.of_next)

pub enter_year-requires-clause-near : goal.enter_year-requires-clause-near
enter_year-requires-clause-near c = let f = following (goal.at.enter_year-requires-clause-near c).After-number-1 in rw f.number_is f.first

pub enter_year-requires-clause-next : goal.enter_year-requires-clause-next
enter_year-requires-clause-next c = let f = following (goal.at.enter_year-requires-clause-next c).After-number-1 in rw f.number_is f.next

pub returns-then-day-self-2-clause-not_over : goal.returns-then-day-self-2-clause-not_over
returns-then-day-self-2-clause-not_over c =
    let f = following (goal.at.returns-then-day-self-2-clause-not_over c).After-number-1 in
    let ends = rw f.number_is at c.enter_year.ensures.next in
    rw ends f.not_over

-- ---- any other year

-- the year of the date
year_is : (c : After-struct_told-1) → to_z w64 (of_z w64 c.date_of-number.result.year) ≡ year_of c.args.day
year_is c =
    let fits : FitsSigned w64 c.date_of-number.result.year = search rules in
    to_z-of_z fits ∙ c.date_of-number.ensures.year ∙ ap year_of (to_z-of_z c.ranges.day)

first_is : (c : After-enter_year-arg-else-self-day-2-1) → to_z w64 (of_z w64 c.new_year-first.result) ≡ first_day_of_year (year_of c.args.day)
first_is c =
    let fits : FitsSigned w64 c.new_year-first.result = search rules in
    let year = year_is (goal.at.enter_year-requires-else-self-day-2-clause-first c).After-struct_told-1 in
    to_z-of_z fits ∙ (rw year at c.new_year-first.ensures)

pub new_year-first-requires : goal.new_year-first-requires
new_year-first-requires c = rw (year_is c) (year_reaches c.args.day c.requires.near).0

pub enter_year-requires-else-self-day-2-clause-first : goal.enter_year-requires-else-self-day-2-clause-first
enter_year-requires-else-self-day-2-clause-first c =
    rw (year_is (goal.at.enter_year-requires-else-self-day-2-clause-first c).After-struct_told-1) (first_is c)

pub enter_year-requires-else-self-day-2-clause-near : goal.enter_year-requires-else-self-day-2-clause-near
enter_year-requires-else-self-day-2-clause-near c =
    rw (year_is (goal.at.enter_year-requires-else-self-day-2-clause-near c).After-struct_told-1) (year_reaches c.args.day c.requires.near).0

pub enter_year-requires-else-self-day-2-clause-next : goal.enter_year-requires-else-self-day-2-clause-next
enter_year-requires-else-self-day-2-clause-next c =
    rw (year_is (goal.at.enter_year-requires-else-self-day-2-clause-next c).After-struct_told-1) (year_reaches c.args.day c.requires.near).1

pub returns-else-self-day-2-clause-begun : goal.returns-else-self-day-2-clause-begun
returns-else-self-day-2-clause-begun c =
    let first = first_is (goal.at.returns-else-self-day-2-clause-begun c).After-enter_year-arg-else-self-day-2-1 in
    rw (c.enter_year-else-self-day-2.ensures.first, first) (year_reaches c.args.day c.requires.near).2

pub returns-else-self-day-2-clause-not_over : goal.returns-else-self-day-2-clause-not_over
returns-else-self-day-2-clause-not_over c =
    let year = year_is (goal.at.returns-else-self-day-2-clause-not_over c).After-struct_told-1 in
    let ends = rw (year, first_day_of_year-next (year_of c.args.day)) at c.enter_year-else-self-day-2.ensures.next in
    rw ends (year_reaches c.args.day c.requires.near).3
