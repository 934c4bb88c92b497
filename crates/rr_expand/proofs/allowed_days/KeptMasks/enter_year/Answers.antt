use Rattle.std.proofs.Common.{rules, ◌≡◌, ◌∙◌, sym, arith, ◌+ℤ◌, pos, to_z, of_z, to_z-of_z, w64}
use Rattle.std.proofs.lemmas.Int.{ints}
use Rattle.rr_model.specs.Calendar.{days_in_year, first_day_of_year}
use Rattle.rr_model.proofs.CalendarLemmas.{days_in_year_bounds, first_day_of_year-next}
use Rattle.rr_expand.proofs.KeptMaskLemmas.{year_known}
use Rattle.rr_expand.proofs.allowed_days.KeptMasks.enter_year.Goals as goal

pub mask_of-mask-requires-clause-first : goal.mask_of-mask-requires-clause-first
mask_of-mask-requires-clause-first c = rw (to_z-of_z c.ranges.number) c.requires.near

pub mask_of-mask-requires-clause-next : goal.mask_of-mask-requires-clause-next
mask_of-mask-requires-clause-next c = rw (to_z-of_z c.ranges.number) c.requires.next

module _ (c : goal.After-from) where
  length_is : to_z w64 (of_z w64 c.from.result) ≡ pos (days_in_year c.args.number)
  length_is =
      let days : c.days_in_year.result ≡ days_in_year c.args.number = rw (to_z-of_z c.ranges.number) at c.days_in_year.ensures in
      omega (arith, ints, days, c.from.ensures, (days_in_year_bounds c.args.number).1)

  next_is : to_z w64 (of_z w64 (to_z w64 (of_z w64 c.args.first) +ℤ to_z w64 (of_z w64 c.from.result)))
      ≡ first_day_of_year c.args.number +ℤ pos (days_in_year c.args.number)
  next_is =
      let near = c.requires.near in
      omega (arith, ints, c.requires.first, length_is, near.0, near.1, (days_in_year_bounds c.args.number).1)

pub overflow_add-self : goal.overflow_add-self
overflow_add-self c =
    let near = c.requires.near in
    omega (arith, ints, c.requires.first, length_is c, near.0, near.1, (days_in_year_bounds c.args.number).1)

pub returns-clause-known : goal.returns-clause-known
returns-clause-known c =
    let number = to_z-of_z c.ranges.number in
    let start = to_z-of_z c.ranges.start_day in
    year_known _ c.args.number _ number (to_z-of_z c.ranges.first ∙ c.requires.first) (next_is c.before) c.requires.near
    (rw start at c.mask_of-mask.ensures.kept) (rw (start, number) at c.mask_of-mask.ensures.mask)

pub returns-clause-first : goal.returns-clause-first
returns-clause-first c = to_z-of_z c.ranges.first

pub returns-clause-next : goal.returns-clause-next
returns-clause-next c = next_is c.before ∙ sym (first_day_of_year-next c.args.number)
