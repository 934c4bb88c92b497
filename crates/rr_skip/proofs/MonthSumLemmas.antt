-- Sums of the first day of a month and its length.
use Rattle.std.proofs.Common.{rules, ◌≡◌, ℕ, ℤ, pos, neg_ℤ, ◌+ℤ◌, ◌≤ℤ◌, w64, to_z, of_z, FitsSigned, ◌∙◌, arith}
use Rattle.std.proofs.lemmas.Int.{ints}
use Rattle.rr_model.specs.Moment.Units.{first_day_of_month}
use Rattle.rr_days.proofs.BackLemmas.{back}
use Rattle.rr_skip.specs.Months.{length_of_month}
use Rattle.rr_skip.specs.NearMonths.{IsNearMonth}
use Rattle.rr_skip.proofs.MonthLemmas.{near_first, month_ends, length_bounds}

module _ (number first from : ℤ) (length : ℕ) (near : IsNearMonth number) (of_first : first ≡ first_day_of_month number)
    (of_length : length ≡ length_of_month number) (is : from ≡ pos length) where
  pub first_back : to_z w64 (of_z w64 first) ≡ first
  first_back = let b = near_first number near in back first (omega (arith, ints, b.0, of_first)) (omega (arith, ints, b.1, of_first))

  pub from_back : to_z w64 (of_z w64 from) ≡ from
  from_back = let l = length_bounds number in back from (omega (arith, ints, is)) (omega (arith, ints, is, of_length, l.1))

  pub sum_fits : FitsSigned w64 (to_z w64 (of_z w64 first) +ℤ to_z w64 (of_z w64 from))
  sum_fits =
      let b = near_first number near in
      let l = length_bounds number in
      rw (first_back, from_back) (let low : neg_ℤ (pos 500_000_000) ≤ℤ (first +ℤ from) = omega (arith, ints, b.0, of_first, is) in
      let high : (first +ℤ from) ≤ℤ pos 500_000_000 = omega (arith, ints, b.1, of_first, is, of_length, l.1) in
      search rules)

  pub sum_is : to_z w64 (of_z w64 (to_z w64 (of_z w64 first) +ℤ to_z w64 (of_z w64 from))) ≡ first_day_of_month (number +ℤ pos 1)
  sum_is =
      let b = near_first number near in
      let l = length_bounds number in
      rw (first_back, from_back) (back (first +ℤ from) (omega (arith, ints, b.0, of_first, is)) (omega (arith, ints, b.1, of_first, is, of_length, l.1))
      ∙ omega (arith, ints, month_ends number, of_first, of_length, is))
