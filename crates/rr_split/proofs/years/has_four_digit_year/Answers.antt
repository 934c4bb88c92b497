use Rattle.std.proofs.Common.{◌≡◌, pos, neg_ℤ, true, false, refl, w64}
use Rattle.std.specs.Prelude.{int_le}
use Rattle.std.proofs.lemmas.Int.{to_z-of_z}
use Rattle.rr_model.proofs.YearLemmas.{year_1, year_10000}
use Rattle.rr_split.proofs.years.has_four_digit_year.Goals as goal

pub returns-then-day-ge-FIRST_DAY : goal.returns-then-day-ge-FIRST_DAY
returns-then-day-ge-FIRST_DAY c =
    let back = to_z-of_z w64 c.args.day c.ranges.day in
    let low : int_le (neg_ℤ (pos 719_162)) c.args.day ≡ true = rw back at c.if-day-ge-FIRST_DAY.true in
    rw (year_1, year_10000, back, low) refl

pub returns-else-day-ge-FIRST_DAY : goal.returns-else-day-ge-FIRST_DAY
returns-else-day-ge-FIRST_DAY c =
    let back = to_z-of_z w64 c.args.day c.ranges.day in
    let low : int_le (neg_ℤ (pos 719_162)) c.args.day ≡ false = rw back at c.if-day-ge-FIRST_DAY.false in
    rw (year_1, year_10000, back, low) refl
