use Rattle.std.proofs.Common.{arith, sym, ◌∙◌, to_z-of_z}
use Rattle.std.proofs.lemmas.Bool.{false≢true}
use Rattle.std.proofs.lemmas.Int.{ints}
use Rattle.rr_model.proofs.YearLemmas.{from_year_one}
use Rattle.rr_algebra.proofs.expansion.is_read_day.Goals as goal

pub returns-then-day-ge-FIRST_DAY : goal.returns-then-day-ge-FIRST_DAY
returns-then-day-ge-FIRST_DAY c =
    let d = to_z-of_z c.ranges.day in
    let low = c.if-day-ge-FIRST_DAY.true in
    rw d (
      (λ t. record { from = (from_year_one c.args.day).1 (omega (arith, ints, low, d)); most = grind (arith, ints, t) }),
      (λ h. let m = h.most in grind (arith, ints, m)),
    )

pub returns-else-day-ge-FIRST_DAY : goal.returns-else-day-ge-FIRST_DAY
returns-else-day-ge-FIRST_DAY c =
    let d = to_z-of_z c.ranges.day in (
      (λ t. absurd (false≢true (sym c.if-day-ge-FIRST_DAY.false ∙ t))),
      (λ h. let low = (from_year_one c.args.day).0 h.from in rw d (grind (arith, ints, low))),
    )
