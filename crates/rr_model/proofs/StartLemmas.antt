-- A start lies within the days of the calls.
use Rattle.std.proofs.Common.{ℕ, ℤ, arith}
use Rattle.std.proofs.lemmas.Int.{ints}
use Rattle.rr_model.specs.Calendar.{IsDayWithin}
use Rattle.rr_model.specs.Moment.{day_part}
use Rattle.rr_model.specs.Moment.Years.{IsInYears}
use Rattle.rr_model.specs.declared.kind.Kind.{Kind}
use Rattle.rr_model.proofs.YearLemmas.{year_1, year_10000}

pub IsDayWithin-start : (more : ℕ) (kind : Kind) (start : ℤ) → IsInYears kind start → IsDayWithin more (day_part kind start)
IsDayWithin-start more kind start h = (omega (arith, ints, h.0, year_1), omega (arith, ints, h.1, year_10000))
