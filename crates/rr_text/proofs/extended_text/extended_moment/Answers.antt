use Rattle.std.proofs.Common.{sym, arith}
use Rattle.std.proofs.lemmas.Int.{ints}
use Rattle.rr_model.proofs.YearLemmas.{four_digit_bounds}
use Rattle.rr_text.proofs.ExtendedLemmas.{extended_moment-short}
use Rattle.rr_text.proofs.extended_text.extended_moment.Goals as goal

pub returns-then-text-lt19-clause-stamp : goal.returns-then-text-lt19-clause-stamp
returns-then-text-lt19-clause-stamp c = sym (extended_moment-short c.args.text.now c.if-text-lt19.true)

pub moment_at-requires : goal.moment_at-requires
moment_at-requires c = let n = four_digit_bounds c.in_ok-day.day c.in_ok-day.ensures.years in (omega (arith, ints, n.0, n.1), omega (arith, ints, n.0, n.1))
