use Rattle.std.proofs.Common.{◌≡◌, arith, subst, w64, to_z, of_z}
use Rattle.std.proofs.lemmas.Int.{ints}
use Rattle.rr_family.specs.Divisors.{AreDivisors}
use Rattle.rr_family.specs.Lasting.{is_occupied}
use Rattle.rr_family.proofs.divisors.divisors_of.Goals as goal

pub returns : goal.returns
returns g c =
    let first = c.args.window.now.first in
    let near = c.requires.first in
    let back : to_z w64 (of_z w64 first) ≡ first = omega (arith, ints, near.0, near.1) in
    record {
      days = c.days_to_read.result;
      reaches_end = c.days_to_read.ensures.all;
      are = subst (λ d. AreDivisors c.divisors_within.result (is_occupied (g.A.DaySeq.sketch c.args.seq.now)) d c.days_to_read.result) back c.divisors_within.ensures;
    }
