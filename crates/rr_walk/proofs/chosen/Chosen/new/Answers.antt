use Rattle.std.proofs.Common.{to_z-of_z, sym, arith}
use Rattle.std.proofs.lemmas.Int.{ints}
use Rattle.rr_lazy.proofs.FirstLemmas.{first_day_is}
use Rattle.rr_walk.proofs.chosen.Chosen.new.Goals as goal

pub invariant_of-result : goal.invariant_of-result
invariant_of-result g c =
    let same = c.in_ok-walk.ensures.same in
    record {
      valid = rw (same.rule, same.kind, same.start, to_z-of_z c.ranges.start) (record { valid = c.requires.valid; in_years = c.requires.in_years });
      begun = omega (arith, ints);
    }

pub returns-clause-unasked : goal.returns-clause-unasked
returns-clause-unasked g c = sym first_day_is
