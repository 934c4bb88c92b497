use Rattle.std.proofs.Common.{sym, arith, rules, ◌∙◌, w64, to_z-of_z, FitsSigned}
use Rattle.std.proofs.lemmas.Int.{ints}
use Rattle.rr_lazy.proofs.FirstLemmas.{first_day_is}
use Rattle.rr_lazy.proofs.upto.Upto.new.Goals as goal

pub invariant_of-result : goal.invariant_of-result
invariant_of-result g c =
    let fits : FitsSigned w64 c.day_part-last_day.result = search rules in
    let a = to_z-of_z c.ranges.at in
    record {
      begun = omega (arith, ints, first_day_is);
      one_kind = rw a c.requires.one_kind;
      of_day = to_z-of_z fits ∙ c.day_part-last_day.ensures;
      together = λ l. c.requires.unasked ∙ first_day_is;
    }

pub returns-clause-unasked : goal.returns-clause-unasked
returns-clause-unasked g c = sym first_day_is
