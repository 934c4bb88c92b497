use Rattle.std.proofs.Common.{◌≡◌, to_z, of_z, w64, rules, arith}
use Rattle.std.specs.Int.{int_min}
use Rattle.std.proofs.lemmas.Int.{ints, clamps}
use Rattle.rr_decide.proofs.BeginLemmas.{begin_on}
use Rattle.rr_decide.proofs.days.first_of_both.Goals as goal

pub returns-clause-both : goal.returns-clause-both
returns-clause-both c = λ s u of_a of_b.
    let one_kind : c.args.kind_a ≡ c.args.kind_b = search rules in
    let least : to_z w64 (of_z w64 c.min.result) ≡ int_min c.in-Some.of_a c.in-Some-first_b.of_b = omega (arith, ints, clamps) in
    begin_on s u c.args.kind_a c.args.kind_b c.args.first_a c.args.first_b c.in-Some.of_a c.in-Some-first_b.of_b (to_z w64 (of_z w64 c.min.result))
    c.in-Some.is c.in-Some-first_b.is one_kind least of_a of_b
