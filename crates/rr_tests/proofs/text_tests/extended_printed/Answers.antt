use Rattle.std.proofs.Common.{◌∙◌, rules, w64, FitsSigned, to_z-of_z, arith}
use Rattle.std.proofs.lemmas.Int.{ints}
use Rattle.rr_model.proofs.YearLemmas.{year_1}
use Rattle.rr_tests.proofs.text_tests.extended_printed.Goals as goal

pub push_extended-requires-clause-from : goal.push_extended-requires-clause-from
push_extended-requires-clause-from c =
    let fits : FitsSigned w64 c.day_part-day.result = search rules in
    let is = to_z-of_z fits ∙ c.day_part-day.ensures in
    omega (arith, ints, year_1, c.if-day-lt0.false, is)
