use Rattle.std.proofs.Common.{arith, rules, w64}
use Rattle.std.specs.Prelude.{FitsSigned}
use Rattle.std.proofs.lemmas.Int.{ints}
use Rattle.rr_text.proofs.PrintLemmas.{printed_year}
use Rattle.rr_text.proofs.print.date_parts.Goals as goal

pub overflow_cast-result : goal.overflow_cast-result
overflow_cast-result c =
    let year = c.date_of-date.result.year in
    let fits : FitsSigned w64 year = search rules in
    let low = printed_year c.args.day year c.ranges.day c.requires.from c.date_of-date.ensures.year in
    (omega (arith, ints, fits, low), omega (arith, ints, fits, low))
