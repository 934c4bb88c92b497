use Rattle.std.proofs.Common.{arith}
use Rattle.std.proofs.lemmas.Grind.{common_steps}
use Rattle.rr_text.proofs.PrintLemmas.{extended_parts}
use Rattle.rr_text.proofs.print.push_extended_date.Goals as goal

pub returns-then-date-ge10000-clause-ok : goal.returns-then-date-ge10000-clause-ok
returns-then-date-ge10000-clause-ok c =
    let date = c.date_parts-date.result in
    let is = c.date_parts-date.ensures in
    rw (extended_parts c.args.day date.year date.month date.day c.ranges.day is.year is.month is.day) c.push_long_date.ensures.ok

pub returns-clause-ok : goal.returns-clause-ok
returns-clause-ok c =
    let date = c.date_parts-date.result in
    let is = c.date_parts-date.ensures in
    rw (extended_parts c.args.day date.year date.month date.day c.ranges.day is.year is.month is.day) (grind (arith, common_steps))
