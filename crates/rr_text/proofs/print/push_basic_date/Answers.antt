use Rattle.std.proofs.Common.{arith, w64}
use Rattle.std.proofs.lemmas.Grind.{common_steps}
use Rattle.std.proofs.lemmas.Int.{to_z-of_z}
use Rattle.rr_model.specs.declared.kind.Kind.TheVariants.{Days}
use Rattle.rr_model.proofs.StartLemmas.{IsDayWithin-start}
use Rattle.rr_text.proofs.PrintLemmas.{basic_parts, basic_year}
use Rattle.rr_text.proofs.print.push_basic_date.Goals as goal

pub date_parts-requires-clause-near : goal.date_parts-requires-clause-near
date_parts-requires-clause-near c = rw (to_z-of_z w64 c.args.day c.ranges.day) (IsDayWithin-start 0 Days c.args.day c.requires)

pub basic_bytes-requires-clause-year : goal.basic_bytes-requires-clause-year
basic_bytes-requires-clause-year c = basic_year c.args.day c.date_parts.result.year c.ranges.day c.requires c.date_parts.ensures.year

pub returns-clause-ok : goal.returns-clause-ok
returns-clause-ok c =
    let date = c.date_parts.result in
    let is = c.date_parts.ensures in
    rw (basic_parts c.args.day date.year date.month date.day c.ranges.day is.year is.month is.day) (grind (arith, common_steps))
