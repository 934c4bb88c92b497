use Rattle.std.proofs.Common.{◌<◌, ◌^◌, arith, rules}
use Rattle.std.proofs.lemmas.Grind.{common_steps}
use Rattle.rr_text.proofs.PrintLemmas.{long_date}
use Rattle.rr_text.proofs.print.push_long_date.Goals as goal

pub returns-in-Ok-clause-ok : goal.returns-in-Ok-clause-ok
returns-in-Ok-clause-ok c =
    let date = c.args.date in
    let y : date.year < 2 ^ 64 = search rules in
    rw (long_date date.year date.month date.day c.requires.year y) (grind (arith, common_steps))
