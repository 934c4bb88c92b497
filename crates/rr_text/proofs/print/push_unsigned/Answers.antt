use Rattle.std.proofs.Common.{arith}
use Rattle.std.proofs.lemmas.Fmt.{decimal_digit}
use Rattle.std.proofs.lemmas.Grind.{common_steps}
use Rattle.rr_text.proofs.print.push_unsigned.Goals as goal

pub returns-then-value-lt10-clause-ok : goal.returns-then-value-lt10-clause-ok
returns-then-value-lt10-clause-ok c = rw (decimal_digit c.args.value c.if-value-lt10.true) (grind (arith, common_steps))
