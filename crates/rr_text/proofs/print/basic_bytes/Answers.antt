use Rattle.std.proofs.Common.{sym}
use Rattle.rr_text.proofs.PrintLemmas.{basic_digits}
use Rattle.rr_text.proofs.print.basic_bytes.Goals as goal

pub returns : goal.returns
returns c =
    let date = c.args.date in
    let two = c.requires.two in
    rw (c.tens.ensures, c.ones.ensures, c.tens-2.ensures, c.ones-2.ensures, c.tens-3.ensures, c.ones-3.ensures, c.tens-4.ensures, c.ones-4.ensures)
    (sym (basic_digits date.year date.month date.day c.requires.year two.0 two.1))
