use Rattle.std.proofs.Common.{◌∷◌, ap, sym}
use Rattle.std.proofs.lemmas.Fmt.{decimal_digit}
use Rattle.std.proofs.lemmas.Result.{on_ok_weaker}
use Rattle.rr_canon.proofs.AppendLemmas.{appended_as}
use Rattle.rr_canon.proofs.lines.write_part.Goals as goal

pub returns-then-number-lt10 : goal.returns-then-number-lt10
returns-then-number-lt10 g c =
    on_ok_weaker c.write_all.result
    (appended_as _ _ _ _ (ap (λ d. c.args.before ∷ d) (sym (decimal_digit c.args.number c.if-number-lt10.true)))) c.write_all.ensures.bytes
