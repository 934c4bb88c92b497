use Rattle.std.proofs.Common.{subst}
use Rattle.rr_model.specs.declared.rule.Series.{Series}
use Rattle.rr_start.specs.Start.{IsReread}
use Rattle.rr_lenient.proofs.lenient.read_leniently.Goals as goal

pub returns-clause-read : goal.returns-clause-read
returns-clause-read c =
    let read = c.in_ok-read.read in
    (c.in_ok-settled.ensures.until, subst (λ (given : Series). IsReread given read.series read.off) c.in_ok-settled.ensures.settled c.in_ok-read.ensures.read)
