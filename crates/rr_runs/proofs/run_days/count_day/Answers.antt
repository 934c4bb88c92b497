use Rattle.std.proofs.Common.{◌+◌, ap, ◌∙◌, arith, refl}
use Rattle.std.proofs.lemmas.Int.{ints}
use Rattle.rr_runs.specs.Runs.{change}
use Rattle.rr_runs.proofs.RunLemmas.{count_more}
use Rattle.rr_runs.proofs.run_days.count_day.Goals as goal

pub returns-clause-counted : goal.returns-clause-counted
returns-clause-counted c = λ days is.
    count_more days c.args.count _ c.args.day c.args.number c.if-count-eq0.false
    (ap (λ n. c.args.count.runs + n) (c.change.ensures.value ∙ ap (λ g. change g c.args.number c.args.count.gap c.args.count.number) (omega (arith, ints))))
    (omega (arith, ints)) (omega (arith, ints)) refl is
