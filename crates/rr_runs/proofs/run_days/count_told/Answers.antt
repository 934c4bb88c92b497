use Rattle.std.proofs.Common.{sym}
use Rattle.rr_runs.proofs.RunLemmas.{nothing_told}
use Rattle.rr_runs.proofs.run_days.count_told.Goals as goal

pub returns-in-None-clause-counted : goal.returns-in-None-clause-counted
returns-in-None-clause-counted c = λ days is. nothing_told days c.args.day c.args.told c.args.count (sym c.in-None.ensures) is
