use Rattle.std.proofs.Common.{ℤ}
use Rattle.rr_model.specs.Series.Limits.{IsCountedTooFar}
use Rattle.rr_iter.specs.declared.settled.Settled.{Settled}
use Rattle.rr_iter.proofs.SettledLemmas.{refused_as}
use Rattle.rr_iter.proofs.settled.ends.Goals as goal

pub returns-in-Err-clause-refused : goal.returns-in-Err-clause-refused
returns-in-Err-clause-refused c =
    refused_as Settled ℤ c.in-Err.fault (IsCountedTooFar c.args.series.now) (IsCountedTooFar c.args.series.now) (λ far. far) c.in-Err.ensures.refused
