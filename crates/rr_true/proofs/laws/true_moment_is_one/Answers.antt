use Rattle.rr_true.proofs.MomentLemmas.{true_is_one}
use Rattle.rr_true.proofs.laws.true_moment_is_one.Goals as goal

pub returns : goal.returns
returns c = true_is_one
