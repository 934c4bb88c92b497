use Rattle.rr_expand.proofs.KeptMaskLemmas.{AreKeys}
use Rattle.rr_expand.proofs.allowed_days.KeptMasks.new.Given as goal

abbrev pub invariant-loop : goal.invariant-loop
invariant-loop l = AreKeys l.counter l.kept.items
