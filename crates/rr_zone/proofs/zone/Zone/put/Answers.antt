use Rattle.std.proofs.lemmas.List.Elements.{All-push}
use Rattle.rr_zone.specs.Observances.{IsSoundObservance}
use Rattle.rr_zone.proofs.zone.Zone.put.Goals as goal

pub invariant_of-self-2 : goal.invariant_of-self-2
invariant_of-self-2 c = rw c.in_ok-push.ensures.items (All-push IsSoundObservance _ _ c.self.invariant c.requires)
