use Rattle.std.proofs.lemmas.List.Elements.{All-push}
use Rattle.rr_model.specs.Graph.Validity.{IsValidGraphEvent}
use Rattle.rr_guess.proofs.events.Events.put.Goals as goal

pub invariant_of-self-2 : goal.invariant_of-self-2
invariant_of-self-2 c = rw c.in_ok-push.ensures.items (All-push IsValidGraphEvent _ _ c.self.invariant c.requires)
