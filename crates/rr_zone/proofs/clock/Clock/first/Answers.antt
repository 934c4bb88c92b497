use Rattle.std.proofs.Common.{None, ap, ◌∙◌}
use Rattle.rr_zone.specs.Onsets.{first_of_zone}
use Rattle.rr_zone.proofs.ZoneLemmas.{firsts_are}
use Rattle.rr_zone.proofs.clock.Clock.first.Goals as goal

pub returns : goal.returns
returns c =
    (rw c.deref.ensures.value at c.first_of_all.ensures)
    ∙ firsts_are c.self.inside.last c.self.inside.zone c.self.inside.tables.items c.self.invariant.each None
    ∙ ap (λ zone. first_of_zone None zone) c.self.view_is
