use Rattle.std.proofs.Common.{◌<◌, ◌∙◌, Option, Some, ap, length, sym}
use Rattle.rr_trip.specs.Shown.{has_partner_key}
use Rattle.rr_trip.specs.declared.found.Found.{Found}
use Rattle.rr_trip.proofs.ShownLemmas.{has_key_at}
use Rattle.rr_trip.proofs.name.has_partner_key.Goals as goal

pub returns-in-Some : goal.returns-in-Some
returns-in-Some c =
    let groups = c.args.groups.now in
    let key = c.args.key.now in
    let below : c.in-Some.found.index < length groups = rw c.in-Some.is at c.requires in
    c.is_key.ensures ∙ has_key_at groups key c.in-Some.found.index c.index-groups-found.result below
    ∙ ap (λ (o : Option Found). has_partner_key groups key (Some o)) (sym c.in-Some.is)
