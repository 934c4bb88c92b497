use Rattle.std.proofs.Common.{◌≡◌, [], None, Some, rules}
use Rattle.rr_graphfile.proofs.KnownLemmas.{told_of}
use Rattle.rr_graphfile.proofs.known.known_offsets.Goals as goal

pub returns-in-Some-None : goal.returns-in-Some-None
returns-in-Some-None c =
    let some : c.args.name.now ≡ [] → ⊥ = search rules in
    told_of c.args.zones.now c.args.name.now (Some None) some (search rules)

pub returns-in-Some-Some : goal.returns-in-Some-Some
returns-in-Some-Some c =
    let some : c.args.name.now ≡ [] → ⊥ = search rules in
    told_of c.args.zones.now c.args.name.now (Some (Some c.in-Some-Some.offsets)) some (search rules)
