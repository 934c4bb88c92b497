use Rattle.rr_trip.proofs.known.KnownZones.look_up.Goals as goal

pub returns-clause-known : goal.returns-clause-known
returns-clause-known g c =
    let ma = g.M.ZoneNames.meaning c.args.names_a.now in
    let mb = g.N.ZoneNames.meaning c.args.names_b.now in
    c.in_ok-apart.ensures.known ma mb (record { a = c.in_ok-of_a.ensures.known; b = c.in_ok-of_b.ensures.known; pairs = c.requires.pairs })
