use Rattle.std.proofs.lemmas.Result.{IfOk-weaker}
use Rattle.rr_trip.specs.Pairs.{series_b}
use Rattle.rr_trip.proofs.KnownLemmas.{found_at}
use Rattle.rr_trip.proofs.ZoneLemmas.{meant_apart, said_of_zones}
use Rattle.rr_trip.proofs.zones.said_by_names.Goals as goal

pub said_by_zones-requires-clause-apart : goal.said_by_zones-requires-clause-apart
said_by_zones-requires-clause-apart g c =
    let ma = g.M.ZoneNames.meaning c.args.names_a.now in
    let mb = g.N.ZoneNames.meaning c.args.names_b.now in
    let indexes = c.in_ok-indexes.indexes in
    let known = c.in_ok-indexes.ensures.known in
    let named = c.in_ok-indexes.ensures.named in
    let x = c.index-zone_a.result.now in
    let y = c.index-zone_b.result.now in
    let of_a = found_at ma c.look_up.new.self.a.zones.items c.args.a.now indexes.a x known.a named.at_a c.index-zone_a.ensures in
    let of_b = found_at mb c.look_up.new.self.b.zones.items c.args.b.now indexes.b y known.b named.at_b c.index-zone_b.ensures in
    meant_apart ma mb x y c.args.a.now c.args.b.now indexes.apart of_a.0 of_b.0 of_a.1 of_b.1 named.apart

pub returns-clause-said : goal.returns-clause-said
returns-clause-said g c =
    let ma = g.M.ZoneNames.meaning c.args.names_a.now in
    let mb = g.N.ZoneNames.meaning c.args.names_b.now in
    let pair = c.args.pair.now in
    let indexes = c.in_ok-indexes.indexes in
    let known = c.in_ok-indexes.ensures.known in
    let named = c.in_ok-indexes.ensures.named in
    let x = c.index-zone_a.result.now in
    let y = c.index-zone_b.result.now in
    let of_a = found_at ma c.look_up.new.self.a.zones.items c.args.a.now indexes.a x known.a named.at_a c.index-zone_a.ensures in
    let of_b = found_at mb c.look_up.new.self.b.zones.items c.args.b.now indexes.b y known.b named.at_b c.index-zone_b.ensures in
    IfOk-weaker c.said_by_zones.result _ _
    (λ told h. said_of_zones ma mb x y c.args.a.now c.args.b.now pair.a.series (series_b pair) told of_a.0 of_b.0 of_a.1 of_b.1 h)
    c.said_by_zones.ensures.said
