use Rattle.std.proofs.lemmas.Result.{IfOk-weaker}
use Rattle.rr_trip.proofs.FeatureLemmas.{times_meant}
use Rattle.rr_trip.proofs.features.times_named.Goals as goal

pub returns-clause-times : goal.returns-clause-times
returns-clause-times g c =
    IfOk-weaker c.times_in.result _ _
    (λ times h. times_meant (g.N.ZoneNames.meaning c.args.names.now) c.index_of.new.self.zones.items c.args.name.now c.in_ok-index.index c.index-zone.result.now
    c.args.key.now.series times c.in_ok-index.ensures.known c.in_ok-index.ensures.index c.index-zone.ensures h)
    c.times_in.ensures
