use Rattle.std.proofs.Common.{arith, subst}
use Rattle.rr_graphfile.specs.Known.{HasName}
use Rattle.rr_graphfile.proofs.KnownLemmas.{all_names, more_names}
use Rattle.rr_graphfile.proofs.known.zones_of_items.Goals as goal

pub loop-event-preserved : goal.loop-event-preserved
loop-event-preserved g c = (
  c.in_ok-learn.ensures.meant,
  more_names c.loop-event.zones c.learn.new.zones c.args.items.now c.loop-event.event-index c.event-item.result c.loop-event-test.true c.event-item.is
      c.in_ok-learn.ensures.keeps (subst (HasName c.learn.new.zones) c.turning_name.ensures c.in_ok-learn.ensures.has) c.loop-event.invariant.1,
)

pub returns : goal.returns
returns g c =
    all_names (g.N.ZoneNames.meaning c.args.names.now) c.loop-event.zones c.args.items.now c.loop-event.event-index (omega (arith, c.loop-event-test.false))
    c.loop-event.invariant.0 c.loop-event.invariant.1
