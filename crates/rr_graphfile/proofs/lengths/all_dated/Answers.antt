use Rattle.std.proofs.Common.{◌≡◌, false, None, rules}
use Rattle.serde_json.specs.View.{view}
use Rattle.rr_graphfile.specs.Items.{is_cancelled}
use Rattle.rr_graphfile.specs.Lengths.{dated_of}
use Rattle.rr_graphfile.specs.Parsed.{turning_in}
use Rattle.rr_graphfile.proofs.LengthLemmas.{none_told, one_more}
use Rattle.rr_graphfile.proofs.lengths.all_dated.Goals as goal

pub returns-in_default : goal.returns-in_default
returns-in_default c =
    let occurs : is_cancelled (view c.event-item.result) ≡ false = search rules in
    let told : None ≡ dated_of (turning_in c.args.turning) (view c.event-item.result) = search rules in
    none_told (turning_in c.args.turning) c.args.exceptions.now c.loop-event.event-index c.event-item.result c.loop-event.dated.items _
    c.loop-event-test.true c.event-item.is occurs c.loop-event.invariant told

pub loop-event-preserved : goal.loop-event-preserved
loop-event-preserved c =
    let occurs : is_cancelled (view c.event-item.result) ≡ false = search rules in
    one_more (turning_in c.args.turning) c.args.exceptions.now c.loop-event.event-index c.event-item.result c.loop-event.dated.items _
    c.loop-event-test.true c.event-item.is occurs c.loop-event.invariant c.in-Some.own c.push.new.self.items c.in-Some.ensures c.in_ok-push.ensures.items
