use Rattle.rr_events.proofs.LineLemmas.{one-begun, one-longer}
use Rattle.rr_events.proofs.cut.cut_line.Goals as goal

pub loop-more-init : goal.loop-more-init
loop-more-init c = one-begun c.args.number c.args.text.now _ c.in_ok-of.field-0 c.in-Some-take_line.after.now c.in_ok-of.ensures c.in-Some-take_line.ensures

pub loop-more-preserved : goal.loop-more-preserved
loop-more-preserved c =
    one-longer c.args.number c.args.text.now c.loop-more.line c.loop-more.rest.now c.in-Some-take_continuation.more.now c.append.new.self
    c.in-Some-take_continuation.after.now c.loop-more.next c.in_ok-append.ensures.ok c.loop-more.invariant c.in-Some-take_continuation.ensures

pub returns-in-Some : goal.returns-in-Some
returns-in-Some c = c.empty_cut.ensures c.args.text.now c.in-Some.ensures
