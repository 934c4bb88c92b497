use Rattle.rr_zone.specs.Zones.{raw_lines_in}
use Rattle.rr_zone.proofs.LocalLemmas.{put_by_start, told_by_start}
use Rattle.rr_zone.proofs.local.push_part.Goals as goal

pub returns-in-Event-clause-value : goal.returns-in-Event-clause-value
returns-in-Event-clause-value c = λ events is.
    rw c.in-Event.is
    (put_by_start c.args.clocks.now events c.push_event.result c.in-Event.event (raw_lines_in c.args.part.now.piece) c.args.out.now.items
    c.push_event.new.out.items c.turning_start-start.result.now (c.turning_start-start.ensures events is) c.push_event.ensures.value)

pub returns-in-Event-clause-turned : goal.returns-in-Event-clause-turned
returns-in-Event-clause-turned c = λ events is.
    rw c.in-Event.is
    (told_by_start c.args.clocks.now events c.push_event.result c.in-Event.event c.turning_start-start.result.now (c.turning_start-start.ensures events is)
    c.push_event.ensures.turned)
