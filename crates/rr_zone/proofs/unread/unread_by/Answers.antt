use Rattle.rr_zone.proofs.UnreadLemmas.{told_at}
use Rattle.rr_zone.proofs.unread.unread_by.Goals as goal

pub returns-clause-value : goal.returns-clause-value
returns-clause-value c = λ events is.
    told_at c.args.clocks.now events c.unread_at.result c.args.event.now c.turning_start.result.now (c.turning_start.ensures events is)
    c.unread_at.ensures.value
