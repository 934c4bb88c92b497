use Rattle.rr_setpos.proofs.SelectLemmas.{rank_in_hour, at_rank_in_hour}
use Rattle.rr_setpos.proofs.select.nth_in_hour.Goals as goal

pub nonzero_div-rank : goal.nonzero_div-rank
nonzero_div-rank c = rw c.before_in_minute-each.ensures.value
    (rank_in_hour c.args.rule.now c.args.own.hour c.args.own.minute c.args.own.second c.args.rank c.requires).0

pub nth_allowed-minute-requires : goal.nth_allowed-minute-requires
nth_allowed-minute-requires c = rw (c.before_in_minute-each.ensures.value, c.wants_minute.ensures)
    (rank_in_hour c.args.rule.now c.args.own.hour c.args.own.minute c.args.own.second c.args.rank c.requires).1

pub nonzero_rem-rank : goal.nonzero_rem-rank
nonzero_rem-rank c = rw c.before_in_minute-each.ensures.value
    (rank_in_hour c.args.rule.now c.args.own.hour c.args.own.minute c.args.own.second c.args.rank c.requires).0

pub nth_allowed-second-requires : goal.nth_allowed-second-requires
nth_allowed-second-requires c = rw (c.before_in_minute-each.ensures.value, c.wants_second.ensures)
    (rank_in_hour c.args.rule.now c.args.own.hour c.args.own.minute c.args.own.second c.args.rank c.requires).2

pub returns-clause-rank : goal.returns-clause-rank
returns-clause-rank c =
    let own = c.args.own in
    let last = c.nth_allowed-second in
    rw (c.from.ensures, c.from-2.ensures)
    (at_rank_in_hour c.args.rule.now own.hour own.minute own.second c.args.rank c.nth_allowed-minute.result last.result last.ensures.within
    (rw c.wants_minute.ensures at c.nth_allowed-minute.ensures.allowed)
    (rw (c.before_in_minute-each.ensures.value, c.wants_minute.ensures) at c.nth_allowed-minute.ensures.rank)
    (rw (c.before_in_minute-each.ensures.value, c.wants_second.ensures) at c.nth_allowed-second.ensures.rank))
