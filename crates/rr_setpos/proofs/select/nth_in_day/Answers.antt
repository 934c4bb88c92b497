use Rattle.rr_setpos.proofs.SelectLemmas.{rank_in_day, at_rank_in_day, allowed_in_day}
use Rattle.rr_setpos.proofs.select.nth_in_day.Goals as goal

pub nonzero_div-rank : goal.nonzero_div-rank
nonzero_div-rank c = rw c.before_in_hour-each.ensures.value
    (rank_in_day c.args.rule.now c.args.own.hour c.args.own.minute c.args.own.second c.args.rank c.requires).0

pub nth_allowed-hour-requires : goal.nth_allowed-hour-requires
nth_allowed-hour-requires c = rw (c.before_in_hour-each.ensures.value, c.wants_hour.ensures)
    (rank_in_day c.args.rule.now c.args.own.hour c.args.own.minute c.args.own.second c.args.rank c.requires).1

pub nonzero_rem-rank : goal.nonzero_rem-rank
nonzero_rem-rank c = rw c.before_in_hour-each.ensures.value
    (rank_in_day c.args.rule.now c.args.own.hour c.args.own.minute c.args.own.second c.args.rank c.requires).0

pub nth_in_hour-requires : goal.nth_in_hour-requires
nth_in_hour-requires c = rw c.before_in_hour-each.ensures.value
    (rank_in_day c.args.rule.now c.args.own.hour c.args.own.minute c.args.own.second c.args.rank c.requires).2

pub returns-clause-holds : goal.returns-clause-holds
returns-clause-holds c =
    let own = c.args.own in
    rw c.from.ensures
    (allowed_in_day c.args.rule.now own.hour own.minute own.second c.nth_allowed-hour.result c.nth_in_hour.result c.nth_in_hour.ensures.within
    (rw c.wants_hour.ensures at c.nth_allowed-hour.ensures.allowed) c.nth_in_hour.ensures.holds)

pub returns-clause-rank : goal.returns-clause-rank
returns-clause-rank c =
    let own = c.args.own in
    let rest = c.nth_in_hour in
    rw c.from.ensures
    (at_rank_in_day c.args.rule.now own.hour own.minute own.second c.args.rank c.nth_allowed-hour.result rest.result rest.ensures.within
    (rw c.wants_hour.ensures at c.nth_allowed-hour.ensures.allowed)
    (rw (c.before_in_hour-each.ensures.value, c.wants_hour.ensures) at c.nth_allowed-hour.ensures.rank)
    (rw c.before_in_hour-each.ensures.value at c.nth_in_hour.ensures.rank))
