use Rattle.rr_canon.proofs.KeptLemmas.{before_within, cycle_within}
use Rattle.rr_canon.proofs.least_seq.LeastSeq.number_on.Goals as goal

pub returns-then-day-self-clause-within : goal.returns-then-day-self-clause-within
returns-then-day-self-clause-within c =
    let l = c.args.self.now in
    before_within l.sets l.before l.cycle _ c.number_on.result l.in_order c.number_on.ensures

pub returns-clause-within : goal.returns-clause-within
returns-clause-within c =
    let l = c.args.self.now in
    cycle_within l.sets l.before l.cycle _ c.number_on-2.result l.in_order c.number_on-2.ensures
