use Rattle.rr_find.proofs.ApartLemmas.{no_rule_if_left_out}
use Rattle.rr_find.proofs.search.find_of.Goals as goal

pub returns-then-leave_out : goal.returns-then-leave_out
returns-then-leave_out g c =
    no_rule_if_left_out (g.A.DaySeq.sketch c.args.seq.now) c.args.window.now c.args.divisors.now c.args.kind c.family_freq.result c.args.interval
    (g.met.A.DaySeq.bounded c.args.seq.now).valid c.requires.window c.requires.near c.requires.divisors c.family_freq.ensures.value c.requires.low
    c.requires.below (c.leave_out.ensures c.if-leave_out.true)
