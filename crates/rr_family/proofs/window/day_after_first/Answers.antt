use Rattle.std.proofs.Common.{arith}
use Rattle.std.proofs.lemmas.Int.{ints}
use Rattle.rr_family.proofs.WalkLemmas.{second_day}
use Rattle.rr_family.proofs.window.day_after_first.Goals as goal

pub returns-clause-next : goal.returns-clause-next
returns-clause-next g c =
    let s = g.A.DaySeq.sketch c.args.seq.now in
    let near = c.requires.near in
    let known = c.days_known.ensures in
    second_day s c.args.first _ c.days_known.result c.next_occupied.result (g.met.A.DaySeq.bounded c.args.seq.now).valid c.requires.first
    (omega (arith, ints, near.0, near.1)) (omega (arith, ints, known.settled, near.0, near.1)) known.some c.next_occupied.ensures
