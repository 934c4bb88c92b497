use Rattle.std.proofs.Common.{arith}
use Rattle.std.proofs.lemmas.Int.{ints}
use Rattle.rr_family.proofs.WalkLemmas.{one_second_for_ever}
use Rattle.rr_family.proofs.window.one_second.Goals as goal

pub returns-then-has_one_second : goal.returns-then-has_one_second
returns-then-has_one_second g c =
    let near = c.requires.near in
    let known = c.days_known.ensures in
    one_second_for_ever (g.A.DaySeq.sketch c.args.seq.now) c.args.first c.in_ok-second.second c.days_known.result
    (g.met.A.DaySeq.bounded c.args.seq.now).valid c.requires.first (omega (arith, ints, known.settled, near.0, near.1)) known.some
    (λ d l h. c.has_one_second.ensures.0 c.if-has_one_second.true d (omega (arith, ints, l, near.0, near.1)) (omega (arith, ints, h, near.0, near.1)))
