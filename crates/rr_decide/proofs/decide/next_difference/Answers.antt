use Rattle.std.proofs.Common.{w64, to_z, of_z, arith}
use Rattle.std.proofs.lemmas.Int.{ints, clamps, to_z-of_z}
use Rattle.rr_decide.proofs.WindowLemmas.{equal_if_none, least_equal_window}
use Rattle.rr_decide.proofs.decide.next_difference.Goals as goal

pub days_until-requires-clause-order : goal.days_until-requires-clause-order
days_until-requires-clause-order g c = omega (arith, ints, clamps)

pub days_until-requires-clause-near : goal.days_until-requires-clause-near
days_until-requires-clause-near g c =
    omega (arith, ints, clamps, c.requires.low, c.settled.ensures.near.0, c.settled.ensures.near.1, c.settled-2.ensures.near.0, c.settled-2.ensures.near.1)

pub returns-clause-none : goal.returns-clause-none
returns-clause-none g c =
    let s = g.A.DaySeq.sketch c.args.a.now in
    let u = g.B.DaySeq.sketch c.args.b.now in
    let vs = (g.met.A.DaySeq.bounded c.args.a.now).valid in
    let vu = (g.met.B.DaySeq.bounded c.args.b.now).valid in
    equal_if_none s u c.args.from (to_z w64 (of_z w64 c.args.from)) c.max-last.result _ c.equal_days.result c.first_day_shown.result vs vu
    (least_equal_window s u _ _ _ vs vu c.period.ensures.value c.period-2.ensures.value c.equal_days.ensures)
    (omega (arith, ints, clamps)) (omega (arith, ints, clamps)) (omega (arith, ints, clamps)) (to_z-of_z w64 c.args.from c.ranges.from)
    (omega (arith, ints, c.days_until.ensures.value)) c.first_day_shown.ensures.none
