use Rattle.std.proofs.Common.{arith, w64, to_z, of_z}
use Rattle.std.proofs.lemmas.Int.{ints}
use Rattle.rr_family.proofs.WalkLemmas.{endless_if, none_after_period}
use Rattle.rr_family.proofs.window.end_of.Goals as goal

pub cycle_of-requires : goal.cycle_of-requires
cycle_of-requires g c =
    let value = c.settled-settled.ensures.value in
    let near = c.settled-settled.ensures.near in
    endless_if (g.A.DaySeq.sketch c.args.seq.now) (to_z w64 (of_z w64 c.settled-settled.result)) c.in-Some.field-0 c.period.result
    (g.met.A.DaySeq.bounded c.args.seq.now).valid (omega (arith, ints, value, near.0, near.1)) c.in-Some.ensures

pub last_of-requires-clause-none_after : goal.last_of-requires-clause-none_after
last_of-requires-clause-none_after g c =
    let value = c.settled-settled.ensures.value in
    let near = c.settled-settled.ensures.near in
    none_after_period (g.A.DaySeq.sketch c.args.seq.now) (to_z w64 (of_z w64 c.settled-settled.result)) c.period.result
    (g.met.A.DaySeq.bounded c.args.seq.now).valid (omega (arith, ints, value, near.0, near.1)) c.period.ensures.value c.in-None.ensures
