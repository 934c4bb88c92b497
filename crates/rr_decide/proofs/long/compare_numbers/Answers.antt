use Rattle.std.proofs.Common.{w64, to_z, of_z, arith}
use Rattle.std.proofs.lemmas.Int.{ints, to_z-of_z}
use Rattle.rr_decide.proofs.AlikeLemmas.{none_in_blocks}
use Rattle.rr_decide.proofs.long.compare_numbers.Goals as goal

pub loop-from-init : goal.loop-from-init
loop-from-init g c = (omega arith, (λ d low high. c.requires.first d (omega (arith, ints)) (omega (arith, ints))), c.requires.alike)

pub compare_each-requires-clause-before : goal.compare_each-requires-clause-before
compare_each-requires-clause-before g c =
    none_in_blocks (g.A.DaySeq.sets c.args.a.now) (g.B.DaySeq.sets c.args.b.now) (g.A.DaySeq.sketch c.args.a.now) (g.B.DaySeq.sketch c.args.b.now)
    c.args.day (to_z w64 (of_z w64 c.args.day)) c.args.of_a.now c.args.of_b.now c.loop-from.alike c.loop-from.from c.pass_blocks-block.result
    (to_z-of_z w64 c.args.day c.ranges.day) c.requires.numbers_of_a c.requires.numbers_of_b (omega arith) (omega arith) c.loop-from.invariant.2
    c.pass_blocks-block.ensures.has c.loop-from.invariant.1

pub returns-in-Unlike : goal.returns-in-Unlike
returns-in-Unlike g c = rw (to_z-of_z w64 c.args.day c.ranges.day) at c.in-Unlike.ensures

pub loop-from-preserved : goal.loop-from-preserved
loop-from-preserved g c = (
  omega arith,
  (λ d low high. c.in-Alike.ensures.0 d (omega (arith, ints)) (omega (arith, ints))),
  c.in-Alike.ensures.1,
)

pub returns : goal.returns
returns g c = (
  (λ d low high. c.loop-from.invariant.1 d (omega (arith, ints)) (omega (arith, ints))),
  c.loop-from.invariant.2,
)
