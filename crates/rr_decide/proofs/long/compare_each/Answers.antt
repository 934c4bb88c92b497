use Rattle.std.proofs.Common.{◌+◌, w64, to_z, of_z, refl, arith}
use Rattle.std.proofs.lemmas.Int.{ints, to_z-of_z}
use Rattle.rr_decide.specs.Question.{shown_by}
use Rattle.rr_model.specs.declared.question.Question.TheVariants.{Equal}
use Rattle.rr_decide.proofs.AlikeLemmas.{none_more, number_at}
use Rattle.rr_decide.proofs.WindowLemmas.{first_one}
use Rattle.rr_decide.proofs.long.compare_each.Goals as goal

pub loop-k-init : goal.loop-k-init
loop-k-init g c = ((λ d low high. c.requires.before d (omega (arith, ints)) (omega (arith, ints))), c.requires.alike)

pub compare_days-requires-clause-first : goal.compare_days-requires-clause-first
compare_days-requires-clause-first g c =
    number_at (g.A.DaySeq.sets c.args.a.now) (g.A.DaySeq.sketch c.args.a.now) c.args.day _ c.args.of_a.now c.loop-k.k _ c.requires.numbers_of_a
    (omega arith) refl (omega (arith, ints))

pub compare_days-requires-clause-second : goal.compare_days-requires-clause-second
compare_days-requires-clause-second g c =
    number_at (g.B.DaySeq.sets c.args.b.now) (g.B.DaySeq.sketch c.args.b.now) c.args.day _ c.args.of_b.now c.loop-k.k _ c.requires.numbers_of_b
    (omega arith) refl (omega (arith, ints))

pub returns-in-Unlike : goal.returns-in-Unlike
returns-in-Unlike g c = (
  first_one (shown_by Equal) (g.A.DaySeq.sketch c.args.a.now) (g.B.DaySeq.sketch c.args.b.now) c.args.day (to_z w64 (of_z w64 c.args.day)) _
      c.in-Unlike.shown.day (c.loop-k.k + 1) c.in-Unlike.shown.second c.in-Unlike.shown.side (to_z-of_z w64 c.args.day c.ranges.day)
      (omega (arith, ints)) c.in-Unlike.ensures.0 c.loop-k.invariant.0 c.in-Unlike.ensures.1,
  omega (arith, ints, c.in-Unlike.ensures.0),
)

pub loop-k-preserved : goal.loop-k-preserved
loop-k-preserved g c = (
  none_more (shown_by Equal) (g.A.DaySeq.sketch c.args.a.now) (g.B.DaySeq.sketch c.args.b.now) (to_z w64 (of_z w64 c.args.day)) _ (c.loop-k.k + 1)
      (omega (arith, ints)) c.loop-k.invariant.0 c.in-Alike.ensures.0,
  c.in-Alike.ensures.1,
)

pub returns : goal.returns
returns g c = (
  (λ d low high. c.loop-k.invariant.0 d (omega (arith, ints)) (omega (arith, ints))),
  c.loop-k.invariant.1,
)
