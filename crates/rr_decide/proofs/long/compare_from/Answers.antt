use Rattle.std.proofs.Common.{w64, to_z, of_z, arith}
use Rattle.std.proofs.lemmas.Int.{ints}
use Rattle.rr_decide.specs.Question.{shown_by}
use Rattle.rr_model.specs.declared.question.Question.TheVariants.{Equal}
use Rattle.rr_decide.proofs.AlikeLemmas.{days_of_more, free_here, run_of_more}
use Rattle.rr_decide.proofs.MergeLemmas.{none_below_equal}
use Rattle.rr_decide.proofs.WindowLemmas.{none_while_free}
use Rattle.rr_decide.proofs.long.compare_from.Goals as goal

pub returns-then-free_a-eq0-clause-few : goal.returns-then-free_a-eq0-clause-few
returns-then-free_a-eq0-clause-few g c =
    omega (
      arith,
      c.read_free-free_a.ensures.step,
      c.read_number-of_a.ensures.step,
      c.read_number-of_b.ensures.step,
      c.compare_row.ensures.few,
      c.if-free_a-eq0.true,
    )

pub compare_row-requires-then-free_b-eq0-clause-first : goal.compare_row-requires-then-free_b-eq0-clause-first
compare_row-requires-then-free_b-eq0-clause-first g c =
    free_here (g.A.DaySeq.sketch c.args.a.now) (to_z w64 (of_z w64 c.args.day)) _ c.read_free-free_a.result (omega (arith, ints)) c.read_free-free_a.ensures.free
    (omega (arith, c.if-free_a-eq0.false))

pub returns-then-free_b-eq0-clause-run : goal.returns-then-free_b-eq0-clause-run
returns-then-free_b-eq0-clause-run g c =
    run_of_more (g.A.DaySeq.sets c.args.a.now) (g.B.DaySeq.sets c.args.b.now)
    (g.A.DaySeq.sketch c.args.a.now) (g.B.DaySeq.sketch c.args.b.now)
    c.args.day _ c.args.most c.compare_row-then-free_b-eq0.result (omega (arith, ints)) c.requires.some c.compare_row-then-free_b-eq0.ensures.run

pub returns-then-free_b-eq0-clause-few : goal.returns-then-free_b-eq0-clause-few
returns-then-free_b-eq0-clause-few g c =
    omega (
      arith,
      days_of_more c.args.most c.compare_row-then-free_b-eq0.result c.requires.some,
      c.read_free-free_a.ensures.step,
      c.read_free-free_b.ensures.step,
      c.read_number-of_b-then-free_b-eq0.ensures.step,
      c.compare_row-then-free_b-eq0.ensures.few,
      c.if-free_b-eq0.true,
    )

pub returns-clause-run : goal.returns-clause-run
returns-clause-run g c = (
  omega (arith, c.min.ensures, c.min-2.ensures, c.requires.some, c.if-free_a-eq0.false, c.if-free_b-eq0.false),
  omega (arith, c.min-2.ensures),
  none_while_free (shown_by Equal) (g.A.DaySeq.sketch c.args.a.now) (g.B.DaySeq.sketch c.args.b.now) c.args.day
      (to_z w64 (of_z w64 c.args.day)) c.read_free-free_a.result c.read_free-free_b.result c.min.result c.min-2.result
      (omega (arith, ints)) (none_below_equal c.read_free-free_a.result c.read_free-free_b.result c.min.result c.min.ensures)
      c.read_free-free_a.ensures.free c.read_free-free_b.ensures.free (omega (arith, c.min-2.ensures)),
  c.requires.alike,
)
