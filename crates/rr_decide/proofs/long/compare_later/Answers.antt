use Rattle.std.proofs.Common.{w64, to_z, of_z, arith}
use Rattle.std.proofs.lemmas.Int.{ints, to_z-of_z}
use Rattle.rr_decide.proofs.AlikeLemmas.{length_of_first, numbers_of_first}
use Rattle.rr_decide.proofs.long.compare_later.Goals as goal

pub compare_numbers-requires-clause-few_days : goal.compare_numbers-requires-clause-few_days
compare_numbers-requires-clause-few_days g c =
    omega (arith, c.requires.few_days, length_of_first _ _ _ c.read_numbers-of_a.ensures.numbers (omega arith))

pub compare_numbers-requires-clause-one_length : goal.compare_numbers-requires-clause-one_length
compare_numbers-requires-clause-one_length g c =
    omega (
      arith,
      length_of_first _ _ _ c.read_numbers-of_a.ensures.numbers (omega arith),
      length_of_first _ _ _ c.read_numbers-of_b.ensures.numbers (omega arith),
    )

pub compare_numbers-requires-clause-numbers_of_a : goal.compare_numbers-requires-clause-numbers_of_a
compare_numbers-requires-clause-numbers_of_a g c =
    numbers_of_first (g.A.DaySeq.sets c.args.a.now) (g.A.DaySeq.sketch c.args.a.now) (to_z w64 (of_z w64 c.args.day)) c.days_after-later_a.result.numbers.now
    c.read_numbers-of_a.result.now _ c.read_numbers-of_a.ensures.numbers c.days_after-later_a.ensures

pub compare_numbers-requires-clause-numbers_of_b : goal.compare_numbers-requires-clause-numbers_of_b
compare_numbers-requires-clause-numbers_of_b g c =
    numbers_of_first (g.B.DaySeq.sets c.args.b.now) (g.B.DaySeq.sketch c.args.b.now) (to_z w64 (of_z w64 c.args.day)) c.days_after-later_b.result.numbers.now
    c.read_numbers-of_b.result.now _ c.read_numbers-of_b.ensures.numbers c.days_after-later_b.ensures

pub compare_numbers-requires-clause-first : goal.compare_numbers-requires-clause-first
compare_numbers-requires-clause-first g c = λ d low high. c.requires.first d (omega (arith, ints)) (omega (arith, ints))

pub returns-in-Unlike-clause-run : goal.returns-in-Unlike-clause-run
returns-in-Unlike-clause-run g c = rw (to_z-of_z w64 c.args.day c.ranges.day) at c.in-Unlike.ensures

pub returns-in-Unlike-clause-few : goal.returns-in-Unlike-clause-few
returns-in-Unlike-clause-few g c =
    omega (arith, c.requires.some, c.read_numbers-of_a.ensures.step, c.read_numbers-of_b.ensures.step)

pub returns-in-Alike-clause-run : goal.returns-in-Alike-clause-run
returns-in-Alike-clause-run g c = (
  omega arith,
  omega (arith, c.requires.some),
  (λ d low high.
      c.in-Alike.ensures.0 d (omega (arith, ints))
      (omega (arith, ints, length_of_first _ _ _ c.read_numbers-of_a.ensures.numbers (omega arith)))),
  c.in-Alike.ensures.1,
)

pub returns-in-Alike-clause-few : goal.returns-in-Alike-clause-few
returns-in-Alike-clause-few g c =
    omega (arith, c.requires.some, c.read_numbers-of_a.ensures.step, c.read_numbers-of_b.ensures.step)
