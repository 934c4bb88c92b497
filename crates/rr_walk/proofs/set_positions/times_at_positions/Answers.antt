use Rattle.std.proofs.Common.{arith, sym}
use Rattle.rr_walk.proofs.SetPositionLemmas.{few_candidates, positions_of_day}
use Rattle.rr_walk.proofs.set_positions.times_at_positions.Goals as goal

pub overflow_mul-before : goal.overflow_mul-before
overflow_mul-before c = omega (
  arith,
  few_candidates c.args.rank c.args.times.now c.as_slice-times.result.now
      (omega (arith, c.requires.rank, c.requires.count)) c.as_slice-times.ensures.same c.as_slice-times.ensures.of_day,
)

pub overflow_mul-size : goal.overflow_mul-size
overflow_mul-size c = omega (
  arith,
  few_candidates c.args.count c.args.times.now c.as_slice-times.result.now c.requires.count c.as_slice-times.ensures.same c.as_slice-times.ensures.of_day,
)

pub overflow_cast-before : goal.overflow_cast-before
overflow_cast-before c = omega (
  arith,
  few_candidates c.args.rank c.args.times.now c.as_slice-times.result.now
      (omega (arith, c.requires.rank, c.requires.count)) c.as_slice-times.ensures.same c.as_slice-times.ensures.of_day,
)

pub overflow_cast-size : goal.overflow_cast-size
overflow_cast-size c = omega (
  arith,
  few_candidates c.args.count c.args.times.now c.as_slice-times.result.now c.requires.count c.as_slice-times.ensures.same c.as_slice-times.ensures.of_day,
)

pub of-requires : goal.of-requires
of-requires c = rw c.as_slice.ensures.value
    (positions_of_day c.as_slice-times.result.now c.in_ok-chosen.chosen _ _ c.args.positions.now _
    (rw (sym c.as_slice-times.ensures.same) at c.as_slice-times.ensures.of_day) c.in_ok-chosen.ensures)
