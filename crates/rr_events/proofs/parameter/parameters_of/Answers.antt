use Rattle.std.proofs.Common.{arith, sym, false}
use Rattle.rr_events.proofs.ParameterLemmas.{after_colon-shorter}
use Rattle.rr_events.proofs.parameter.parameters_of.Goals as goal

pub overflow_sub-result : goal.overflow_sub-result
overflow_sub-result c =
    omega (arith, after_colon-shorter false c.name_and_rest.result.1.now c.in-Some.after.now (sym c.in-Some.ensures))

pub slice_bounds-result-count : goal.slice_bounds-result-count
slice_bounds-result-count c =
    omega (arith, after_colon-shorter false c.name_and_rest.result.1.now c.in-Some.after.now (sym c.in-Some.ensures))
