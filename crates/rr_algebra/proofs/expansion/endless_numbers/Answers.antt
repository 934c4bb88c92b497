use Rattle.std.proofs.Common.{length, map, ap, ◌∙◌, arith}
use Rattle.rr_model.specs.Sets.Reading.{steps_of_runs}
use Rattle.rr_algebra.specs.Dense.{dense}
use Rattle.rr_algebra.specs.Expanded.{AreBoth}
use Rattle.rr_algebra.specs.Found.{run_in}
use Rattle.rr_algebra.proofs.DenseLemmas.{numbers_refused, refused_both}
use Rattle.rr_algebra.proofs.ExpandedLemmas.{both_numbers, both_short, dense_short}
use Rattle.rr_algebra.proofs.expansion.endless_numbers.Goals as goal

pub returns-in-Err : goal.returns-in-Err
returns-in-Err c =
    refused_both c.args.days c.args.period c.args.sets c.args.before.now c.args.cycle.now c.in-Err.fault
    (numbers_refused c.args.days c.args.sets c.args.before.now (AreBoth c.args.days c.args.period c.args.sets c.args.before.now c.args.cycle.now) c.in-Err.fault
    (λ h. h.0) c.in-Err.ensures)

pub fill_up-requires : goal.fill_up-requires
fill_up-requires c =
    let short = dense_short c.args.days c.args.sets 0 0 (steps_of_runs (map run_in c.args.before.now)) c.in-Ok.ensures.1 (omega arith) in
    omega (arith, short, ap length c.in-Ok.ensures.0)

pub fill_up-requires-2 : goal.fill_up-requires-2
fill_up-requires-2 c =
    let before = steps_of_runs (map run_in c.args.before.now) in
    let cycle = steps_of_runs (map run_in c.args.cycle.now) in
    let la = dense_short c.args.days c.args.sets 0 0 before c.in-Ok.ensures.1 (omega arith) in
    let lb = dense_short c.args.period c.args.sets 0 0 cycle c.in-Ok-numbers_of.ensures.1 (omega arith) in
    both_short c.args.days c.args.period (dense 0 0 before) (dense 0 0 cycle) c.in-Ok.numbers.items c.fill_up.new.numbers.items c.add_numbers.new.numbers.items
    c.as_slice.result.now (omega (arith, la)) (omega (arith, lb)) c.in-Ok.ensures.0 c.in_ok-fill_up.ensures
    (c.as_slice.ensures.value ∙ c.in-Ok-numbers_of.ensures.0) c.in_ok-add_numbers.ensures

pub returns : goal.returns
returns c =
    let before = steps_of_runs (map run_in c.args.before.now) in
    let cycle = steps_of_runs (map run_in c.args.cycle.now) in
    let la = dense_short c.args.days c.args.sets 0 0 before c.in-Ok.ensures.1 (omega arith) in
    let lb = dense_short c.args.period c.args.sets 0 0 cycle c.in-Ok-numbers_of.ensures.1 (omega arith) in (
      both_numbers c.args.days c.args.period (dense 0 0 before) (dense 0 0 cycle) c.in-Ok.numbers.items c.fill_up.new.numbers.items
          c.add_numbers.new.numbers.items c.as_slice.result.now (omega (arith, la)) (omega (arith, lb)) c.in-Ok.ensures.0 c.in_ok-fill_up.ensures
          (c.as_slice.ensures.value ∙ c.in-Ok-numbers_of.ensures.0) c.in_ok-add_numbers.ensures c.fill_up-2.new.numbers.items c.in_ok-fill_up-2.ensures,
      (c.in-Ok.ensures.1, c.in-Ok-numbers_of.ensures.1),
    )
