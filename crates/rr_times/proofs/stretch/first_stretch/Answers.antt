use Rattle.std.proofs.Common.{◌<◌, ◌+◌, ◌-◌, ◌^◌, sym, ap, ◌∙◌, arith, rules}
use Rattle.rr_model.proofs.RisingSetLemmas.{rising_at, length-le_bound}
use Rattle.rr_times.specs.Items.{stretch_of}
use Rattle.rr_times.proofs.ItemLemmas.{alone_at_end}
use Rattle.rr_times.proofs.stretch.first_stretch.Goals as goal

pub returns-then-seconds-from-lt3-clause-item : goal.returns-then-seconds-from-lt3-clause-item
returns-then-seconds-from-lt3-clause-item c =
    let same = alone_at_end c.args.seconds.now c.args.from c.requires.within (omega (arith, c.if-seconds-from-lt3.true, c.requires.within)) in
    ap stretch_of c.single.ensures ∙ sym same

pub overflow_sub-step : goal.overflow_sub-step
overflow_sub-step c =
    let l = rising_at c.args.seconds.now c.requires.of_day.rises c.args.from (c.args.from + 1) (omega arith) (omega (arith, c.if-seconds-from-lt3.false)) in
    omega (arith, l)

pub overflow_cast-result : goal.overflow_cast-result
overflow_cast-result c =
    let few = length-le_bound c.args.seconds.now 86_400 c.requires.of_day.rises c.requires.of_day.below_a_day in
    let fits : c.row_end-end.result - c.args.from < 2 ^ 32 = omega (arith, few, c.row_end-end.ensures.few) in
    search rules
