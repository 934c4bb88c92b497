use Rattle.std.proofs.Common.{arith}
use Rattle.std.proofs.lemmas.Int.{ints}
use Rattle.rr_model.specs.declared.kind.Kind.TheVariants.{Days}
use Rattle.rr_model.proofs.StartLemmas.{IsDayWithin-start}
use Rattle.rr_split.proofs.begun.starts_on_pattern.Goals as goal

pub new-start-requires : goal.new-start-requires
new-start-requires c =
    let within = IsDayWithin-start 1000 Days c.args.range.now.start_day c.requires.year in
    record { near = (omega (arith, ints, within.0, within.1), omega (arith, ints, within.0, within.1)) }

pub is_pattern_day-requires-clause-near : goal.is_pattern_day-requires-clause-near
is_pattern_day-requires-clause-near c =
    let within = IsDayWithin-start 0 Days c.args.range.now.start_day c.requires.year in
    let same = c.new-start.ensures in
    (omega (arith, ints, same, within.0, within.1), omega (arith, ints, same, within.0, within.1))
