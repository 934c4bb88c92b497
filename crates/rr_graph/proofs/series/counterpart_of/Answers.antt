use Rattle.std.proofs.Common.{arith}
use Rattle.std.proofs.lemmas.Int.{ints}
use Rattle.rr_model.specs.declared.kind.Kind.TheVariants.{Days}
use Rattle.rr_model.proofs.StartLemmas.{IsDayWithin-start}
use Rattle.rr_graph.proofs.series.counterpart_of.Goals as goal

pub moment_at-start-requires : goal.moment_at-start-requires
moment_at-start-requires c =
    let n = IsDayWithin-start 1000 Days _ c.first_day.ensures.near in
    (omega (arith, ints, n.0), omega (arith, ints, n.1))
