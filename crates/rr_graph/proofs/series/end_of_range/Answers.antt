use Rattle.std.proofs.Common.{arith, subst, ◌≡◌, w64, to_z, of_z}
use Rattle.std.proofs.lemmas.Int.{ints}
use Rattle.rr_model.specs.Graph.Validity.{IsRangeEnd}
use Rattle.rr_model.specs.declared.kind.Kind.TheVariants.{Days}
use Rattle.rr_model.proofs.StartLemmas.{IsDayWithin-start}
use Rattle.rr_graph.proofs.series.end_of_range.Goals as goal

pub moment_at-requires : goal.moment_at-requires
moment_at-requires c =
    let day = c.in-EndDate.day in
    let n = IsDayWithin-start 1000 Days day (subst IsRangeEnd c.in-EndDate.is c.requires.day) in
    let same : to_z w64 (of_z w64 day) ≡ day = omega (arith, ints, n.0, n.1) in
    (omega (arith, ints, same, n.0), omega (arith, ints, same, n.1))
