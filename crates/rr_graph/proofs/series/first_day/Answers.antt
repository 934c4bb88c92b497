use Rattle.std.proofs.Common.{arith, sym, ◌∙◌, ◌≡◌, w64, to_z, of_z}
use Rattle.std.proofs.lemmas.Int.{ints}
use Rattle.rr_model.specs.declared.kind.Kind.TheVariants.{Days}
use Rattle.rr_model.proofs.StartLemmas.{IsDayWithin-start}
use Rattle.rr_pattern.proofs.FirstDayLemmas.{first_in_years}
use Rattle.rr_graph.proofs.series.first_day.Goals as goal

pub returns-in-Some-clause-near : goal.returns-in-Some-clause-near
returns-in-Some-clause-near c =
    let day = c.in-Some.day in
    let y = first_in_years c.args.pattern.now c.args.range.now day c.requires.start (sym c.first_repeat_day.ensures ∙ c.in-Some.is) in
    let n = IsDayWithin-start 0 Days day y in
    let same : to_z w64 (of_z w64 day) ≡ day = omega (arith, ints, n.0, n.1) in
    (omega (arith, ints, same, y.0), omega (arith, ints, same, y.1))
