use Rattle.std.proofs.Common.{[], get_or, arith, w64, to_z, of_z, to_z-of_z, FitsSigned}
use Rattle.std.proofs.lemmas.Int.{ints}
use Rattle.std.proofs.lemmas.List.{get_or_default}
use Rattle.rr_lazy.specs.Ahead.{day_seen}
use Rattle.rr_lazy.proofs.ManyLemmas.{least_more, gave_more}
use Rattle.rr_lazy.proofs.many.first_of_all.Goals as goal

pub loop-index-preserved : goal.loop-index-preserved
loop-index-preserved g c =
    let fits : FitsSigned w64 c.lesser-first.result = record { sfits = c.lesser-first.type_inv } in
    let f = to_z-of_z fits in
    let e = c.lesser-first.ensures in
    let i = c.loop-index.invariant in
    let xs = c.args.parts.now in
    let at = get_or_default xs c.loop-index.index c.index-parts-index.result (get_or xs c.loop-index.index c.index-parts-index.result) c.loop-index-test.true in
    rw f (
      omega (arith, ints, e.bound, i.0),
      least_more (λ p. day_seen [] p.ahead) xs c.loop-index.index (to_z w64 c.loop-index.first-bits) c.lesser-first.result
          (get_or xs c.loop-index.index c.index-parts-index.result) c.loop-index-test.true at i.1 e.bound e.least,
      gave_more (λ p. day_seen [] p.ahead) xs c.loop-index.index (to_z w64 c.loop-index.first-bits) c.lesser-first.result (to_z w64 (of_z w64 c.args.from))
          (get_or xs c.loop-index.index c.index-parts-index.result) c.loop-index-test.true at i.2 e.one,
    )
