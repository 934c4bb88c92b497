use Rattle.std.proofs.Common.{◌≡◌, arith}
use Rattle.std.proofs.lemmas.Int.{ints}
use Rattle.rr_graphfind.proofs.RefusalLemmas.{divides_if}
use Rattle.rr_graphfind.proofs.refusal.fits_cycle.Goals as goal

pub returns-then-start-first : goal.returns-then-start-first
returns-then-start-first c =
    let same : c.args.start ≡ c.args.first = omega (arith, ints, c.if-start-first.true) in
    let test = divides_if c.args.period c.args.cycle in
    (λ h. (test.0 h, same), λ h. test.1 h.0)
