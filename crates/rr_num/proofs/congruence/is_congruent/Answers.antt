use Rattle.std.proofs.Common.{arith, ◌≡◌, ◌<◌, pos, w64, to_z, of_z, to_z-of_z}
use Rattle.std.proofs.lemmas.Int.{ints}
use Rattle.rr_model.proofs.FloorLemmas.{rest_is}
use Rattle.rr_num.proofs.CongruenceLemmas.{congruent}
use Rattle.rr_num.proofs.congruence.is_congruent.Goals as goal

pub returns : goal.returns
returns c =
    let n = c.args.interval in
    let divisor : to_z w64 (of_z w64 c.from-interval.result) ≡ pos n = omega (arith, ints, c.from-interval.ensures) in
    let few : n < 4_294_967_296 = omega arith in
    let a = rest_is c.args.from c.rem_euclid.result n c.requires few (rw (to_z-of_z c.ranges.from, divisor) at c.rem_euclid.ensures.value) in
    let b = rest_is c.args.to c.rem_euclid-2.result n c.requires few (rw (to_z-of_z c.ranges.to, divisor) at c.rem_euclid-2.ensures.value) in
    rw (a, b) (congruent c.args.from c.args.to n c.requires)
