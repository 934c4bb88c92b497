use Rattle.std.proofs.Common.{◌≤ℤ◌, pos, FitsSigned, w64, arith}
use Rattle.std.proofs.lemmas.Int.{clamps, ints, to_z-of_z}
use Rattle.rr_utc.proofs.end.settled_of_all.Goals as goal

pub returns-clause-high : goal.returns-clause-high
returns-clause-high c =
    let fits_a : FitsSigned w64 c.day_past.result = record { sfits = c.day_past.type_inv } in
    let fits_b : FitsSigned w64 c.day_past-2.result = record { sfits = c.day_past-2.type_inv } in
    let fits_m : FitsSigned w64 c.max.result = record { sfits = c.max.type_inv } in
    let fits : FitsSigned w64 c.max-2.result = record { sfits = c.max-2.type_inv } in
    let settled = to_z-of_z w64 c.args.settled c.ranges.settled in
    let a = to_z-of_z w64 c.day_past.result fits_a in
    let b = to_z-of_z w64 c.day_past-2.result fits_b in
    let m = to_z-of_z w64 c.max.result fits_m in
    let value = c.max.ensures.value in
    let value-2 = c.max-2.ensures.value in
    let near = c.requires.near.1 in
    let high = c.day_past.ensures.high in
    let high-2 = c.day_past-2.ensures.high in
    let first : c.max.result ≤ℤ pos 1_000_000_001 = omega (arith, ints, clamps, settled, a, value, near, high) in
    let both : c.max-2.result ≤ℤ pos 1_000_000_001 = omega (arith, ints, clamps, m, b, value-2, first, high-2) in
    let same = to_z-of_z w64 c.max-2.result fits in
    omega (arith, ints, same, both)
