use Rattle.std.proofs.Common.{◌≡◌, w64, to_z-of_z, arith}
use Rattle.std.proofs.lemmas.Int.{ints}
use Rattle.rr_model.specs.Moment.{day_part}
use Rattle.rr_model.proofs.YearLemmas.{four_digit_bounds}
use Rattle.rr_lenient.proofs.ends.until_of_kind.Goals as goal

pub moment_at-requires : goal.moment_at-requires
moment_at-requires c =
    let a = to_z-of_z c.ranges.at in
    let d = to_z-of_z {w = w64} {z = c.day_part.result} (record { sfits = c.day_part.type_inv }) in
    let day : c.day_part.result ≡ day_part c.args.other c.args.at = rw a at c.day_part.ensures in
    let b = four_digit_bounds (day_part c.args.other c.args.at) c.requires in
    rw (d, day) (omega (arith, ints, b.0), omega (arith, ints, b.1))
