use Rattle.std.proofs.Common.{FitsSigned, w32, w64, sym, ◌∙◌, arith}
use Rattle.std.proofs.lemmas.Int.{clamps, ints, to_z-of_z}
use Rattle.rr_utc.proofs.about.calm_about.Goals as goal

pub returns : goal.returns
returns c v low high =
    let fits_first : FitsSigned w64 c.constant_until.result = record { sfits = c.constant_until.type_inv } in
    let fits_second : FitsSigned w64 c.constant_until-2.result = record { sfits = c.constant_until-2.type_inv } in
    let fits : FitsSigned w64 c.min.result = record { sfits = c.min.type_inv } in
    let of_a : FitsSigned w32 c.at.result = record { sfits = c.at.type_inv } in
    let of_b : FitsSigned w32 c.at-2.result = record { sfits = c.at-2.type_inv } in
    let first = to_z-of_z w64 c.constant_until.result fits_first in
    let second = to_z-of_z w64 c.constant_until-2.result fits_second in
    let end = to_z-of_z w64 c.min.result fits in
    let is = c.min.ensures.value in (
      c.constant_until.ensures.same v low (omega (arith, ints, clamps, first, second, end, is, high)) ∙ sym c.at.ensures.value ∙ sym (to_z-of_z w32 c.at.result of_a),
      c.constant_until-2.ensures.same v low (omega (arith, ints, clamps, first, second, end, is, high)) ∙ sym c.at-2.ensures.value
          ∙ sym (to_z-of_z w32 c.at-2.result of_b),
    )
