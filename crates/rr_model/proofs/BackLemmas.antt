-- A date or a moment of the years 1 to 9999 comes back from 64 bits as it is.
use Rattle.std.proofs.Common.{◌≡◌, ℤ, w64, to_z, of_z, arith}
use Rattle.std.proofs.lemmas.Int.{ints, to_z-of_z}
use Rattle.rr_model.specs.Moment.Years.{IsInYears}
use Rattle.rr_model.specs.declared.kind.Kind.{Kind}
use Rattle.rr_model.specs.declared.kind.Kind.TheVariants.{Days, Moments}
use Rattle.rr_model.proofs.WholeLemmas.{floor_whole, floor_mod_below}
use Rattle.rr_model.proofs.YearLemmas.{year_1, year_10000}

pub in_years_back : (kind : Kind) (t : ℤ) → IsInYears kind t → to_z w64 (of_z w64 t) ≡ t
in_years_back Days t h = to_z-of_z w64 t (omega (arith, ints, h.0, h.1, year_1, year_10000))
in_years_back Moments t h =
    let whole = floor_whole t 86_400 (omega arith) in
    let below = floor_mod_below t 86_400 (omega arith) in
    to_z-of_z w64 t (omega (arith, ints, h.0, h.1, year_1, year_10000, whole, below))
