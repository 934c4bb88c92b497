-- The seconds of the years 1 to 9999.
use Rattle.std.proofs.Common.{◌≡◌, Bool, true, false, refl, ◌<◌, ◌^◌, ℤ, pos, neg_ℤ, ◌≤ℤ◌, ◌<ℤ◌, FitsSigned, w64, arith}
use Rattle.std.specs.Prelude.{unsigned_abs}
use Rattle.std.proofs.lemmas.Int.{ints, fits_signed_from_abs}
use Rattle.rr_model.specs.Moment.Years.{IsInYears, is_in_years}
use Rattle.rr_model.specs.declared.kind.Kind.TheVariants.{Moments}
use Rattle.rr_model.proofs.WholeLemmas.{floor_whole, floor_mod_below}
use Rattle.rr_model.proofs.YearLemmas.{year_1, year_10000, years_are_tested}

near : (t : ℤ) → IsInYears Moments t → (neg_ℤ (pos 62_135_596_800) ≤ℤ t) × (t <ℤ pos 253_402_300_800)
near t h =
    let w = floor_whole t 86_400 (omega arith) in
    let b = floor_mod_below t 86_400 (omega arith) in
    (omega (arith, ints, w, b, year_1, h.0), omega (arith, ints, w, b, year_10000, h.1))

-- a number that has no place in 64 bits lies beyond these years
pub beyond : (t : ℤ) → (FitsSigned w64 t → ⊥) → is_in_years Moments t ≡ false
beyond t over = by (is_in_years Moments t) (λ e. (years_are_tested Moments t).0 e)
  where
    by : (b : Bool) → (b ≡ true → IsInYears Moments t) → b ≡ false
    by false h = refl
    by true h =
        let n = near t (h refl) in
        let small : unsigned_abs t < 2 ^ 63 = omega (arith, ints, n.0, n.1) in
        absurd (over (fits_signed_from_abs w64 t small))
