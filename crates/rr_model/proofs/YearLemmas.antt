-- The first and the last day of the years 1 to 9999.
use Rattle.std.proofs.Common.{◌≡◌, ◌↔◌, ◌&&◌, ℤ, pos, neg_ℤ, ◌≤ℤ◌, ◌<ℤ◌, refl, arith}
use Rattle.std.specs.Prelude.{IsTrue, int_le, int_lt}
use Rattle.std.proofs.lemmas.Int.{ints}
use Rattle.rr_model.specs.Bounds.{first_day_of_all}
use Rattle.rr_model.specs.Calendar.{first_day_of_year}
use Rattle.rr_model.specs.Moment.{day_part}
use Rattle.rr_model.specs.Moment.Years.{IsFromYearOne, HasFourDigitYear, is_in_years, YearsAreTested}
use Rattle.rr_model.specs.declared.kind.Kind.TheVariants.{Moments}
use Rattle.rr_model.proofs.WholeLemmas.{floor_whole, floor_mod_below}

pub year_1 : first_day_of_year (pos 1) ≡ first_day_of_all
unfolding first_day_of_year
year_1 = refl

pub year_10000 : first_day_of_year (pos 10_000) ≡ pos 2_932_897
unfolding first_day_of_year
year_10000 = refl

-- ---- as day numbers

pub from_year_one : (d : ℤ) → IsFromYearOne d ↔ (first_day_of_all ≤ℤ d)
from_year_one d = (λ h. omega (arith, ints, h, year_1), λ h. omega (arith, ints, h, year_1))

pub four_digit_year : (d : ℤ) → HasFourDigitYear d ↔ ((first_day_of_all ≤ℤ d) × (d ≤ℤ pos 2_932_896))
four_digit_year d = (
  λ h. (omega (arith, ints, h.0, year_1), omega (arith, ints, h.1, year_10000)),
  λ h. (omega (arith, ints, h.0, year_1), omega (arith, ints, h.1, year_10000)),
)

pub four_digit_bounds : (d : ℤ) → HasFourDigitYear d → (first_day_of_all ≤ℤ d) × (d ≤ℤ pos 2_932_896)
four_digit_bounds d h = (four_digit_year d).0 h

-- ---- as tests

test_is : (low high d : ℤ) → IsTrue (int_le low d && int_lt d high) ↔ ((low ≤ℤ d) × (d <ℤ high))
test_is low high d = (λ h. (grind (arith, ints, h), grind (arith, ints, h)), λ h. grind (arith, ints, h.0, h.1))

pub years_are_tested : YearsAreTested
years_are_tested kind t = test_is (first_day_of_year (pos 1)) (first_day_of_year (pos 10_000)) (day_part kind t)

-- the test of a moment, by its seconds
pub is_in_years-seconds : (t : ℤ) → is_in_years Moments t ≡ (int_le (neg_ℤ (pos 62_135_596_800)) t && int_lt t (pos 253_402_300_800))
is_in_years-seconds t =
    let w = floor_whole t 86_400 (omega arith) in
    let b = floor_mod_below t 86_400 (omega arith) in
    rw (year_1, year_10000) (grind (arith, ints, w, b))
