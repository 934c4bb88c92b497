-- Where an iterator goes on, by the integers that are stored.
use Rattle.std.proofs.Common.{◌≡◌, ◌⊎◌, ℤ, pos, ◌+ℤ◌, ◌≤ℤ◌, ◌<ℤ◌, w64, to_z, of_z, to_z-of_z, FitsSigned, arith}
use Rattle.std.proofs.lemmas.Int.{ints}
use Rattle.rr_model.specs.Bounds.{latest_day}
use Rattle.rr_model.specs.Calendar.{first_day_of_year}
use Rattle.rr_lazy.proofs.FirstLemmas.{first_day_is}
use Rattle.rr_lazy.proofs.AheadLemmas.{day_fits}

-- the position that an answer of nothing up to `to` leaves
pub record IsPast (position to result : ℤ) : Type 0 where
  pub new : to_z w64 (of_z w64 result) ≡ result
  pub kept : position ≤ℤ result
  pub past : to <ℤ result
  pub one : (result ≡ to +ℤ pos 1) ⊎ (result ≡ position)
  pub begun : first_day_of_year (pos 1) ≤ℤ to_z w64 (of_z w64 result)

pub past_read : (position to result : ℤ) → first_day_of_year (pos 1) ≤ℤ position → FitsSigned w64 position → FitsSigned w64 to → FitsSigned w64 result
    → to_z w64 (of_z w64 position) ≤ℤ result → to_z w64 (of_z w64 to) <ℤ result
    → (result ≡ to_z w64 (of_z w64 to) +ℤ pos 1) ⊎ (result ≡ to_z w64 (of_z w64 position)) → IsPast position to result
past_read position to result begun p t r kept past one =
    let from = to_z-of_z p in
    let last = to_z-of_z t in
    let new = to_z-of_z r in
    let later : position ≤ℤ result = rw from at kept in
    record { new = new; kept = later; past = rw last at past; one = rw (from, last) at one; begun = rw new (omega (arith, ints, begun, later)) }

-- the position after a day that was found
pub record IsAfterDay (day : ℤ) : Type 0 where
  pub same : to_z w64 (of_z w64 day) ≡ day
  pub next : to_z w64 (of_z w64 (to_z w64 (of_z w64 day) +ℤ pos 1)) ≡ day +ℤ pos 1
  pub begun : first_day_of_year (pos 1) ≤ℤ to_z w64 (of_z w64 (to_z w64 (of_z w64 day) +ℤ pos 1))

pub after_day : (position day to : ℤ) → first_day_of_year (pos 1) ≤ℤ position → position ≤ℤ day → day ≤ℤ to → to ≤ℤ latest_day
    → IsAfterDay day
after_day position day to begun late within high =
    let fits = day_fits position day to (rw first_day_is at begun) late within high in
    let next : to_z w64 (of_z w64 (to_z w64 (of_z w64 day) +ℤ pos 1)) ≡ day +ℤ pos 1 = rw fits.0 fits.1 in
    record { same = fits.0; next = next; begun = rw next (omega (arith, ints, begun, late)) }
