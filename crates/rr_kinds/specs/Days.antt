-- The first day that exactly one of two rules allows.
use Rattle.std.specs.Prelude.{◌≡◌, ℕ, ◌≤◌, ◌<◌, IsTrue, List, ℤ, ◌≤ℤ◌, ◌<ℤ◌}
use Rattle.rr_model.specs.Calendar.{IsDayWithin}
use Rattle.rr_expand.specs.Years.{Filling, allows_day, allows_day_of_year, is_bit_set}
use Rattle.rr_model.specs.Sets.Verdict.{HoldsOnlyOf}
use Rattle.rr_kinds.specs.declared.masks.UnlikeBit.{UnlikeBit}
use Rattle.rr_kinds.specs.declared.years.UnlikeDay.{UnlikeDay}

-- ---- bits

-- from one bit on and before another both are set alike
abbrev pub AreSetAlike : List ℕ → List ℕ → ℕ → ℕ → Type 0
AreSetAlike a b from end = (k : ℕ) → from ≤ k → k < end → is_bit_set a k ≡ is_bit_set b k

-- from one on it is the first bit below 384 that exactly one of the two has, on its side
pub record IsFirstUnlikeBit (a b : List ℕ) (from : ℕ) (found : UnlikeBit) : Type 0 where
  pub not_before : from ≤ found.bit
  pub below : found.bit < 384
  pub unlike : HoldsOnlyOf found.side (IsTrue (is_bit_set a found.bit)) (IsTrue (is_bit_set b found.bit))
  pub before : AreSetAlike a b from found.bit

-- ---- days of one year

-- from day k of the year on, from 0, both allow the same days of it
abbrev pub AllowSameOfYear : Filling → Filling → ℤ → ℕ → Type 0
AllowSameOfYear f g year from = (k : ℕ) → from ≤ k → allows_day_of_year f year k ≡ allows_day_of_year g year k

-- from one day of the year on, from 0, it is the first that exactly one of the two allows, on its side
pub record IsFirstUnlikeOfYear (f g : Filling) (year : ℤ) (from : ℕ) (found : UnlikeBit) : Type 0 where
  pub not_before : from ≤ found.bit
  pub below : found.bit < 384
  pub unlike : HoldsOnlyOf found.side (IsTrue (allows_day_of_year f year found.bit)) (IsTrue (allows_day_of_year g year found.bit))
  pub before : (k : ℕ) → from ≤ k → k < found.bit → allows_day_of_year f year k ≡ allows_day_of_year g year k

-- ---- days

-- from one day on and before another both allow the same days
abbrev pub AllowSame : Filling → Filling → ℤ → ℤ → Type 0
AllowSame f g from to = (d : ℤ) → from ≤ℤ d → d <ℤ to → allows_day f d ≡ allows_day g d

-- from one day on both allow the same days for ever
abbrev pub AllowSameFrom : Filling → Filling → ℤ → Type 0
AllowSameFrom f g from = (d : ℤ) → from ≤ℤ d → allows_day f d ≡ allows_day g d

-- from one day on it is the first that exactly one of the two allows, on its side, and near enough for the calls
pub record IsFirstUnlikeDay (f g : Filling) (from : ℤ) (found : UnlikeDay) : Type 0 where
  pub not_before : from ≤ℤ found.day
  pub near : IsDayWithin 0 found.day
  pub unlike : HoldsOnlyOf found.side (IsTrue (allows_day f found.day)) (IsTrue (allows_day g found.day))
  pub before : AllowSame f g from found.day
