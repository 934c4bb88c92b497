-- What is known of the years that were compared.
use Rattle.std.specs.Prelude.{◌≡◌, Bool, true, false, List, get_or, ℤ, pos, ◌+ℤ◌, ◌≤ℤ◌, ◌<ℤ◌}
use Rattle.rr_expand.specs.Years.{Filling}
use Rattle.rr_model.specs.Calendar.{kind_of_year}
use Rattle.rr_kinds.specs.Days.{AllowSameOfYear}

-- from one year on and before another, which is at most 400 years later, both allow the same days, and so they do in each year of a
-- kind that was seen
pub record AreWalked (f g : Filling) (from next : ℤ) (seen : List Bool) : Type 0 where
  pub begun : from ≤ℤ next
  pub within : next ≤ℤ (from +ℤ pos 400)
  pub years : (z : ℤ) → from ≤ℤ z → z <ℤ next → AllowSameOfYear f g z 0
  pub kinds : (z : ℤ) → get_or seen (kind_of_year z) false ≡ true → AllowSameOfYear f g z 0
