-- An occupied day with its seconds.
use Rattle.std.specs.Prelude.{ℕ, List, ℤ}

-- the day, and its seconds in order
pub record DayTimes : Type 0 where
  pub day : ℤ
  pub times : List ℕ
