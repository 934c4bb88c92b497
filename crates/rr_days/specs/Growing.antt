-- A table of time sets that grows by one at most.
use Rattle.std.specs.Prelude.{◌≡◌, ◌⊎◌, ℕ, ◌<◌, List, length}
use Rattle.rr_shapes.specs.Tables.{Extends}

-- sets that are there keep their numbers, and no set comes but that of this number
pub record IsGrown (old new : List (List ℕ)) (number : ℕ) : Type 0 where
  pub kept : Extends old new
  pub added : (k : ℕ) → k < length new → (k < length old) ⊎ (k ≡ number)
