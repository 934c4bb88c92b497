-- How a time set gets its number.
use Rattle.std.specs.Prelude.{◌≡◌, ℕ, ◌+◌, ◌<◌, List, [], ◌∷◌, ◌++◌, length, slice_get, Some, Contains}
use Rattle.rr_model.specs.Sets.Sizes.{total_size}
use Rattle.rr_model.specs.declared.limits.TheConstants.{MAX_SECONDS}

-- the set stands at its number: one that was there before changes nothing, and a new one gets the next number
pub record IsPlaced (times : List ℕ) (old new : List (List ℕ)) (number : ℕ) : Type 0 where
  pub stands : slice_get new number ≡ Some times
  pub known : Contains old times → new ≡ old
  pub added : ¬ Contains old times → (new ≡ old ++ times ∷ []) × (number ≡ length old)

-- the set is new, and would bring the sum of the sizes above the limit
pub record IsTooMany (times : List ℕ) (sets : List (List ℕ)) : Type 0 where
  pub fresh : ¬ Contains sets times
  pub above : MAX_SECONDS < total_size sets + length times
