-- How a time set gets its number.
use Rattle.std.specs.Prelude.{◌≡◌, ℕ, List}
use Rattle.rr_model.specs.Sets.Descriptor.{number_of, with_set}

-- the set is there, under this number, and nothing else is new
pub record IsNumbered (times : List ℕ) (old new : List (List ℕ)) (number : ℕ) : Type 0 where
  pub sets : new ≡ with_set old times
  pub number_is : number ≡ number_of new times
