-- Time sets that are numbered by their places in a list.
use Rattle.std.specs.Prelude.{◌≡◌, ◌≢◌, ℕ, ◌≤◌, List, All, AllPairs}
use Rattle.rr_model.specs.Rising.Sets.{IsSecondsOfDay}
use Rattle.rr_model.specs.Sets.Sizes.{total_size}
use Rattle.rr_model.specs.declared.limits.TheConstants.{MAX_SECONDS}

-- different numbers have different sets, and each is a set of seconds of a day
pub record IsNumbering (sets : List (List ℕ)) : Type 0 where
  pub distinct : AllPairs (λ a b. a ≢ b) sets
  pub of_day : All IsSecondsOfDay sets

-- the size is the sets' sum, within the limit
pub record IsCounted (sets : List (List ℕ)) (size : ℕ) : Type 0 where
  pub numbering : IsNumbering sets
  pub sum : size ≡ total_size sets
  pub within : size ≤ MAX_SECONDS
