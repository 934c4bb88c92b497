-- A set as a rising list.
use Rattle.std.specs.Prelude.{ℕ, ◌<◌, Bool, List, All, Contains, nat_lt, ◌↔◌}
use Rattle.rr_model.specs.Rising.{Rises}

-- the list rises, and contains exactly what the property holds of
pub record IsSetOf {X : Type 0} (below : X → X → Bool) (xs : List X) (P : X → Type 0) : Type 0 where
  pub rises : Rises below xs
  pub exact : (x : X) → Contains xs x ↔ P x

-- a rising list of seconds of a day, each below 24 hours
pub record IsSecondsOfDay (xs : List ℕ) : Type 0 where
  pub rises : Rises nat_lt xs
  pub below_a_day : All (λ s. s < 86_400) xs
