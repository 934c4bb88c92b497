-- A part whose answer is passed on as it is.
use Rattle.std.specs.Prelude.{◌≡◌, ◌⊎◌, List, [], ◌∷◌, Option, Some, None, ℤ, pos, ◌+ℤ◌, ◌≤ℤ◌, ◌<ℤ◌}
use Rattle.rr_lazy.specs.declared.occupied_day.OccupiedDay.{OccupiedDay}

-- Where the next call looks after an answer: at the day after the one that was found, otherwise after the last one that
-- was asked for.
abbrev pub IsAfter : Option OccupiedDay → ℤ → ℤ → ℤ → Type 0
IsAfter (Some found) from to next = next ≡ found.day +ℤ pos 1
IsAfter None from to next = (from ≤ℤ next) × (to <ℤ next) × ((next ≡ to +ℤ pos 1) ⊎ (next ≡ from))

-- there is one part alone, and no day that it gave is left to be passed on
abbrev pub IsOneAtRest : {X : Type 0} → (X → Option OccupiedDay) → List X → Type 0
IsOneAtRest {X} ahead parts = (x : X) × (parts ≡ x ∷ []) × (ahead x ≡ None)
