-- Several parts of a combinator, and what each gave.
use Rattle.std.specs.Prelude.{◌≡◌, ℕ, ◌<◌, ◌≤◌, List, [], ◌∷◌, length, get_or, nat_lt, Option, Some, None, ℤ, pos, ◌≤ℤ◌}
use Rattle.std.specs.List.{All}
use Rattle.std.specs.Option.{ForSome}
use Rattle.rr_model.specs.Calendar.{first_day_of_year}
use Rattle.rr_lazy.specs.DayTimes.{DayTimes}
use Rattle.rr_model.specs.Sets.Tree.{Tree, Forest, nothing, part, many, IsOfOneKind}
use Rattle.rr_model.specs.Rising.Sets.{IsSetOf}
use Rattle.rr_lazy.specs.declared.occupied_day.OccupiedDay.{OccupiedDay}
use Rattle.rr_lazy.specs.Next.{IsSoundLazy, IsInTable, with_set}
use Rattle.rr_lazy.specs.Ahead.{HasOn, GaveDay, IsGivenOn, IsLeftAfterDay, day_seen}

-- the trees of the parts of a list
abbrev pub forest_of : {X : Type 0} → (X → Tree) → List X → Forest
forest_of tree [] = nothing
forest_of tree (x ∷ xs) = part (tree x) (forest_of tree xs)

-- a forest with one more tree at its end
abbrev pub with_part : Forest → Tree → Forest
with_part nothing t = part t nothing
with_part (part a parts) t = part a (with_part parts t)

-- several trees with one more at their end
abbrev pub tree_with_part : Tree → Tree → Tree
tree_with_part (many parts) t = many (with_part parts t)
tree_with_part other t = other

-- one of the parts gave this day
abbrev pub GaveDaySome : {X : Type 0} → (X → Option DayTimes) → List X → ℤ → Type 0
GaveDaySome {X} ahead parts day = (k : ℕ) × (k < length parts) × ((d : X) → GaveDay (ahead (get_or parts k d)) day)

-- one of the first n parts gave this day with this second
abbrev pub HasOnSome : {X : Type 0} → (X → Option DayTimes) → List X → ℕ → ℤ → ℕ → Type 0
HasOnSome {X} ahead parts count day s = (k : ℕ) × (k < count) × (k < length parts) × ((d : X) → HasOn (ahead (get_or parts k d)) day s)

-- What the first n parts gave for a day: all seconds of those that gave it, and nothing if none did.
abbrev pub IsGivenBySome : {X : Type 0} → List (List ℕ) → (X → Option OccupiedDay) → List X → ℕ → ℤ → List (List ℕ) → Option OccupiedDay → Type 0
IsGivenBySome {X} old ahead parts count day new None = (k : ℕ) → k < count → k < length parts → (d : X) → GaveDay (day_seen old (ahead (get_or parts k d))) day → ⊥
IsGivenBySome {X} old ahead parts count day new (Some found) =
    (found.day ≡ day) × IsGivenOn new found
    × IsSetOf nat_lt ((with_set new found).times) (HasOnSome (λ p. day_seen old (ahead p)) parts count day)

-- what each part gave stays within every table that held what each gave
abbrev pub StayWithin : {X : Type 0} → (X → Option OccupiedDay) → List X → List X → Type 0
StayWithin {X} ahead old new =
    (sets : List (List ℕ)) → All (λ p. ForSome (ahead p) (IsInTable sets)) old → All (λ p. ForSome (ahead p) (IsInTable sets)) new

-- the first n parts have forgotten the day; nothing else has changed
pub record IsLeftBy {X L : Type 0} (ahead : X → Option DayTimes) (lazy : X → L) (old : List X) (day : ℤ) (count : ℕ) (new : List X) : Type 0 where
  pub many : length new ≡ length old
  pub lazies : (k : ℕ) (d : X) → k < length old → lazy (get_or new k d) ≡ lazy (get_or old k d)
  pub left : (k : ℕ) (d : X) → k < count → k < length old → IsLeftAfterDay (ahead (get_or old k d)) day (ahead (get_or new k d))
  pub rest : (k : ℕ) (d : X) → count ≤ k → k < length old → ahead (get_or new k d) ≡ ahead (get_or old k d)

-- by each table of sets, all parts have forgotten the day; nothing else has changed
abbrev pub HaveForgotten : {X L : Type 0} → (X → Option OccupiedDay) → (X → L) → List X → ℤ → List X → Type 0
HaveForgotten {X} {L} ahead lazy old day new = (sets : List (List ℕ)) → IsLeftBy (λ p. day_seen sets (ahead p)) lazy old day (length old) new

pub sound_many : (parts : Forest) (position : ℤ) → IsOfOneKind (many parts) → first_day_of_year (pos 1) ≤ℤ position → IsSoundLazy (many parts) position
sound_many parts position k b = record { of_kind = k; in_years = b }
