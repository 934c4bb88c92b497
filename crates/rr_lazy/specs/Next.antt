-- What a lazy iterator answers: its occupied days one after another.
use Rattle.std.specs.Prelude.{◌≡◌, ◌≢◌, ◌⊎◌, ℕ, ◌<◌, ◌≤◌, length, get_or, take, false, IsTrue, List, [], Option, Some, None, Result, Ok, Err, nat_lt, ℤ, pos, ◌+ℤ◌, ◌≤ℤ◌, ◌<ℤ◌}
use Rattle.rr_model.specs.Rising.Sets.{IsSetOf}
use Rattle.rr_model.specs.Calendar.{first_day_of_year}
use Rattle.rr_model.specs.declared.refusal.NoMemory.{NoMemory}
use Rattle.rr_lazy.specs.DayTimes.{DayTimes}
use Rattle.rr_lazy.specs.declared.occupied_day.OccupiedDay.{OccupiedDay}
use Rattle.rr_model.specs.Sets.Tree.{Tree, IsOfOneKind, stands_at}

-- no day from one on and below another is occupied
abbrev pub HasNone : Tree → ℤ → ℤ → Type 0
HasNone tree from to = (day : ℤ) (second : ℕ) → from ≤ℤ day → day <ℤ to → stands_at tree day second ≡ false

-- the first occupied day from one on, with all its seconds
pub record IsFirstOccupied (tree : Tree) (from day : ℤ) (times : List ℕ) : Type 0 where
  pub late : from ≤ℤ day
  pub before : HasNone tree from day
  pub some : times ≢ []
  pub all : IsSetOf nat_lt times (λ second. IsTrue (stands_at tree day second))

-- What a call of `next` up to a day does, from a position to another, by its answer.
abbrev pub IsNext : Tree → ℤ → ℤ → Result (Option DayTimes) NoMemory → ℤ → Type 0
IsNext tree old to (Ok (Some found)) new = IsFirstOccupied tree old found.day found.times × (found.day ≤ℤ to) × (new ≡ found.day +ℤ pos 1)
IsNext tree old to (Ok None) new = HasNone tree old new × (old ≤ℤ new) × (to <ℤ new) × ((new ≡ to +ℤ pos 1) ⊎ (new ≡ old))
IsNext tree old to (Err e) new = new ≡ old

-- ---- by numbers in a table of sets

-- the day, with the first `count` seconds of the set of its number
abbrev pub with_set : List (List ℕ) → OccupiedDay → DayTimes
with_set sets f = record { day = f.day; times = take f.count (get_or sets f.number.index []) }

-- the number of the day's set is one of the table, and its count is at most the set's size
abbrev pub IsInTable : List (List ℕ) → OccupiedDay → Type 0
IsInTable sets f = (f.number.index < length sets) × (f.count ≤ length (get_or sets f.number.index []))

-- What a call of `next` does if the seconds are told by a number.
abbrev pub IsNextIn : List (List ℕ) → Tree → ℤ → ℤ → Result (Option OccupiedDay) NoMemory → ℤ → Type 0
IsNextIn sets tree old to (Ok (Some found)) new = IsInTable sets found × IsNext tree old to (Ok (Some (with_set sets found))) new
IsNextIn sets tree old to (Ok None) new = IsNext tree old to (Ok None) new
IsNextIn sets tree old to (Err e) new = IsNext tree old to (Err e) new

-- what is known of every lazy iterator: its tree is of one kind, and its position is not before 0001-01-01
pub record IsSoundLazy (tree : Tree) (position : ℤ) : Type 0 where
  pub of_kind : IsOfOneKind tree
  pub in_years : first_day_of_year (pos 1) ≤ℤ position

-- the iterator has not been asked: its position is 0001-01-01
abbrev pub IsUnasked : ℤ → Type 0
IsUnasked position = position ≡ first_day_of_year (pos 1)

-- ---- what several iterators know of a table of sets

-- every table of sets is known to the iterator
abbrev pub KnowsEach : (List (List ℕ) → Type 0) → Type 0
KnowsEach knows = (sets : List (List ℕ)) → knows sets

-- a table that a part knows is known
abbrev pub KnowsIf : (List (List ℕ) → Type 0) → (List (List ℕ) → Type 0) → Type 0
KnowsIf part knows = (sets : List (List ℕ)) → part sets → knows sets

-- a table that both parts know is known
abbrev pub KnowsIfBoth : (List (List ℕ) → Type 0) → (List (List ℕ) → Type 0) → (List (List ℕ) → Type 0) → Type 0
KnowsIfBoth a b knows = (sets : List (List ℕ)) → a sets → b sets → knows sets
