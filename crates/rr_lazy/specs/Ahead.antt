-- What a combinator knows of a part that it asked.
use Rattle.std.specs.Prelude.{◌≡◌, ◌≢◌, ◌⊎◌, ℕ, IsTrue, List, [], Option, Some, None, nat_lt, ℤ, pos, ◌+ℤ◌, ◌≤ℤ◌, ◌<ℤ◌}
use Rattle.std.specs.List.{Contains}
use Rattle.std.specs.Option.{ForSome, ForNone}
use Rattle.rr_model.specs.Calendar.{first_day_of_year}
use Rattle.rr_lazy.specs.DayTimes.{DayTimes}
use Rattle.rr_model.specs.Sets.Tree.{Tree, union, stands_at, IsOfOneKind}
use Rattle.rr_model.specs.Rising.{Rises}
use Rattle.rr_model.specs.Rising.Sets.{IsSetOf}
use Rattle.rr_lazy.specs.declared.occupied_day.OccupiedDay.{OccupiedDay}
use Rattle.rr_lazy.specs.Next.{HasNone, IsSoundLazy, IsInTable, with_set}

-- the first occupied day from one on, which the part gave last
pub record IsGiven (tree : Tree) (own from day : ℤ) (times : List ℕ) : Type 0 where
  pub late : from ≤ℤ day
  pub before : HasNone tree from day
  pub some : times ≢ []
  pub seconds : IsSetOf nat_lt times (λ s. IsTrue (stands_at tree day s))
  pub own_next : own ≡ day +ℤ pos 1

-- from a day on: the part's first occupied day, or that it has none before its own position
pub record IsAhead (tree : Tree) (own from : ℤ) (ahead : Option DayTimes) : Type 0 where
  pub some : ForSome ahead (λ f. IsGiven tree own from f.day f.times)
  pub none : ForNone ahead ((from ≤ℤ own) × HasNone tree from own)

-- what is known of the day that a part gave, by the table of sets
abbrev pub day_seen : List (List ℕ) → Option OccupiedDay → Option DayTimes
day_seen sets None = None
day_seen sets (Some f) = Some (with_set sets f)

-- from a day on: the part's first occupied day, its seconds told by a number of the table, or that it has none before its own position
pub record IsAheadIn (sets : List (List ℕ)) (tree : Tree) (own from : ℤ) (ahead : Option OccupiedDay) : Type 0 where
  pub within : ForSome ahead (IsInTable sets)
  pub known : IsAhead tree own from (day_seen sets ahead)

-- what was known of a part from a day on, by the table of sets that was, is known of it from that day on by the table that is
abbrev pub StaysAhead : List (List ℕ) → List (List ℕ) → Tree → ℤ → ℤ → Option OccupiedDay → Option OccupiedDay → Type 0
StaysAhead old new tree own own' ahead ahead' = (from : ℤ) → IsAheadIn old tree own from ahead → IsAheadIn new tree own' from ahead'

-- what a part gave is this day, with this second among its seconds
abbrev pub HasOn : Option DayTimes → ℤ → ℕ → Type 0
HasOn None day s = ⊥
HasOn (Some f) day s = (f.day ≡ day) × Contains f.times s

-- what a part gave is this day
abbrev pub GaveDay : Option DayTimes → ℤ → Type 0
GaveDay None day = ⊥
GaveDay (Some f) day = f.day ≡ day

-- the lesser of two days that are known, if it is not after `to`
abbrev pub IsFirstOfBoth : Option DayTimes → Option DayTimes → ℤ → Option ℤ → Type 0
IsFirstOfBoth a b to (Some d) = (d ≤ℤ to) × (GaveDay a d ⊎ GaveDay b d) × ForSome a (λ f. d ≤ℤ f.day) × ForSome b (λ f. d ≤ℤ f.day)
IsFirstOfBoth a b to None = ForSome a (λ f. to <ℤ f.day) × ForSome b (λ f. to <ℤ f.day)

-- what is left of what a part gave once a day was passed on
abbrev pub IsLeftAfterDay : Option DayTimes → ℤ → Option DayTimes → Type 0
IsLeftAfterDay None day r = r ≡ None
IsLeftAfterDay (Some f) day r = ((f.day ≡ day) × (r ≡ None)) ⊎ ((f.day ≢ day) × (r ≡ Some f))

-- by each table of sets: what is left of what a part gave once a day was passed on
abbrev pub HasForgotten : Option OccupiedDay → ℤ → Option OccupiedDay → Type 0
HasForgotten old day new = (sets : List (List ℕ)) → IsLeftAfterDay (day_seen sets old) day (day_seen sets new)

-- what a part gave, if it is this day, and nothing if it is none or another day
abbrev pub IsOfDay : Option OccupiedDay → ℤ → Option OccupiedDay → Type 0
IsOfDay ahead day result = ((result ≡ ahead) × ForSome ahead (λ f. f.day ≡ day)) ⊎ ((result ≡ None) × ForSome ahead (λ f. f.day ≡ day → ⊥))

-- the set of a day is in the table, and its seconds rise
pub record IsGivenOn (sets : List (List ℕ)) (found : OccupiedDay) : Type 0 where
  pub within : IsInTable sets found
  pub rises : Rises nat_lt ((with_set sets found).times)

-- What two parts gave for a day: all seconds of both, and nothing if neither gave it.
abbrev pub IsGivenByBoth : List (List ℕ) → Option OccupiedDay → Option OccupiedDay → ℤ → List (List ℕ) → Option OccupiedDay → Type 0
IsGivenByBoth old a b day new None = (GaveDay (day_seen old a) day → ⊥) × (GaveDay (day_seen old b) day → ⊥)
IsGivenByBoth old a b day new (Some found) =
    (found.day ≡ day) × IsGivenOn new found × (GaveDay (day_seen old a) day ⊎ GaveDay (day_seen old b) day)
    × IsSetOf nat_lt ((with_set new found).times) (λ s. HasOn (day_seen old a) day s ⊎ HasOn (day_seen old b) day s)

-- two trees of one kind make a sound iterator
pub sound_union : (t u : Tree) (position : ℤ) → IsOfOneKind (union t u) → first_day_of_year (pos 1) ≤ℤ position → IsSoundLazy (union t u) position
sound_union t u position k b = record { of_kind = k; in_years = b }
