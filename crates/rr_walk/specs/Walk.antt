-- How the units of a rule of whole days are walked.
use Rattle.std.specs.Prelude.{◌≡◌, ℕ, ◌<◌, true, false, IsTrue, Option, Some, None, List, nat_le, nat_lt, [], int_le, ℤ, pos, ◌+ℤ◌, ◌-ℤ◌, ◌≤ℤ◌, ◌<ℤ◌}
use Rattle.std.specs.List.{Contains}
use Rattle.rr_model.specs.Whole.{divides}
use Rattle.rr_model.specs.Moment.{day_part, moment_at, second_part}
use Rattle.rr_model.specs.Moment.Units.{unit_number}
use Rattle.rr_model.specs.Rising.Sets.{IsSetOf}
use Rattle.rr_model.specs.declared.kind.Kind.{Kind}
use Rattle.rr_model.specs.declared.kind.Kind.TheVariants.{Days}
use Rattle.rr_model.specs.declared.rule.Rule.{Rule}
use Rattle.rr_model.specs.Rule.DaysAndTimes.{seconds_of}
use Rattle.rr_model.specs.Sets.Tree.{Tree, stands_at}
use Rattle.rr_walk.specs.Ruling.{IsTimeOf, Ruling}
use Rattle.rr_walk.specs.Steps.{tree_of_ruling}
use Rattle.rr_lazy.specs.declared.occupied_day.OccupiedDay.{OccupiedDay}
use Rattle.rr_lazy.specs.Next.{HasNone, IsFirstOccupied, IsInTable, with_set}
use Rattle.rr_lazy.specs.DayTimes.{DayTimes}

-- the seconds of a day that are not before the start are those from this one on
abbrev pub IsFirstSecond : Kind → ℤ → ℤ → ℕ → Type 0
IsFirstSecond kind start day from = (s : ℕ) → s < seconds_of kind → int_le start (moment_at kind day s) ≡ nat_le from s

-- of a start on the day `start_day` at `start_second`: the seconds of a day that are not before it are those from `from` on
abbrev pub IsFirstSecondAfter : ℤ → ℕ → ℤ → ℕ → Type 0
IsFirstSecondAfter start_day start_second day from =
    (kind : Kind) (start : ℤ) → start_day ≡ day_part kind start → start_second ≡ second_part kind start → IsFirstSecond kind start day from

-- the seconds, in order, of all occurrences on a day
abbrev pub AreSecondsOn : Tree → ℤ → List ℕ → Type 0
AreSecondsOn tree day times = IsSetOf nat_lt times (λ s. IsTrue (stands_at tree day s))

-- the first occupied day from one on and not after another, None if there is none
abbrev pub IsFirstUpTo : Tree → ℤ → ℤ → Option DayTimes → Type 0
IsFirstUpTo tree from to None = HasNone tree from (to +ℤ pos 1)
IsFirstUpTo tree from to (Some found) = IsFirstOccupied tree from found.day found.times × (found.day ≤ℤ to)

-- no day from one on, of those that a list has, is occupied
abbrev pub HasNoneOf : Tree → List ℤ → ℤ → Type 0
HasNoneOf tree days from = (day : ℤ) (second : ℕ) → Contains days day → from ≤ℤ day → stands_at tree day second ≡ false

-- the day, if it is occupied, with all its seconds
abbrev pub IsOnDay : Tree → ℤ → Option DayTimes → Type 0
IsOnDay tree day None = (second : ℕ) → stands_at tree day second ≡ false
IsOnDay tree day (Some found) = (found.day ≡ day) × (found.times ≡ [] → ⊥) × AreSecondsOn tree day found.times

-- the first occupied day from one on, of those that a list has, None if there is none
abbrev pub IsFirstOf : Tree → List ℤ → ℤ → Option DayTimes → Type 0
IsFirstOf tree days from None = HasNoneOf tree days from
IsFirstOf tree days from (Some found) =
    Contains days found.day × (from ≤ℤ found.day) × (found.times ≡ [] → ⊥) × AreSecondsOn tree found.day found.times
    × ((day : ℤ) (second : ℕ) → Contains days day → from ≤ℤ day → day <ℤ found.day → stands_at tree day second ≡ false)

-- a day that is given is the first occupied one from one on, of those that a list has, with the times that the rule has on each of its days
abbrev pub IsFirstWithTimes : Ruling → List ℤ → ℤ → Option ℤ → Type 0
IsFirstWithTimes r days from result =
    (day : ℤ) (times : List ℕ) → result ≡ Some day → IsSetOf nat_lt times (IsTimeOf r)
    → IsFirstOf (tree_of_ruling r) days from (Some (record { day = day; times = times }))

-- ---- the same of days whose seconds are told by a number

-- the first occupied day from `from` on and not after `to`, its seconds told by a number of the table; None if there is none
abbrev pub IsFirstUpToIn : List (List ℕ) → Tree → ℤ → ℤ → Option OccupiedDay → Type 0
IsFirstUpToIn sets tree from to None = IsFirstUpTo tree from to None
IsFirstUpToIn sets tree from to (Some found) = IsInTable sets found × IsFirstUpTo tree from to (Some (with_set sets found))

-- the day with all its seconds, told by a number of the table; None if it is not occupied
abbrev pub IsOnDayIn : List (List ℕ) → Tree → ℤ → Option OccupiedDay → Type 0
IsOnDayIn sets tree day None = IsOnDay tree day None
IsOnDayIn sets tree day (Some found) = IsInTable sets found × IsOnDay tree day (Some (with_set sets found))

-- the first occupied day from `from` on, of those that a list has, its seconds told by a number of the table; None if there
-- is none
abbrev pub IsFirstOfIn : List (List ℕ) → Tree → List ℤ → ℤ → Option OccupiedDay → Type 0
IsFirstOfIn sets tree days from None = IsFirstOf tree days from None
IsFirstOfIn sets tree days from (Some found) = IsInTable sets found × IsFirstOf tree days from (Some (with_set sets found))

-- a day with these seconds, told by a number of the table; None if there are none
abbrev pub IsDayOfTimes : List (List ℕ) → ℤ → List ℕ → Option OccupiedDay → Type 0
IsDayOfTimes sets day times None = times ≡ []
IsDayOfTimes sets day times (Some found) = (found.day ≡ day) × (times ≡ [] → ⊥) × IsInTable sets found × ((with_set sets found).times ≡ times)

-- the day, told by a number of the table, with exactly the seconds of which P holds
abbrev pub IsDayWith : List (List ℕ) → (ℕ → Type 0) → ℤ → Option OccupiedDay → Type 0
IsDayWith sets P day None = ⊥
IsDayWith sets P day (Some found) = (found.day ≡ day) × IsInTable sets found × IsSetOf nat_lt (with_set sets found).times P

-- the first occupied day of a unit from a day on, None if there is none
abbrev pub IsFirstIn : Tree → Rule → ℤ → ℤ → Option DayTimes → Type 0
IsFirstIn tree rule unit from None = (day : ℤ) (second : ℕ) → unit_number rule.freq rule.week_start Days day ≡ unit → from ≤ℤ day
    → stands_at tree day second ≡ false
IsFirstIn tree rule unit from (Some found) =
    (unit_number rule.freq rule.week_start Days found.day ≡ unit) × (from ≤ℤ found.day) × (found.times ≡ [] → ⊥)
    × AreSecondsOn tree found.day found.times
    × ((day : ℤ) (second : ℕ) → unit_number rule.freq rule.week_start Days day ≡ unit → from ≤ℤ day → day <ℤ found.day → stands_at tree day second ≡ false)

-- the first occupied day of a unit from a day on, its seconds as the number of a set in the table; None if there is none
abbrev pub IsFirstInIn : List (List ℕ) → Tree → Rule → ℤ → ℤ → Option OccupiedDay → Type 0
IsFirstInIn sets tree rule unit from None = IsFirstIn tree rule unit from None
IsFirstInIn sets tree rule unit from (Some found) = IsInTable sets found × IsFirstIn tree rule unit from (Some (with_set sets found))

-- the units before this one, which fits the interval, hold no occupied day from the given one on
pub record IsWalked (rule : Rule) (tree : Tree) (start_day from unit : ℤ) : Type 0 where
  pub begun : unit_number rule.freq rule.week_start Days from ≤ℤ unit
  pub fits : divides rule.interval (unit -ℤ unit_number rule.freq rule.week_start Days start_day) ≡ true
  pub none : (day : ℤ) (second : ℕ) → from ≤ℤ day → unit_number rule.freq rule.week_start Days day <ℤ unit → stands_at tree day second ≡ false
