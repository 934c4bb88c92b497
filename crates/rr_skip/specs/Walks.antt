-- Walks over days that tell of each whether it is chosen.
use Rattle.std.specs.Prelude.{◌≡◌, ◌⊎◌, ℕ, ◌+◌, ◌<◌, ◌≤◌, Bool, List, [], ◌∷◌, ◌++◌, length, get_or, ℤ, pos, ◌+ℤ◌}
use Rattle.rr_model.specs.Whole.Count.{count_from, one_if}
use Rattle.rr_model.specs.Moment.Units.{month_number, first_day_of_month}
use Rattle.rr_skip.specs.Months.{is_due, is_day_chosen}
use Rattle.rr_skip.specs.declared.schedule.Schedule.{Schedule}
use Rattle.rr_skip.specs.declared.turn.Turn.{Turn}
use Rattle.rr_skip.specs.declared.walk.Walk.{Walk}

-- the day lies in the month, or is the first one after it
abbrev pub IsReachedIn : ℤ → ℤ → Type 0
IsReachedIn month day = (month_number day ≡ month) ⊎ (day ≡ first_day_of_month (month +ℤ pos 1))

-- the two months follow one another, and it is known of each whether it is due
pub record IsTurn (schedule : Schedule) (turn : Turn) : Type 0 where
  pub after : turn.month.number ≡ turn.before.number +ℤ pos 1
  pub was_due : turn.was_due ≡ is_due schedule turn.before.number
  pub is_due : turn.is_due ≡ is_due schedule turn.month.number

-- each number is 1 if its day passes the test, and 0 if it does not
abbrev pub AreTested : (ℤ → Bool) → ℤ → List ℕ → Type 0
AreTested test first numbers = (k : ℕ) → k < length numbers → get_or numbers k 0 ≡ one_if (test (first +ℤ pos k))

-- the walk has taken one more day, chosen or not
pub record IsStepped (is_chosen : Bool) (old new : Walk) : Type 0 where
  pub numbers : new.numbers.items ≡ old.numbers.items ++ one_if is_chosen ∷ []
  pub left : new.left + one_if is_chosen ≡ old.left

-- days are walked: those that are chosen and those still looked for are `most` together
pub record IsWalk (test : ℤ → Bool) (first : ℤ) (most : ℕ) (walk : Walk) : Type 0 where
  pub tested : AreTested test first walk.numbers.items
  pub counted : count_from test first (length walk.numbers.items) + walk.left ≡ most

-- `most` chosen days are walked, or `end` days
pub record IsWalked (test : ℤ → Bool) (first : ℤ) (end most : ℕ) (walk : Walk) : Type 0 where
  pub is_walk : IsWalk test first most walk
  pub few : length walk.numbers.items ≤ end
  pub done : (walk.left ≡ 0) ⊎ (length walk.numbers.items ≡ end)

-- the days before that of this index are walked, and that day lies in the month of the turn, or is the first one after it
pub record IsReached (schedule : Schedule) (first : ℤ) (index most : ℕ) (turn : Turn) (walk : Walk) : Type 0 where
  pub is_walk : IsWalk (is_day_chosen schedule) first most walk
  pub whole : length walk.numbers.items ≡ index
  pub turn_is : IsTurn schedule turn
  pub day : IsReachedIn turn.month.number (first +ℤ pos index)
