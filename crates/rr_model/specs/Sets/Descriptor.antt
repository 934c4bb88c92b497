-- What a descriptor says of a set of occurrences, before it is printed.
use Rattle.std.specs.Prelude.{ℕ, ◌+◌, ◌==◌, Bool, ◌&&◌, if◌then◌else◌, List, [], ◌∷◌, ◌++◌, Option, Some, None, ℤ, ◌-ℤ◌, nat_abs, nat_eq}
use Rattle.std.specs.Cmp.Lexicographic.{pointwise}
use Rattle.std.specs.List.{list_any, position_or_len}
use Rattle.rr_model.specs.declared.kind.Kind.{Kind}
use Rattle.rr_model.specs.declared.sketch.DayShape.{DayShape}
use Rattle.rr_model.specs.declared.sketch.Sketch.{Sketch}

-- ---- the numbers of time sets

-- two time sets have the same seconds
abbrev pub is_same_set : List ℕ → List ℕ → Bool
is_same_set = pointwise nat_eq

-- the time sets with one more at the end, unless it is there already
abbrev pub with_set : List (List ℕ) → List ℕ → List (List ℕ)
with_set sets times = if list_any (is_same_set times) sets then sets else sets ++ times ∷ []

-- the time sets, and then the others of these days in the order of their first use
abbrev pub with_sets_of : List (List ℕ) → List DayShape → List (List ℕ)
with_sets_of sets [] = sets
with_sets_of sets (s ∷ ss) = with_sets_of (with_set sets s.times) ss

-- the distinct time sets of a sketch in the order of their first use
unfoldable pub sets_of : Sketch → List (List ℕ)
sets_of s = with_sets_of [] (s.before ++ s.cycle)

-- the index of a time set in the list; the list's length if it is not there
abbrev pub number_of : List (List ℕ) → List ℕ → ℕ
number_of sets times = position_or_len (is_same_set times) sets

-- ---- runs of days

-- how many days an occupied day lies after the one before it, and the number of its time set
pub record Step : Type 0 where
  pub gap : ℕ
  pub set : ℕ

-- `count` equal steps in a row
pub record Run : Type 0 where
  pub gap : ℕ
  pub set : ℕ
  pub count : ℕ

-- the steps from a day on over occupied days
abbrev pub steps_from : List (List ℕ) → ℤ → List DayShape → List Step
steps_from sets from [] = []
steps_from sets from (s ∷ ss) =
    record { gap = nat_abs (s.day -ℤ from); set = number_of sets s.times } ∷ steps_from sets s.day ss

-- the run's steps equal this one
abbrev pub is_run_of : Step → Run → Bool
is_run_of step run = (step.gap == run.gap) && (step.set == run.set)

-- the runs with one more step in front
abbrev pub with_step : Step → List Run → List Run
with_step step [] = record { gap = step.gap; set = step.set; count = 1 } ∷ []
with_step step (run ∷ rest) =
    if is_run_of step run then record { gap = run.gap; set = run.set; count = run.count + 1 } ∷ rest
    else record { gap = step.gap; set = step.set; count = 1 } ∷ run ∷ rest

-- the longest stretches of equal neighbouring steps
unfoldable pub runs_of : List Step → List Run
runs_of [] = []
runs_of (step ∷ steps) = with_step step (runs_of steps)

-- ---- the whole

-- what repeats for ever: from which day on, after how many days, and the days of the first period
pub record Ending : Type 0 where
  pub settled : ℤ
  pub period : ℕ
  pub cycle : List Run

-- what a descriptor says of a set that is not empty: its kind, its time sets by number, its first day, the runs before the
-- settled day, and its ending if it is endless
pub record Described : Type 0 where
  pub kind : Kind
  pub sets : List (List ℕ)
  pub first : ℤ
  pub before : List Run
  pub ending : Option Ending

-- the ending of an endless set
abbrev pub ending_of : Sketch → List DayShape → Option Ending
ending_of s [] = None
ending_of s (x ∷ xs) = Some (record { settled = s.settled; period = s.period; cycle = runs_of (steps_from (sets_of s) s.settled (x ∷ xs)) })

-- what is said of a sketch whose occupied days these are, first those before the settled day
abbrev pub description_of : Sketch → List DayShape → Option Described
description_of s [] = None
description_of s (x ∷ xs) =
    Some (record {
      kind = s.kind;
      sets = sets_of s;
      first = x.day;
      before = runs_of (steps_from (sets_of s) x.day s.before);
      ending = ending_of s s.cycle;
    })

-- what the descriptor of a least sketch says, nothing of the empty set
unfoldable pub descriptor : Sketch → Option Described
descriptor s = description_of s (s.before ++ s.cycle)
