-- What one day shows of two sketches.
use Rattle.std.specs.Prelude.{◌≡◌, ◌≤◌, Bool, ℕ, ℤ, pos, ◌+ℤ◌, Option, None, Some}
use Rattle.rr_model.specs.Sets.Sketch.{times_on}
use Rattle.rr_model.specs.declared.sketch.Sketch.{Sketch}
use Rattle.rr_model.specs.declared.verdict.Side.{Side}
use Rattle.rr_decide.specs.Question.{IsFirstDayShown, IsFirstShown, ShowsNone, ShowsNoneWithin, shown_by}
use Rattle.rr_decide.specs.declared.days.Look.{Look}
use Rattle.rr_decide.specs.declared.days.Look.TheVariants.{Shows, Quiet}
use Rattle.rr_decide.specs.declared.days.Shown.{Shown}
use Rattle.rr_model.specs.declared.question.Question.{Question}

-- the day that is shown is this one, with the first second there that shows a no, and its side
abbrev pub IsShownOn : (Side → Bool) → Sketch → Sketch → ℤ → Shown → Type 0
IsShownOn shows s u day r = (r.day ≡ day) × IsFirstShown shows (times_on s day) (times_on u day) r.second r.side

-- the first second of the day that shows it; none if no second does
abbrev pub IsFirstOn : (Side → Bool) → Sketch → Sketch → ℤ → Option Shown → Type 0
IsFirstOn shows s u day None = ShowsNone shows (times_on s day) (times_on u day)
IsFirstOn shows s u day (Some r) = IsShownOn shows s u day r

-- from one day on it is the first that shows it: its day, the second there, and the side
abbrev pub IsFirstFrom : Question → Sketch → Sketch → ℤ → Shown → Type 0
IsFirstFrom question s u from r = IsFirstDayShown (shown_by question) s u from r.day r.second r.side

-- what the days from this one on show, of at most `most` days
abbrev pub IsLook : (Side → Bool) → Sketch → Sketch → ℤ → ℕ → Look → Type 0
IsLook shows s u day most (Shows r) = IsShownOn shows s u day r
IsLook shows s u day most (Quiet n) = (1 ≤ n) × (n ≤ most) × ShowsNoneWithin shows s u day (day +ℤ pos n)
