-- The occurrences of days in a row, counted day by day.
use Rattle.std.specs.Prelude.{◌≡◌, ℕ, zero, suc, ◌+◌, ◌<◌, ◌≤◌, List, [], ◌∷◌, ◌++◌, length, map, Option, None, Some, ℤ, pos, nat_abs, ◌+ℤ◌, ◌-ℤ◌, ◌≤ℤ◌, ◌<ℤ◌}
use Rattle.std.specs.Int.{int_min}
use Rattle.rr_model.specs.Bounds.{earliest_near}
use Rattle.rr_model.specs.Moment.{moment_at}
use Rattle.rr_model.specs.Sets.Sketch.{IsFirstDay, times_on}
use Rattle.rr_model.specs.declared.sketch.Sketch.{Sketch}
use Rattle.rr_rank.specs.declared.sums.Entry.{Entry}

-- the numbers of the occurrences at these seconds of a day
abbrev pub numbers_at : Sketch → ℤ → List ℕ → List ℤ
numbers_at s day times = map (moment_at s.kind day) times

-- the numbers of the occurrences of the n days from q on, in order
unfoldable pub numbers_on : Sketch → ℤ → ℕ → List ℤ
numbers_on s q zero = []
numbers_on s q (suc n) = numbers_on s q n ++ numbers_at s (q +ℤ pos n) (times_on s (q +ℤ pos n))

-- how many occurrences the n days from q on have
abbrev pub count_on : Sketch → ℤ → ℕ → ℕ
count_on s q n = length (numbers_on s q n)

-- an entry for the day, if it has seconds
abbrev pub entry_if_some : ℤ → ℕ → List ℕ → List Entry
entry_if_some day before [] = []
entry_if_some day before (x ∷ xs) = record { day = day; before = before } ∷ []

-- an entry for each occupied one of the n days from q on, with how many occurrences come before it from q on
unfoldable pub entries_of : Sketch → ℤ → ℕ → List Entry
entries_of s q zero = []
entries_of s q (suc n) = entries_of s q n ++ entry_if_some (q +ℤ pos n) (count_on s q n) (times_on s (q +ℤ pos n))

-- the entries of the n days from q on, and one for the day after them
abbrev pub sums_of : Sketch → ℤ → ℕ → List Entry
sums_of s q n = entries_of s q n ++ record { day = q +ℤ pos n; before = count_on s q n } ∷ []

-- how many days from q on lie before the settled day
abbrev pub days_before : Sketch → ℤ → ℕ
days_before s q = nat_abs (s.settled -ℤ q)

-- how many days from q on lie before a period past the settled day
abbrev pub counted_days : Sketch → ℤ → ℕ
counted_days s q = days_before s q + s.period

-- how many days before a period past the settled day are occupied
abbrev pub occupied_count : Sketch → ℕ
occupied_count s = length s.before + length s.cycle

-- q lies not after the settled day, and no day before it is occupied
pub record IsBegin (s : Sketch) (q : ℤ) : Type 0 where
  pub low : earliest_near ≤ℤ q
  pub not_after : q ≤ℤ s.settled
  pub early : (d : ℤ) → d <ℤ q → times_on s d ≡ []

-- the settled day, or the first occupied day if that is earlier
abbrev pub begin_day : Sketch → Option ℤ → ℤ
begin_day s None = s.settled
begin_day s (Some first) = int_min first s.settled

-- q is that day
abbrev pub IsBeginDay : Sketch → ℤ → Type 0
IsBeginDay s q = (first : Option ℤ) → IsFirstDay s first → q ≡ begin_day s first

-- the entries with one for a day, if it has occurrences
abbrev pub with_day : List Entry → ℤ → ℕ → ℕ → List Entry
with_day entries day before zero = entries
with_day entries day before (suc n) = entries ++ record { day = day; before = before } ∷ []

-- what is kept of a sequence: the entries from some day on, how many occurrences come before the settled day, and how many
-- before a period past it
pub record IsRanked (s : Sketch) (from : ℤ) (head total : ℕ) (entries : List Entry) : Type 0 where
  pub begin : IsBegin s from
  pub are_sums : entries ≡ sums_of s from (counted_days s from)
  pub is_head : head ≡ count_on s from (days_before s from)
  pub is_total : total ≡ count_on s from (counted_days s from)

-- a day, with its seconds and how many occurrences come before it, has the occurrence of this number; it lies `days` days
-- after the first
pub record IsDayOfNumber (s : Sketch) (from : ℤ) (number : ℕ) (day : ℤ) (before : ℕ) (seconds : List ℕ) : Type 0 where
  pub days : ℕ
  pub few : days < counted_days s from
  pub is_day : day ≡ from +ℤ pos days
  pub is_before : before ≡ count_on s from days
  pub are_seconds : seconds ≡ times_on s day
  pub low : before < number
  pub high : number ≤ before + length seconds

-- a day, with its seconds and how many occurrences come before it; it lies `days` days after the first
pub record IsDayCounted (s : Sketch) (from day : ℤ) (before : ℕ) (seconds : List ℕ) : Type 0 where
  pub days : ℕ
  pub few : days < counted_days s from
  pub is_day : day ≡ from +ℤ pos days
  pub is_before : before ≡ count_on s from days
  pub are_seconds : seconds ≡ times_on s day
