-- Counts and days, brought back to the first period past the settled day.
use Rattle.std.specs.Prelude.{◌≡◌, ℕ, ◌+◌, ◌-◌, ◌*◌, ◌<◌, ◌≤◌, Option, None, Some, ℤ, pos, ◌+ℤ◌, ◌≤ℤ◌, ◌<ℤ◌}
use Rattle.rr_model.specs.Bounds.{latest_taken}
use Rattle.rr_model.specs.Moment.{second_part}
use Rattle.rr_model.specs.declared.kind.Kind.{Kind}
use Rattle.rr_model.specs.declared.kind.Kind.TheVariants.{Days, Moments}

-- the n-th occurrence is the one of this number, `turns` periods later; if there are some, it comes from the settled day on
pub record IsTurnedCount (head total n number turns : ℕ) : Type 0 where
  pub some : 1 ≤ number
  pub most : number ≤ total
  pub is : n ≡ number + turns * (total - head)
  pub late : 1 ≤ turns → head < number

-- the day is `rest`, `turns` periods later; if there are some, `rest` comes from the settled day on
pub record IsTurnedDay (settled : ℤ) (period : ℕ) (day rest : ℤ) (turns : ℕ) : Type 0 where
  pub is : day ≡ rest +ℤ pos (turns * period)
  pub high : rest <ℤ (settled +ℤ pos period)
  pub late : 1 ≤ turns → settled ≤ℤ rest

-- the day `turns` periods later, none past the greatest day
abbrev pub IsDayLater : ℤ → ℕ → ℕ → Option ℤ → Type 0
IsDayLater day turns period None = latest_taken <ℤ (day +ℤ pos (turns * period))
IsDayLater day turns period (Some later) = (later ≡ day +ℤ pos (turns * period)) × (later ≤ℤ latest_taken)

-- below which second an occurrence of the first kind is not after a moment of the second, on its day
abbrev pub seconds_up_to : Kind → Kind → ℤ → ℕ
seconds_up_to Days kind t = 1
seconds_up_to Moments Days t = 0
seconds_up_to Moments Moments t = second_part Moments t + 1
