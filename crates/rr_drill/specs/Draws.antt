-- The series that are drawn from a number, one after the other.
use Rattle.std.specs.Prelude.{◌≡◌, ℕ, zero, suc, ◌+◌, ◌*◌, ◌/◌, ◌%◌, ◌==◌, true, if◌then◌else◌, List, [], ◌∷◌, ℤ, pos}
use Rattle.rr_model.specs.Rule.Plain.{plain_rule}
use Rattle.rr_model.specs.declared.kind.Kind.TheVariants.{Days}
use Rattle.rr_model.specs.declared.rule.Freq.{Freq}
use Rattle.rr_model.specs.declared.rule.Freq.TheVariants.{Daily, Weekly, Monthly, Yearly}
use Rattle.rr_model.specs.declared.rule.Rule.{Rule}
use Rattle.rr_model.specs.declared.rule.Series.{Series}

-- ---- draws

-- the state after one draw: a linear congruential generator modulo 2 ^ 31
abbrev pub next_state : ℕ → ℕ
next_state x = (x * 1_103_515_245 + 12_345) % 2_147_483_648

-- what one draw from a state gives: the upper bits of the state after it
abbrev pub draw : ℕ → ℕ
draw x = next_state x / 65_536

-- one draw from a state, as a number below m
abbrev pub draw_below : ℕ → ℕ → ℕ
draw_below m x = draw x % m

-- ---- a rule

-- the frequency of a draw below 4
abbrev pub freq_of : ℕ → Freq
freq_of n = if n == 0 then Daily else if n == 1 then Weekly else if n == 2 then Monthly else Yearly

-- how many intervals of a frequency are drawn from, from 1 on
abbrev pub intervals : Freq → ℕ
intervals Daily = 10
intervals Monthly = 12
intervals freq = 4

-- the frequency that is drawn from a state
abbrev pub drawn_freq : ℕ → Freq
drawn_freq x = freq_of (draw_below 4 x)

-- the interval that is drawn for a frequency
abbrev pub drawn_interval : Freq → ℕ → ℕ
drawn_interval freq x = 1 + draw_below (intervals freq) x

-- the week start, which is drawn for WEEKLY alone: Monday or Sunday
abbrev pub drawn_week_start : Freq → ℕ → ℕ
drawn_week_start Weekly x = if draw_below 2 x == 0 then 0 else 6
drawn_week_start freq x = 0

-- the state after the week start
abbrev pub after_week_start : Freq → ℕ → ℕ
after_week_start Weekly x = next_state x
after_week_start freq x = x

-- the rule that is drawn from a state: its frequency, its interval, and for WEEKLY its week start
abbrev pub drawn_rule : ℕ → Rule
drawn_rule x = record (plain_rule (drawn_freq x) (drawn_interval (drawn_freq x) (next_state x))) {
  week_start = drawn_week_start (drawn_freq x) (next_state (next_state x));
}

-- the state after the rule
abbrev pub after_rule : ℕ → ℕ
after_rule x = after_week_start (drawn_freq x) (next_state (next_state x))

-- ---- series

-- the start, one of the first 28 days of the year 2024, whose first is day 19,723
abbrev pub drawn_start : ℕ → ℤ
drawn_start x = pos (19_723 + draw_below 28 x)

-- the dates of an endless rule from a start on
abbrev pub dates_of_rule : ℤ → Rule → Series
dates_of_rule start rule = record { kind = Days; start = start; start_counts = true; rules = rule ∷ []; excluded = []; plus = []; minus = [] }

-- the series that is drawn from a state: its start, then its rule
abbrev pub series_from : ℕ → Series
series_from x = dates_of_rule (drawn_start x) (drawn_rule (next_state x))

-- the state after the series
abbrev pub after_series : ℕ → ℕ
after_series x = after_rule (next_state x)

-- n series that are drawn from a state, one after the other
unfoldable pub series_list : ℕ → ℕ → List Series
series_list zero x = []
series_list (suc n) x = series_from x ∷ series_list n (after_series x)

-- the series that are drawn from a seed
abbrev pub drawn_series : ℕ → ℕ → List Series
drawn_series seed count = series_list count (seed % 2_147_483_648)

-- the series is drawn from some state
abbrev pub IsDrawn : Series → Type 0
IsDrawn series = (x : ℕ) × (series ≡ series_from x)
