-- How many seconds of days pass a test, in the order of time.
use Rattle.std.specs.Prelude.{ℕ, zero, suc, ◌+◌, Bool, if◌then◌else◌, ℤ, pos, nat_abs, ◌+ℤ◌, ◌-ℤ◌}
use Rattle.rr_model.specs.Calendar.{first_day_of_year}

-- how many of the first n seconds of a day pass
unfoldable pub count_seconds : (ℕ → Bool) → ℕ → ℕ
count_seconds test zero = 0
count_seconds test (suc n) = count_seconds test n + (if test n then 1 else 0)

-- how many seconds of the n days from q on pass
unfoldable pub count_days : (ℤ → ℕ → Bool) → ℤ → ℕ → ℕ
count_days test q zero = 0
count_days test q (suc n) = count_days test q n + count_seconds (test (q +ℤ pos n)) 86_400

-- how many seconds of the days from 0001-01-01 up to the day before this one pass
unfoldable pub count_before : (ℤ → ℕ → Bool) → ℤ → ℕ
count_before test day = count_days test (first_day_of_year (pos 1)) (nat_abs (day -ℤ first_day_of_year (pos 1)))

-- how many seconds of days from 0001-01-01 on pass that are not after this second of the day
unfoldable pub count_to : (ℤ → ℕ → Bool) → ℤ → ℕ → ℕ
count_to test day second = count_before test day + count_seconds (test day) (second + 1)
