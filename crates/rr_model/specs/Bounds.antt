-- The bounds that clauses state of days and periods. Days are counted from 1970-01-01, which is day 0.
use Rattle.std.specs.Prelude.{ℕ, ℤ, pos, neg_ℤ}

-- the days from 0001-01-01 to 1970-01-01
abbrev pub days_before_1970 : ℕ
days_before_1970 = 719_162

-- 0001-01-01, the first day of all years that are read and written
abbrev pub first_day_of_all : ℤ
first_day_of_all = neg_ℤ (pos days_before_1970)

-- the earliest day that a call takes, -MAX_DAY
abbrev pub earliest_taken : ℤ
earliest_taken = neg_ℤ (pos 3_000_000_000_000)

-- the latest day that a call takes, MAX_DAY
abbrev pub latest_taken : ℤ
latest_taken = pos 3_000_000_000_000

-- the earliest day up to which a walk is asked, 1,000 days after -MAX_DAY: days beside it and their moments don't overflow
abbrev pub earliest_day : ℤ
earliest_day = neg_ℤ (pos 2_999_999_999_000)

-- the latest day up to which a walk is asked, 1,000 days before MAX_DAY, for the same reason
abbrev pub latest_day : ℤ
latest_day = pos 2_999_999_999_000

-- the earliest day that a day sequence names: none before it is occupied
abbrev pub earliest_near : ℤ
earliest_near = neg_ℤ (pos 1_000_000_000)

-- the latest day that a day sequence names: from one no later on it repeats
abbrev pub latest_near : ℤ
latest_near = pos 1_000_000_000

-- the most days of a day sequence's period, and so of a stretch of it and of a divisor
abbrev pub longest_period : ℕ
longest_period = 1_000_000_000
