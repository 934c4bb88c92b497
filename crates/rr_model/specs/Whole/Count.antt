-- How many whole numbers of a stretch pass a test.
use Rattle.std.specs.Prelude.{ℕ, zero, suc, ◌+◌, Bool, if◌then◌else◌, ℤ, pos, ◌+ℤ◌}

-- 1 for true
abbrev pub one_if : Bool → ℕ
one_if b = if b then 1 else 0

-- how many of the n whole numbers from q on pass
unfoldable pub count_from : (ℤ → Bool) → ℤ → ℕ → ℕ
count_from test q zero = 0
count_from test q (suc n) = count_from test q n + (if test (q +ℤ pos n) then 1 else 0)
