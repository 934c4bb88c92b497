-- The cycles of the series that are drawn.
use Rattle.std.specs.Prelude.{ℕ, ◌==◌, Bool, List, [], ◌∷◌}
use Rattle.std.specs.List.{list_any}

-- in days: of DAILY up to 10, of WEEKLY up to 4 weeks, and of MONTHLY and YEARLY 1, 3, 7 or 11 times 400 years
abbrev pub cycles : List ℕ
cycles =
    1 ∷ 2 ∷ 3 ∷ 4 ∷ 5 ∷ 6 ∷ 7 ∷ 8 ∷ 9 ∷ 10 ∷ 14 ∷ 21 ∷ 28 ∷ 146_097 ∷ 438_291 ∷ 1_022_679 ∷ 1_607_067 ∷ []

-- the number is one of the listed cycles
unfoldable pub is_drawn_cycle : ℕ → Bool
is_drawn_cycle n = list_any (λ cycle. cycle == n) cycles
