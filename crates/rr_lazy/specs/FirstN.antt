-- How far an iterator over the first n occurrences has counted.
use Rattle.std.specs.Prelude.{◌≡◌, ℕ, ◌+◌, ◌≤◌, ℤ, pos, ◌≤ℤ◌}
use Rattle.rr_model.specs.Calendar.{first_day_of_year}
use Rattle.rr_model.specs.Sets.Counting.{count_before}
use Rattle.rr_model.specs.Sets.Tree.{Tree, first_n, stands_at}
use Rattle.rr_lazy.specs.Next.{IsSoundLazy}

-- `left` occurrences of the tree are still to be given from the position on, at which the part stands too; or none,
-- wherever it stands.
pub record IsCounting (tree : Tree) (own position : ℤ) (count left : ℕ) : Type 0 where
  pub begun : first_day_of_year (pos 1) ≤ℤ position
  pub together : 1 ≤ left → own ≡ position
  pub counted : 1 ≤ left → count_before (λ d s. stands_at tree d s) position + left ≡ count
  pub spent : left ≡ 0 → count ≤ count_before (λ d s. stands_at tree d s) position

-- an iterator over the first n occurrences of a sound part is sound
pub sound_first : (tree : Tree) (own position : ℤ) (count left : ℕ) → IsSoundLazy tree own → IsCounting tree own position count left
    → IsSoundLazy (first_n tree count) position
sound_first tree own position count left s c = record { of_kind = s.of_kind; in_years = c.begun }
