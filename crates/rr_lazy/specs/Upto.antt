-- Where an iterator ends at a moment.
use Rattle.std.specs.Prelude.{◌≡◌, ℕ, ◌<◌, IsTrue, List, Contains, nat_lt, int_le, ℤ, pos, ◌≤ℤ◌}
use Rattle.rr_model.specs.Calendar.{first_day_of_year}
use Rattle.rr_model.specs.Moment.{moment_at}
use Rattle.rr_model.specs.Rising.Sets.{IsSetOf}
use Rattle.rr_model.specs.declared.kind.Kind.{Kind}
use Rattle.rr_model.specs.Sets.Tree.{Tree, upto, IsOfOneKind}
use Rattle.rr_lazy.specs.Next.{IsSoundLazy}

-- the seconds of a day that are not after the moment are those below this one
abbrev pub IsSecondsTo : Kind → ℤ → ℤ → ℕ → Type 0
IsSecondsTo kind at day bound = (s : ℕ) → s < 86_400 → int_le (moment_at kind day s) at ≡ nat_lt s bound

-- the seconds of a day that are not after the moment `at`
abbrev pub IsUpTo : Kind → ℤ → ℤ → List ℕ → List ℕ → Type 0
IsUpTo kind at day times kept = IsSetOf nat_lt kept (λ s. Contains times s × IsTrue (int_le (moment_at kind day s) at))

pub sound_upto : (tree : Tree) (kind : Kind) (at position : ℤ) → IsOfOneKind (upto tree kind at) → first_day_of_year (pos 1) ≤ℤ position
    → IsSoundLazy (upto tree kind at) position
sound_upto tree kind at position k b = record { of_kind = k; in_years = b }
