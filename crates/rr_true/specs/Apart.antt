-- From when on one zone is ahead of another by as much as ever after (offsets: RFC 5545, sections 3.3.14 and 3.6.5).
use Rattle.std.specs.Prelude.{◌≡◌, if◌then◌else◌, ℤ, pos, neg_ℤ, ◌+ℤ◌, ◌-ℤ◌, ◌≤ℤ◌, ◌<ℤ◌}
use Rattle.std.specs.Ordering.{int_eq}
use Rattle.rr_true.specs.declared.parted.Apart.{Apart}

-- from some moment on the first zone is always as far ahead of the second; by 0, they are one
abbrev pub AreApart : (ℤ → ℤ) → (ℤ → ℤ) → Apart → Type 0
AreApart f g apart = (u : ℤ) → apart.from ≤ℤ u → f u ≡ g u +ℤ apart.by

-- however late, they are apart by other differences later still
abbrev pub AreNeverApart : (ℤ → ℤ) → (ℤ → ℤ) → Type 0
AreNeverApart f g = (apart : Apart) → AreApart f g apart → ⊥

-- a second sooner they are not, unless that is earlier than all that is asked for
abbrev pub AreNoSoonerApart : (ℤ → ℤ) → (ℤ → ℤ) → Apart → Type 0
AreNoSoonerApart f g apart =
    neg_ℤ (pos 400_000_000_000_000_000) <ℤ apart.from → f (apart.from -ℤ pos 1) ≡ g (apart.from -ℤ pos 1) +ℤ apart.by → ⊥

-- what is found, or from this moment on if the difference is another one
abbrev pub parted_by : Apart → ℤ → ℤ → Apart
parted_by found at by = if int_eq found.by by then found else record { from = at; by = by }

-- up to a moment they are apart by one difference from some moment on, and no sooner
pub record IsPartedTo (f g : ℤ → ℤ) (end : ℤ) (apart : Apart) : Type 0 where
  pub one : (u : ℤ) → apart.from ≤ℤ u → u <ℤ end → f u ≡ g u +ℤ apart.by
  pub before : AreNoSoonerApart f g apart
  pub within : apart.from <ℤ end
