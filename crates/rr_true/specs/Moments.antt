-- The moment of UTC that a local time names (RFC 5545, section 3.3.5). A zone says, at each moment of UTC, how far local time is ahead.
use Rattle.std.specs.Prelude.{◌≡◌, ◌⊎◌, ℤ, pos, neg_ℤ, ◌+ℤ◌, ◌-ℤ◌, ◌<ℤ◌}

-- local time at a moment of UTC
abbrev pub local_at : (ℤ → ℤ) → ℤ → ℤ
local_at offset u = u +ℤ offset u

-- local time is less than a day ahead of UTC or behind it
abbrev pub IsOffset : (ℤ → ℤ) → Type 0
IsOffset offset = (u : ℤ) → (neg_ℤ (pos 86_400) <ℤ offset u) × (offset u <ℤ pos 86_400)

-- u is the first moment with this local time
pub record IsFirstMoment (offset : ℤ → ℤ) (t u : ℤ) : Type 0 where
  pub has : local_at offset u ≡ t
  pub first : (v : ℤ) → v <ℤ u → local_at offset v ≡ t → ⊥

-- no moment has this local time: a gap passes over it, and u is read by the offset before the gap
pub record IsSkippedMoment (offset : ℤ → ℤ) (t u : ℤ) : Type 0 where
  pub none : (v : ℤ) → local_at offset v ≡ t → ⊥
  pub gap : ℤ
  pub past : t <ℤ local_at offset gap
  pub not_before : (v : ℤ) → v <ℤ gap → local_at offset v <ℤ t
  pub read : u ≡ t -ℤ offset (gap -ℤ pos 1)

-- The moment that a local time names: the first that has it, otherwise by the offset before the gap.
abbrev pub IsTrueMoment : (ℤ → ℤ) → ℤ → ℤ → Type 0
IsTrueMoment offset t u = IsFirstMoment offset t u ⊎ IsSkippedMoment offset t u
