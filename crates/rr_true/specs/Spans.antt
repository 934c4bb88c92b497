-- Stretches of moments with one offset, by which the moment of a local time is found (RFC 5545, section 3.3.5).
use Rattle.std.specs.Prelude.{◌≡◌, ◌<◌, ◌≤◌, ℕ, List, length, slice_index_or, Option, None, Some, ℤ, ◌+ℤ◌, ◌≤ℤ◌, ◌<ℤ◌}
use Rattle.rr_true.specs.Moments.{local_at}
use Rattle.rr_true.specs.declared.change.Change.{Change}
use Rattle.rr_true.specs.declared.span.Span.{Span}

-- the first `count` of rising changes, and no others, are not after a moment
pub record IsCountUpTo (changes : List Change) (at : ℤ) (count : ℕ) : Type 0 where
  pub within : count ≤ length changes
  pub below : (k : ℕ) (d : Change) → k < count → (slice_index_or changes k d).at ≤ℤ at
  pub from : (k : ℕ) (d : Change) → count ≤ k → k < length changes → at <ℤ (slice_index_or changes k d).at

-- from a moment up to, but without, a later one the offset stays the same
pub record IsSpan (offset : ℤ → ℤ) (from : ℤ) (span : Span) : Type 0 where
  pub one : (v : ℤ) → from ≤ℤ v → v <ℤ span.end → offset v ≡ span.offset
  pub later : from <ℤ span.end

-- the first moment at which a local time is reached or passed
pub record IsFirstReached (offset : ℤ → ℤ) (t u : ℤ) : Type 0 where
  pub reached : t ≤ℤ local_at offset u
  pub first : (v : ℤ) → v <ℤ u → local_at offset v <ℤ t

-- the first moment from some moment on that has a local time; none if none has it
abbrev pub IsFirstFrom : (ℤ → ℤ) → ℤ → ℤ → Option ℤ → Type 0
IsFirstFrom offset from t None = (v : ℤ) → from ≤ℤ v → local_at offset v ≡ t → ⊥
IsFirstFrom offset from t (Some u) =
    (from ≤ℤ u) × (local_at offset u ≡ t) × ((v : ℤ) → from ≤ℤ v → v <ℤ u → local_at offset v ≡ t → ⊥)

-- the moment of a stretch from some moment on that has a local time by the offset of the stretch; none if none has it
abbrev pub IsNamedIn : ℤ → Span → ℤ → Option ℤ → Type 0
IsNamedIn from span t None = (v : ℤ) → from ≤ℤ v → v <ℤ span.end → v +ℤ span.offset ≡ t → ⊥
IsNamedIn from span t (Some u) = (from ≤ℤ u) × (u <ℤ span.end) × (u +ℤ span.offset ≡ t)
