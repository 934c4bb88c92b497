-- A zone as its first offset and the changes after it, which repeat after whole days from some moment on (RFC 5545, section 3.6.5).
use Rattle.std.specs.Prelude.{ℕ, ◌*◌, ◌≤◌, List, [], ◌∷◌, if◌then◌else◌, ℤ, pos, neg_ℤ, ◌+ℤ◌, ◌-ℤ◌, ◌≤ℤ◌, ◌<ℤ◌, int_lt, map}
use Rattle.std.specs.Int.{◌∣◌}
use Rattle.std.specs.List.{All}
use Rattle.rr_model.specs.Rising.{Rises}
use Rattle.rr_model.specs.Whole.{floor_mod}
use Rattle.rr_true.specs.Near.{IsNear}
use Rattle.rr_true.specs.declared.change.Change.{Change}

-- local time less UTC at a moment of UTC: that of the last change not after it
abbrev pub offset_by : ℤ → List Change → ℤ → ℤ
offset_by offset [] u = offset
offset_by offset (change ∷ changes) u = if int_lt u change.at then offset else offset_by change.offset changes u

-- the moment of the first cycle that a later moment repeats; one before the settled moment is itself
abbrev pub moment_in_cycle : ℤ → ℕ → ℤ → ℤ
moment_in_cycle settled c u = if int_lt u settled then u else settled +ℤ pos (floor_mod (u -ℤ settled) c)

-- local time less UTC at a moment of UTC, for ever
abbrev pub offsets_of : ℤ → List Change → ℤ → ℕ → ℤ → ℤ
offsets_of initial changes settled days u = offset_by initial changes (moment_in_cycle settled (days * 86_400) u)

-- less than a day either way
abbrev pub IsBelowDay : ℤ → Type 0
IsBelowDay offset = (neg_ℤ (pos 86_400) <ℤ offset) × (offset <ℤ pos 86_400)

-- the moment of a change
abbrev pub moment_of : Change → ℤ
moment_of change = change.at

-- a settled moment: within 1,000,000,000 days of 1970-01-01
abbrev pub IsSettledNear : ℤ → Type 0
IsSettledNear settled = (neg_ℤ (pos 86_400_000_000_000) ≤ℤ settled) × (settled ≤ℤ pos 86_400_000_000_000)

-- Offsets are less than a day, changes rise, nothing is far, and 400 years are a whole number of cycles.
pub record AreSoundChanges (initial : ℤ) (changes : List Change) (settled : ℤ) (days : ℕ) : Type 0 where
  pub first : IsBelowDay initial
  pub offsets : All (λ change. IsBelowDay change.offset) changes
  pub near : All (λ change. IsNear change.at) changes
  pub rising : Rises int_lt (map moment_of changes)
  pub settled_near : IsSettledNear settled
  pub some_days : 1 ≤ days
  pub divides : days ∣ 146_097

-- what is known of a zone
pub record ZoneOffsets : Type 0 where
  pub initial : ℤ
  pub changes : List Change
  pub settled : ℤ
  pub days : ℕ

-- local time less UTC at each moment of UTC
unfoldable pub offset_of : ZoneOffsets → ℤ → ℤ
offset_of zone u = offsets_of zone.initial zone.changes zone.settled zone.days u
