-- The moments of UTC that a set of local times names in a zone (RFC 5545, section 3.3.5).
use Rattle.std.specs.Prelude.{◌≡◌, Option, None, Some, ℤ, pos, ◌+ℤ◌, ◌≤ℤ◌, ◌<ℤ◌}
use Rattle.rr_model.specs.Moment.{Occurrences}
use Rattle.rr_model.specs.declared.kind.Kind.{Kind}
use Rattle.rr_model.specs.declared.kind.Kind.TheVariants.{Moments}
use Rattle.rr_model.specs.Sets.Verdict.{HaveEqualOccurrences}
use Rattle.rr_true.specs.Moments.{IsOffset, IsTrueMoment}

-- u is the true moment of some local time of the set; dates have none
pub record TrueOf (offset : ℤ → ℤ) (P : Occurrences) (k : Kind) (u : ℤ) : Type 0 where
  pub kind : k ≡ Moments
  pub local : ℤ
  pub stands : P Moments local
  pub moment : IsTrueMoment offset local u

-- the set has no moment before q
abbrev pub HasNoMomentBefore : Occurrences → ℤ → Type 0
HasNoMomentBefore P q = (t : ℤ) → P Moments t → q ≤ℤ t

-- from q on the set repeats after c seconds
pub record OccurrencesRepeat (P : Occurrences) (q : ℤ) (c : ℤ) : Type 0 where
  pub later : (t : ℤ) → q ≤ℤ t → P Moments t → P Moments (t +ℤ c)
  pub earlier : (t : ℤ) → q ≤ℤ t → P Moments (t +ℤ c) → P Moments t

-- If a series states a zone, its moments are those of its local times there, whoever looks; without a zone they are those of the
-- observer's zone. A series in UTC states the zone that is never ahead.
abbrev pub MomentsFor : Option (ℤ → ℤ) → Occurrences → (ℤ → ℤ) → Occurrences
MomentsFor None P observer = TrueOf observer P
MomentsFor (Some zone) P observer = TrueOf zone P

-- local time is never ahead of UTC
abbrev pub utc : ℤ → ℤ
utc u = pos 0

-- each observer has equal moments of the two
abbrev pub AreEqualForAll : Option (ℤ → ℤ) → Occurrences → Option (ℤ → ℤ) → Occurrences → Type 0
AreEqualForAll z P w Q = (observer : ℤ → ℤ) → IsOffset observer → HaveEqualOccurrences (MomentsFor z P observer) (MomentsFor w Q observer)

-- the first moment of a set
pub record IsFirstOf (P : Occurrences) (t : ℤ) : Type 0 where
  pub stands : P Moments t
  pub first : (u : ℤ) → u <ℤ t → P Moments u → ⊥

-- The moment u of a local time t lies plainly: what names an earlier moment is an earlier local time, and no other one names u.
pub record IsPlain (offset : ℤ → ℤ) (t u : ℤ) : Type 0 where
  pub moment : IsTrueMoment offset t u
  pub earlier : (s v : ℤ) → IsTrueMoment offset s v → v <ℤ u → s <ℤ t
  pub alone : (s : ℤ) → IsTrueMoment offset s u → s ≡ t
