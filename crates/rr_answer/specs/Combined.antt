-- What is said of two sets of occurrences that are combined: of their union, their common part or their difference.
use Rattle.std.specs.Prelude.{◌≡◌, ◌≢◌, ◌⊎◌, ℕ, ◌<◌, List, [], All, AllPairs, nat_lt, ℤ}
use Rattle.rr_algebra.specs.Combined.{combined_occurrences}
use Rattle.rr_algebra.specs.Laws.{HasNone}
use Rattle.rr_days.specs.declared.op.Op.{Op}
use Rattle.rr_days.specs.declared.op.Op.TheVariants.{Union, Common, Minus}
use Rattle.rr_canon.specs.Versions.{text_in}
use Rattle.rr_canon.specs.declared.version.Version.TheVariants.{Second}
use Rattle.rr_model.specs.Moment.{Occurrences, day_part, second_part}
use Rattle.rr_model.specs.Rising.Sets.{IsSetOf}
use Rattle.rr_model.specs.Sets.Printable.{IsTextOf}
use Rattle.rr_model.specs.Sets.Sizes.{total_size}
use Rattle.rr_model.specs.declared.kind.Kind.{Kind}
use Rattle.rr_model.specs.declared.limits.TheConstants.{MAX_SECONDS}
use Rattle.rr_model.specs.declared.refusal.Refusal.TheVariants.{MixedSets, TooManyMoments}
use Rattle.rr_model.specs.declared.verdict.Side.TheVariants.{Both}
use Rattle.rr_answer.specs.Said.{Answer, IsDone, answer_of_refusal}

-- ---- sets of two kinds

-- neither set is empty, and one is of dates and the other of moments
pub record HaveTwoKinds (P Q : Occurrences) : Type 0 where
  pub some : HasNone P → ⊥
  pub others : HasNone Q → ⊥
  pub kinds : (k l : Kind) (t u : ℤ) → P k t → Q l u → k ≢ l

-- a union of such sets has no kind
abbrev pub IsMixed : Op → Occurrences → Occurrences → Type 0
IsMixed Union P Q = HaveTwoKinds P Q
IsMixed Common P Q = ⊥
IsMixed Minus P Q = ⊥

-- ---- time sets

-- something occurs at this second of this day
abbrev pub OccursAt : Occurrences → ℤ → ℕ → Type 0
OccursAt P day second = (k : Kind) × (t : ℤ) × P k t × (day_part k t ≡ day) × (second_part k t ≡ second)

-- the list is the time set of a day
pub record IsTimeSetOf (P : Occurrences) (times : List ℕ) : Type 0 where
  pub day : ℤ
  pub all : IsSetOf nat_lt times (OccursAt P day)

-- Distinct time sets of days have together more than 16,777,216 seconds. The empty set adds none, so it may be among them.
pub record HasTooManySeconds (P : Occurrences) : Type 0 where
  pub sets : List (List ℕ)
  pub distinct : AllPairs (λ a b. a ≢ b) sets
  pub occupied : All (λ times. times ≢ [] → IsTimeSetOf P times) sets
  pub above : MAX_SECONDS < total_size sets

-- ---- what is said

-- that the sets are mixed, else that the result has too many moments, else its canonical text
abbrev pub IsCombinedSaid : Op → Occurrences → Occurrences → Answer → Type 0
IsCombinedSaid op P Q answer =
    (IsMixed op P Q × (answer ≡ answer_of_refusal Both MixedSets))
    ⊎ ((IsMixed op P Q → ⊥) × HasTooManySeconds (combined_occurrences op P Q) × (answer ≡ answer_of_refusal Both TooManyMoments))
    ⊎ ((IsMixed op P Q → ⊥) × (HasTooManySeconds (combined_occurrences op P Q) → ⊥) × IsDone (IsTextOf (text_in Second) (combined_occurrences op P Q)) answer)
