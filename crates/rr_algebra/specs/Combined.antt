-- Unions, common parts and differences of sets of occurrences.
use Rattle.std.specs.Prelude.{◌≡◌, ◌≢◌, ◌⊎◌, ℕ, ◌<◌, if◌then◌else◌, List, [], All, AllPairs, Contains, nat_lt, ⊤, Result, Ok, Err, ℤ, pos, ◌+ℤ◌, ◌≤ℤ◌}
use Rattle.rr_model.specs.Bounds.{latest_near}
use Rattle.rr_model.specs.Moment.{Occurrences, is_same_kind}
use Rattle.rr_model.specs.Rising.Sets.{IsSetOf}
use Rattle.rr_model.specs.Sets.Sizes.{total_size}
use Rattle.rr_model.specs.Sets.Sketch.{IsEmptySketch, StandsFor, StandsIn, times_on}
use Rattle.rr_model.specs.Whole.Divisors.{lcm}
use Rattle.rr_model.specs.declared.limits.TheConstants.{MAX_SECONDS}
use Rattle.rr_model.specs.declared.refusal.Fault.{Fault}
use Rattle.rr_model.specs.declared.refusal.Fault.TheVariants.{Refused, NoMemory}
use Rattle.rr_model.specs.declared.refusal.Refusal.{Refusal}
use Rattle.rr_model.specs.declared.sketch.Sketch.{Sketch}
use Rattle.rr_days.specs.MadeSets.{HoldsFor}
use Rattle.rr_days.specs.declared.op.Op.{Op}
use Rattle.rr_days.specs.declared.op.Op.TheVariants.{Union, Common, Minus}

-- ---- what is in the result

-- an occurrence is in the union, the common part or the difference of two sets
abbrev pub combined_occurrences : Op → Occurrences → Occurrences → Occurrences
combined_occurrences op P Q k t = HoldsFor op (P k t) (Q k t)

-- exactly the occurrences of the union, the common part or the difference of two sets stand in the third
abbrev pub StandsForBoth : Op → Sketch → Sketch → Sketch → Type 0
StandsForBoth op s u c = StandsFor c (combined_occurrences op (StandsIn s) (StandsIn u))

-- one common period of both sets from this day on ends no later than the latest day of a day sequence
abbrev pub EndsNear : Sketch → Sketch → ℤ → Type 0
EndsNear s u day = (day +ℤ pos (lcm s.period u.period)) ≤ℤ latest_near

-- ---- when there is none

-- neither set is empty, and their kinds differ
pub record AreMixed (s u : Sketch) : Type 0 where
  pub first : IsEmptySketch s → ⊥
  pub second : IsEmptySketch u → ⊥
  pub kinds : s.kind ≢ u.kind

-- a union of such sets has no kind
abbrev pub IsMixedUnion : Op → Sketch → Sketch → Type 0
IsMixedUnion Union s u = AreMixed s u
IsMixedUnion Common s u = ⊥
IsMixedUnion Minus s u = ⊥

-- the seconds of the second set on a day, as far as they can be those of the first: none of another kind
abbrev pub times_beside : Op → Sketch → Sketch → ℤ → List ℕ
times_beside Union s u d = times_on u d
times_beside op s u d = if is_same_kind s.kind u.kind then times_on u d else []

-- the list is the time set of a day of the result
pub record IsCombinedTimeSet (op : Op) (s u : Sketch) (times : List ℕ) : Type 0 where
  pub day : ℤ
  pub all : IsSetOf nat_lt times (λ x. HoldsFor op (Contains (times_on s day) x) (Contains (times_beside op s u day) x))

-- distinct time sets of days of the result have together more than 16,777,216 seconds
pub record HasTooManyCombined (op : Op) (s u : Sketch) : Type 0 where
  pub sets : List (List ℕ)
  pub distinct : AllPairs (λ a b. a ≢ b) sets
  pub occupied : All (λ times. times ≢ [] → IsCombinedTimeSet op s u times) sets
  pub above : MAX_SECONDS < total_size sets

-- the answer: first mixed sets are refused, then too many moments; running out of memory may come in place of each
abbrev pub IsCombinedJudged : {X : Type 0} → Refusal → Refusal → Op → Sketch → Sketch → Result X Fault → Type 0
IsCombinedJudged mixed many op s u (Ok x) = (IsMixedUnion op s u → ⊥) × (HasTooManyCombined op s u → ⊥)
IsCombinedJudged mixed many op s u (Err (Refused refusal)) =
    ((refusal ≡ mixed) × IsMixedUnion op s u) ⊎ ((refusal ≡ many) × (IsMixedUnion op s u → ⊥) × HasTooManyCombined op s u)
IsCombinedJudged mixed many op s u (Err NoMemory) = ⊤
