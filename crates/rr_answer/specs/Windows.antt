-- What is said of occurrences from a moment on, and of those between two.
use Rattle.std.specs.Prelude.{◌≡◌, ◌⊎◌, ℕ, ◌<◌, ◌≤◌, ℤ, List, length, take, Contains}
use Rattle.rr_model.specs.declared.kind.Kind.{Kind}
use Rattle.rr_next.specs.First.{AreFirst}
use Rattle.rr_next.specs.Window.{between, from_on}
use Rattle.rr_next.specs.declared.number.Moment.{Moment}
use Rattle.rr_answer.specs.Listing.{ListsFirst, listed_text}
use Rattle.rr_answer.specs.Said.{Answer, IsDone}
use Rattle.rr_answer.specs.Subjects.{OccursIn, Subject, kind_of}
use Rattle.rr_answer.specs.declared.quantities.TheConstants.{MAX_LIST}
use Rattle.rr_answer.specs.declared.status.Status.{Status}
use Rattle.rr_answer.specs.declared.status.Status.TheVariants as status

-- ---- from a moment on

-- `from`: the first n occurrences that do not come before the moment, one a line
abbrev pub IsFromSaid : Moment → ℕ → Subject → Answer → Type 0
IsFromSaid moment n s answer = IsDone (ListsFirst (from_on (OccursIn s) moment.kind moment.at (kind_of s)) (kind_of s) n) answer

-- ---- between two moments

-- Yes if all that have the property are in the list, otherwise No
abbrev pub TellsIfAll : (ℤ → Type 0) → List ℤ → Status → Type 0
TellsIfAll P ts ends =
    (((t : ℤ) → P t → Contains ts t) × (ends ≡ status.Yes)) ⊎ (((t : ℤ) × P t × (Contains ts t → ⊥)) × (ends ≡ status.No))

-- the first 100,000 dates or moments of a kind that have the property, one a line, and whether these are all
pub record IsWindowSaid (P : ℤ → Type 0) (kind : Kind) (answer : Answer) : Type 0 where
  pub times : List ℤ
  pub are_first : AreFirst P MAX_LIST times
  pub lines : answer.bytes ≡ listed_text kind times
  pub whole : TellsIfAll P times answer.status

-- `between`: the occurrences that do not come before one moment, and come before the other
abbrev pub IsBetweenSaid : Moment → Moment → Subject → Answer → Type 0
IsBetweenSaid from to s answer = IsWindowSaid (between (OccursIn s) from.kind from.at to.kind to.at (kind_of s)) (kind_of s) answer

-- these dates or moments, one a line; if there are more than 100,000, the first of them with No
abbrev pub AreTimesSaid : Kind → List ℤ → Answer → Type 0
AreTimesSaid kind ts answer =
    ((length ts ≤ MAX_LIST) × (answer ≡ record { status = status.Yes; bytes = listed_text kind ts }))
    ⊎ ((MAX_LIST < length ts) × (answer ≡ record { status = status.No; bytes = listed_text kind (take MAX_LIST ts) }))
