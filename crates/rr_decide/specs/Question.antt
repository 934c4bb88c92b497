-- A question about two sets: its verdict, and the sides on which an occurrence shows that the answer is no.
use Rattle.std.specs.Prelude.{⊤, Bool, true, false, IsTrue, ℕ, ◌<◌, ◌≤◌, ℤ, pos, ◌+ℤ◌, ◌≤ℤ◌, ◌<ℤ◌, List, [], ◌≡◌, Option, MatchOption}
use Rattle.std.specs.List.{Contains}
use Rattle.rr_model.specs.Moment.{Before, Occurrences}
use Rattle.rr_model.specs.Sets.Sketch.{StandsIn, times_on}
use Rattle.rr_model.specs.Sets.Verdict.{HoldsOn, IsDisjointVerdict, IsEqualVerdict, IsWithinVerdict}
use Rattle.rr_model.specs.declared.kind.Kind.{Kind}
use Rattle.rr_model.specs.declared.limits.TheConstants.{MAX_CYCLE_DAYS}
use Rattle.rr_model.specs.declared.sketch.Sketch.{Sketch}
use Rattle.rr_model.specs.declared.verdict.Side.{Side}
use Rattle.rr_model.specs.declared.verdict.Side.TheVariants.{A, B, Both}
use Rattle.rr_model.specs.declared.verdict.Verdict.{Verdict}
use Rattle.rr_model.specs.declared.verdict.Verdict.TheVariants.{Yes, No}
use Rattle.rr_model.specs.declared.question.Question.{Question}
use Rattle.rr_model.specs.declared.question.Question.TheVariants.{Equal, Within, Disjoint}

-- the verdict that is asked for
abbrev pub IsVerdictTo : Question → Occurrences → Occurrences → Verdict → Type 0
IsVerdictTo Equal P Q verdict = IsEqualVerdict P Q verdict
IsVerdictTo Within P Q verdict = IsWithinVerdict P Q verdict
IsVerdictTo Disjoint P Q verdict = IsDisjointVerdict P Q verdict

-- sets that repeat together after `days` days do so soon enough for the question; for equality all do
abbrev pub IsSoonEnough : Question → ℕ → Type 0
IsSoonEnough Equal days = ⊤
IsSoonEnough Within days = days ≤ MAX_CYCLE_DAYS
IsSoonEnough Disjoint days = days ≤ MAX_CYCLE_DAYS

-- an occurrence on this side shows that the answer is no
abbrev pub shown_by : Question → Side → Bool
shown_by Equal A = true
shown_by Equal B = true
shown_by Equal Both = false
shown_by Within A = true
shown_by Within B = false
shown_by Within Both = false
shown_by Disjoint A = false
shown_by Disjoint B = false
shown_by Disjoint Both = true

-- the two facts hold on a side for which `shows` is true
abbrev pub IsShown : (Side → Bool) → Type 0 → Type 0 → Type 0
IsShown shows P Q = (side : Side) × IsTrue (shows side) × HoldsOn side P Q

-- Yes if no occurrence lies on a side for which `shows` is true; otherwise No with the first such occurrence
abbrev pub IsVerdictBy : (Side → Bool) → Occurrences → Occurrences → Verdict → Type 0
IsVerdictBy shows P Q Yes = (k : Kind) (t : ℤ) → IsShown shows (P k t) (Q k t) → ⊥
IsVerdictBy shows P Q (No k t side) =
    IsTrue (shows side) × HoldsOn side (P k t) (Q k t) × ((l : Kind) (u : ℤ) → Before l u k t → IsShown shows (P l u) (Q l u) → ⊥)

-- the verdict on two sketches: no by the first occurrence that shows it for the question
abbrev pub IsVerdictOn : Question → Sketch → Sketch → Verdict → Type 0
IsVerdictOn question s u verdict = IsVerdictBy (shown_by question) (StandsIn s) (StandsIn u) verdict

-- ---- on one day

-- no second of the two lists lies on a side for which `shows` is true
abbrev pub ShowsNone : (Side → Bool) → List ℕ → List ℕ → Type 0
ShowsNone shows xs ys = (w : ℕ) → IsShown shows (Contains xs w) (Contains ys w) → ⊥

-- for each index below n: no second of two lists lies on a side for which `shows` is true, if the first list is empty at an
-- index below a, and the second at an index below b
abbrev pub ShowsNoneBelow : (Side → Bool) → ℕ → ℕ → ℕ → Type 0
ShowsNoneBelow shows a b n = (k : ℕ) → k < n → (xs ys : List ℕ) → (k < a → xs ≡ []) → (k < b → ys ≡ []) → ShowsNone shows xs ys

-- the first second of the two lists that lies on a side for which `shows` is true, and this side
pub record IsFirstShown (shows : Side → Bool) (xs ys : List ℕ) (second : ℕ) (side : Side) : Type 0 where
  pub shown : IsTrue (shows side)
  pub holds : HoldsOn side (Contains xs second) (Contains ys second)
  pub none_below : (w : ℕ) → w < second → IsShown shows (Contains xs w) (Contains ys w) → ⊥

-- the first second of the two lists that shows a no to the question, with its side; None if no second does
abbrev pub IsFirstSecondShown : Question → List ℕ → List ℕ → Option (ℕ × Side) → Type 0
IsFirstSecondShown question xs ys first =
    MatchOption first (ShowsNone (shown_by question) xs ys) (λ r. IsFirstShown (shown_by question) xs ys r.0 r.1)

-- ---- on many days

-- no day from `from` on and before `to` has a second on a side for which `shows` is true
abbrev pub ShowsNoneWithin : (Side → Bool) → Sketch → Sketch → ℤ → ℤ → Type 0
ShowsNoneWithin shows s u from to = (d : ℤ) → from ≤ℤ d → d <ℤ to → ShowsNone shows (times_on s d) (times_on u d)

-- none of `days` days from this one on shows a no to the question
abbrev pub ShowsNoneFor : Question → Sketch → Sketch → ℤ → ℕ → Type 0
ShowsNoneFor question s u from days = ShowsNoneWithin (shown_by question) s u from (from +ℤ pos days)

-- from one day on this day is the first that shows it, by this second on this side
pub record IsFirstDayShown (shows : Side → Bool) (s u : Sketch) (from day : ℤ) (second : ℕ) (side : Side) : Type 0 where
  pub not_before : from ≤ℤ day
  pub none_earlier : ShowsNoneWithin shows s u from day
  pub on_day : IsFirstShown shows (times_on s day) (times_on u day) second side

-- if n days in a row past both settled days show nothing, no later day does
abbrev pub IsWindow : (Side → Bool) → Sketch → Sketch → ℕ → Type 0
IsWindow shows s u n =
    (q : ℤ) → s.settled ≤ℤ q → u.settled ≤ℤ q → ShowsNoneWithin shows s u q (q +ℤ pos n) → (d : ℤ) → q ≤ℤ d → ShowsNone shows (times_on s d) (times_on u d)

-- ---- first occurrences

-- no day before this one is occupied
abbrev pub HasNoneBefore : Sketch → ℤ → Type 0
HasNoneBefore s from = (d : ℤ) → d <ℤ from → times_on s d ≡ []

-- the occurrence stands in the sketch, and none that does comes before it
pub record IsFirstOccurrence (s : Sketch) (k : Kind) (t : ℤ) : Type 0 where
  pub stands : StandsIn s k t
  pub none_before : (l : Kind) (u : ℤ) → Before l u k t → StandsIn s l u → ⊥

-- the two have no common occurrence
abbrev pub AreApart : Occurrences → Occurrences → Type 0
AreApart P Q = (k : Kind) (t : ℤ) → P k t → Q k t → ⊥

-- the two sketches have no common occurrence
abbrev pub ShareNothing : Sketch → Sketch → Type 0
ShareNothing s u = AreApart (StandsIn s) (StandsIn u)
