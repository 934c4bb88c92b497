-- The next difference of two sequences of one kind.
use Rattle.std.specs.Prelude.{◌+◌, ℕ, ◌<◌, ◌≤◌, List, Contains, ℤ, pos, ◌+ℤ◌, ◌≤ℤ◌, ◌<ℤ◌}
use Rattle.rr_model.specs.Sets.Sketch.{StandsIn}
use Rattle.rr_model.specs.Sets.Verdict.{HoldsOnlyOf}
use Rattle.rr_model.specs.declared.sketch.Sketch.{Sketch}
use Rattle.rr_model.specs.declared.verdict.Side.{Side}
use Rattle.rr_differ.specs.Differences.{IsDifference}
use Rattle.rr_differ.specs.declared.difference.Difference.{Difference}

-- ---- seconds of one day

-- no second from this one on is in exactly one of the two lists
abbrev pub AgreeAfter : List ℕ → List ℕ → ℕ → Type 0
AgreeAfter xs ys from = (w : ℕ) (side : Side) → from ≤ w → HoldsOnlyOf side (Contains xs w) (Contains ys w) → ⊥

-- from one second on this is the first that is in exactly one of the two lists, that of this side
pub record IsFirstAfter (xs ys : List ℕ) (from second : ℕ) (side : Side) : Type 0 where
  pub not_before : from ≤ second
  pub holds : HoldsOnlyOf side (Contains xs second) (Contains ys second)
  pub none_earlier : (w : ℕ) (r : Side) → from ≤ w → w < second → HoldsOnlyOf r (Contains xs w) (Contains ys w) → ⊥

-- ---- occurrences

-- no difference has this number or a greater one
abbrev pub HaveNoneFrom : Sketch → Sketch → ℤ → Type 0
HaveNoneFrom s u at = (d : Difference) → at ≤ℤ d.at → IsDifference (StandsIn s) (StandsIn u) d → ⊥

-- no difference has a lesser number
abbrev pub HaveNoneBefore : Sketch → Sketch → ℤ → Type 0
HaveNoneBefore s u at = (d : Difference) → d.at <ℤ at → IsDifference (StandsIn s) (StandsIn u) d → ⊥

-- it is the difference with the least number from this one on
pub record IsNextDifference (s u : Sketch) (at : ℤ) (d : Difference) : Type 0 where
  pub not_before : at ≤ℤ d.at
  pub differs : IsDifference (StandsIn s) (StandsIn u) d
  pub none_earlier : (e : Difference) → at ≤ℤ e.at → e.at <ℤ d.at → IsDifference (StandsIn s) (StandsIn u) e → ⊥

-- the day comes within both periods together after each day that lies before neither this one nor a settled day
abbrev pub IsSoonAfter : Sketch → Sketch → ℤ → ℤ → Type 0
IsSoonAfter s u from day = (q : ℤ) → from ≤ℤ q → s.settled ≤ℤ q → u.settled ≤ℤ q → day ≤ℤ (q +ℤ pos (s.period + u.period))
