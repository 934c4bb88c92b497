-- From which day on two sets have the same occurrences.
use Rattle.std.specs.Prelude.{◌≡◌, ℤ, ◌≤ℤ◌}
use Rattle.rr_model.specs.Sets.Sketch.{IsValidSketch, times_on}
use Rattle.rr_model.specs.declared.sketch.Sketch.{Sketch}

-- the two have the same occurrences on each day from this one on
abbrev pub AgreeFrom : Sketch → Sketch → ℤ → Type 0
AgreeFrom s u from = (d : ℤ) → from ≤ℤ d → times_on s d ≡ times_on u d

-- Two sets that agree from some day on agree from each day on from which both repeat.
abbrev pub AgreementIsSettled : Type 0
AgreementIsSettled = (s u : Sketch) (from day : ℤ) → IsValidSketch s → IsValidSketch u → s.settled ≤ℤ day → u.settled ≤ℤ day
    → AgreeFrom s u from → AgreeFrom s u day
