-- The days of steps as numbers of their sets, one for each day from the first one on, 0 if a day is not occupied.
use Rattle.std.specs.Prelude.{◌≡◌, ◌↔◌, ℕ, ◌+◌, ◌-◌, ◌<◌, ◌≤◌, List, [], ◌∷◌, ◌++◌, length, map, replicate, ⊤, Result, Ok, Err, Vec}
use Rattle.std.specs.Global.{Global}
use Rattle.rr_model.specs.Sets.Descriptor.{Step}
use Rattle.rr_model.specs.Sets.Reading.{steps_of_runs}
use Rattle.rr_model.specs.declared.refusal.Fault.{Fault}
use Rattle.rr_model.specs.declared.refusal.Fault.TheVariants.{Refused, NoMemory}
use Rattle.rr_model.specs.declared.refusal.Refusal.TheVariants.{NotCanonical}
use Rattle.rr_algebra.specs.Found.{run_in}
use Rattle.rr_algebra.specs.declared.runs.Run.{Run as RunRead}

-- the numbers of further steps, if `days` days have a number and the last occupied one has the index `last`
abbrev pub dense : ℕ → ℕ → List Step → List ℕ
dense days last [] = []
dense days last (step ∷ steps) =
    replicate (last + step.gap - days) 0 ++ ((step.set + 1) ∷ dense (last + step.gap + 1) (last + step.gap) steps)

-- a day that lies `gap` days after the last one has no number yet, and lies before the end
abbrev pub IsStepTo : ℕ → ℕ → ℕ → ℕ → Type 0
IsStepTo days last gap end = (days ≤ last + gap) × (last + gap < end)

-- each step leads to a day that has no number yet and lies before the end, and has one of `sets` sets
abbrev pub AreSteps : ℕ → ℕ → ℕ → ℕ → List Step → Type 0
AreSteps end sets days last [] = ⊤
AreSteps end sets days last (step ∷ steps) =
    IsStepTo days last step.gap end × (step.set < sets) × AreSteps end sets (last + step.gap + 1) (last + step.gap) steps

-- the steps of a run, `count` equal ones
abbrev pub steps_in : RunRead → List Step
steps_in run = replicate run.count (record { gap = run.gap; set = run.set })

-- the steps were put, and the last one has this index, whatever follows
pub record IsPutBy (end sets : ℕ) (old : List ℕ) (last : ℕ) (steps : List Step) (new : List ℕ) (index : ℕ) : Type 0 where
  pub same : (rest : List Step) → new ++ dense (length new) index rest ≡ old ++ dense (length old) last (steps ++ rest)
  pub fits : (rest : List Step) → AreSteps end sets (length new) index rest ↔ AreSteps end sets (length old) last (steps ++ rest)

-- a call answers the refusal NotCanonical only if the steps do not fit, whatever steps follow
abbrev pub RefusedWhereNone : {X : Type 0} → ℕ → ℕ → ℕ → ℕ → List Step → Result X Fault → Type 0
RefusedWhereNone end sets days last steps (Ok x) = ⊤
RefusedWhereNone end sets days last steps (Err (Refused refusal)) =
    (refusal ≡ NotCanonical) × ((rest : List Step) → AreSteps end sets days last (steps ++ rest) → ⊥)
RefusedWhereNone end sets days last steps (Err NoMemory) = ⊤

-- the numbers of the days of runs, or a refusal if their steps do not fit
abbrev pub NumbersRuns : ℕ → ℕ → List RunRead → Result (Vec ℕ Global) Fault → Type 0
NumbersRuns end sets runs (Ok numbers) =
    (numbers.items ≡ dense 0 0 (steps_of_runs (map run_in runs))) × AreSteps end sets 0 0 (steps_of_runs (map run_in runs))
NumbersRuns end sets runs (Err (Refused refusal)) = (refusal ≡ NotCanonical) × (AreSteps end sets 0 0 (steps_of_runs (map run_in runs)) → ⊥)
NumbersRuns end sets runs (Err NoMemory) = ⊤
