-- What a call that takes memory, or refuses its argument, answers.
use Rattle.std.specs.Prelude.{◌≡◌, Result, Ok, Err, ⊤}
use Rattle.rr_model.specs.declared.refusal.Refusal.{Refusal}
use Rattle.rr_model.specs.declared.refusal.Fault.{Fault}
use Rattle.rr_model.specs.declared.refusal.Fault.TheVariants.{Refused, NoMemory}

-- The answer is the one that is wanted, but out of memory may come in place of each.
abbrev pub Answers : {A : Type 0} → Result A Refusal → Result A Fault → Type 0
Answers wanted (Ok x) = wanted ≡ Ok x
Answers wanted (Err (Refused refusal)) = wanted ≡ Err refusal
Answers wanted (Err NoMemory) = ⊤

-- the answer is this refusal exactly if the condition holds, or out of memory
abbrev pub RefusedExactlyWhere : {X : Type 0} → Type 0 → Refusal → Result X Fault → Type 0
RefusedExactlyWhere P refusal (Ok x) = ¬ P
RefusedExactlyWhere P refusal (Err (Refused other)) = (other ≡ refusal) × P
RefusedExactlyWhere P refusal (Err NoMemory) = ⊤
