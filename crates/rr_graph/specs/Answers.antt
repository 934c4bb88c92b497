-- What a call answers that reads a JSON value.
use Rattle.std.specs.Prelude.{◌≡◌, Result, Ok, Err, ⊤}
use Rattle.serde_json.specs.Data.{Data}
use Rattle.serde_json.specs.View.{view}
use Rattle.serde_json.specs.declared.value.Value.{Value}
use Rattle.rr_model.specs.declared.refusal.Fault.{Fault}
use Rattle.rr_model.specs.declared.refusal.Fault.TheVariants.{Refused, NoMemory}
use Rattle.rr_model.specs.declared.refusal.Refusal.{Refusal}

-- the answer is the value that is wanted, but out of memory may come in place of each
abbrev pub AnswersValue : Result Data Refusal → Result Value Fault → Type 0
AnswersValue wanted (Ok value) = wanted ≡ Ok (view value)
AnswersValue wanted (Err (Refused refusal)) = wanted ≡ Err refusal
AnswersValue wanted (Err NoMemory) = ⊤
