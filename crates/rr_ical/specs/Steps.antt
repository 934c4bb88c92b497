-- What a step leaves that changes the open components (RFC 5545, section 3.6).
use Rattle.std.specs.Prelude.{◌≡◌, ℕ, Bool, ◌||◌, List, ◌∷◌, ⊤, Result, Ok, Err, Option}
use Rattle.rr_model.specs.Text.Event.{Components, Left, left_with, used_line, value_on}
use Rattle.rr_model.specs.Text.RuleValues.{◌>>=◌}
use Rattle.rr_model.specs.declared.refusal.Fault.{Fault}
use Rattle.rr_model.specs.declared.refusal.Fault.TheVariants.{Refused, NoMemory}
use Rattle.rr_model.specs.declared.refusal.Refusal.{Refusal}
use Rattle.rr_model.specs.declared.used.LineName.{LineName}
use Rattle.rr_model.specs.declared.used.UsedLine.{UsedLine}

-- the components with one more open inside the others, which is an event or not
abbrev pub with_component : Components → List ℕ → Bool → Components
with_component components name event = record { open_names = name ∷ components.open_names; had_event = event || components.had_event }

-- the used line that a line is, which has to have a value
abbrev pub used_line_on : ℕ → LineName → List ℕ → Result UsedLine Refusal
used_line_on number name text = value_on number text >>= λ value. Ok (used_line number name value)

-- The value becomes what is wanted, or the refusal is answered, or it is out of memory.
abbrev pub Becomes : {A : Type 0} → Result A Refusal → A → Result (Unit {0}) Fault → Type 0
Becomes wanted new (Ok done) = wanted ≡ Ok new
Becomes wanted new (Err (Refused refusal)) = wanted ≡ Err refusal
Becomes wanted new (Err NoMemory) = ⊤

-- The components become, and the used line is, what the line leaves.
abbrev pub AreLeftByLine : Result Left Refusal → Components → Result (Option UsedLine) Fault → Type 0
AreLeftByLine wanted new (Ok used) = wanted ≡ Ok (left_with new used)
AreLeftByLine wanted new (Err (Refused refusal)) = wanted ≡ Err refusal
AreLeftByLine wanted new (Err NoMemory) = ⊤
