-- Steps in which the events of a key are read: the first refusal ends them.
use Rattle.std.specs.Prelude.{◌≡◌, ℕ, List, [], ◌∷◌, Result, Ok, Err, ⊤}
use Rattle.rr_model.specs.declared.refusal.Fault.{Fault}
use Rattle.rr_model.specs.declared.refusal.Fault.TheVariants as fault
use Rattle.rr_model.specs.declared.refusal.Refusal.{Refusal}
use Rattle.rr_seam.specs.declared.refusal.KeyFault.{KeyFault}
use Rattle.rr_seam.specs.declared.refusal.KeyFault.TheVariants as key_fault
use Rattle.rr_seam.specs.declared.refusal.KeyRefusal.{KeyRefusal}
use Rattle.rr_seam.specs.declared.refusal.KeyRefusal.TheVariants as refusal

-- what the next step makes of a value; the first refusal of the key ends it
infixl 10 ◌>=>◌
abbrev pub ◌>=>◌ : {A B : Type 0} → Result A KeyRefusal → (A → Result B KeyRefusal) → Result B KeyRefusal
(Ok x) >=> f = f x
(Err r) >=> f = Err r

-- what a step makes of a value and each thing in turn
abbrev pub key_in_turn : {X Y : Type 0} → (X → Y → Result X KeyRefusal) → X → List Y → Result X KeyRefusal
key_in_turn step x [] = Ok x
key_in_turn step x (y ∷ ys) = step x y >=> λ next. key_in_turn step next ys

-- a refusal of the reader, at an event that stands here
abbrev pub at_event : {A : Type 0} → ℕ → Result A Refusal → Result A KeyRefusal
at_event place (Ok x) = Ok x
at_event place (Err r) = Err (refusal.Event r place)

-- the fault of a key that a fault of the reader is, at an event that stands here
abbrev pub fault_at : ℕ → Fault → KeyFault
fault_at place (fault.Refused r) = key_fault.Refused (refusal.Event r place)
fault_at place fault.NoMemory = key_fault.NoMemory

-- The answer is the one that is wanted, but out of memory may come in place of each.
abbrev pub AnswersKey : {A : Type 0} → Result A KeyRefusal → Result A KeyFault → Type 0
AnswersKey wanted (Ok x) = wanted ≡ Ok x
AnswersKey wanted (Err (key_fault.Refused r)) = wanted ≡ Err r
AnswersKey wanted (Err key_fault.NoMemory) = ⊤
