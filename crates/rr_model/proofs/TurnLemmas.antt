-- Steps in turn, as far as they are done.
use Rattle.std.proofs.Common.{◌≡◌, ℕ, ◌+◌, ◌<◌, ◌≤◌, List, ◌∷◌, length, get_or, drop, Result, Ok, Err, sym, ap, ◌∙◌}
use Rattle.std.proofs.lemmas.List.{at_drop_more, at_drop_all}
use Rattle.rr_model.specs.Text.RuleValues.{◌>>=◌}
use Rattle.rr_model.specs.Text.Steps.{in_turn}
use Rattle.rr_model.specs.Answers.{Answers}
use Rattle.rr_model.specs.declared.refusal.Fault.{Fault}
use Rattle.rr_model.specs.declared.refusal.Fault.TheVariants.{Refused, NoMemory}
use Rattle.rr_model.specs.declared.refusal.Refusal.{Refusal}

module _ {X Y : Type 0} (step : X → Y → Result X Refusal) (ys : List Y) where
  turn : (x : X) (n : ℕ) (y : Y) → (n < length ys) × (y ≡ get_or ys n y)
      → in_turn step x (drop n ys) ≡ (step x y >>= λ next. in_turn step next (drop (n + 1) ys))
  turn x n y at = at_drop_more (in_turn step x) ys n y at.0 ∙ ap (λ (z : Y). in_turn step x (z ∷ drop (n + 1) ys)) (sym at.1)

  pub goes_on : (x next : X) (n m : ℕ) (y : Y) (all : Result X Refusal) → (n < length ys) × (y ≡ get_or ys n y) → m ≡ n + 1 → step x y ≡ Ok next
      → in_turn step x (drop n ys) ≡ all → in_turn step next (drop m ys) ≡ all
  goes_on x next n m y all at more done so_far =
      rw more (ap (λ r. r >>= λ z. in_turn step z (drop (n + 1) ys)) (sym done) ∙ sym (turn x n y at) ∙ so_far)

  pub ends : (x : X) (n : ℕ) (y : Y) (fault : Fault) (all : Result X Refusal) → (n < length ys) × (y ≡ get_or ys n y) → Answers (step x y) (Err fault)
      → in_turn step x (drop n ys) ≡ all → Answers all (Err fault)
  ends x n y (Refused refusal) all at refused so_far = sym so_far ∙ turn x n y at ∙ ap (λ r. r >>= λ z. in_turn step z (drop (n + 1) ys)) refused
  ends x n y NoMemory all at refused so_far = tt

  pub done : (x : X) (n : ℕ) (all : Result X Refusal) → length ys ≤ n → in_turn step x (drop n ys) ≡ all → all ≡ Ok x
  done x n all over so_far = sym so_far ∙ at_drop_all (in_turn step x) ys n over
