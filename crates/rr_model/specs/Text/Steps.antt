-- Steps of a reading one after the other.
use Rattle.std.specs.Prelude.{List, [], ◌∷◌, Result, Ok}
use Rattle.rr_model.specs.Text.RuleValues.{◌>>=◌}
use Rattle.rr_model.specs.declared.refusal.Refusal.{Refusal}

-- what a step makes of a value and each thing in turn
abbrev pub in_turn : {X Y : Type 0} → (X → Y → Result X Refusal) → X → List Y → Result X Refusal
in_turn step x [] = Ok x
in_turn step x (y ∷ ys) = step x y >>= λ next. in_turn step next ys
