-- What a call answers whose value stands for another.
use Rattle.std.specs.Prelude.{◌≡◌, Result, Ok, Err}

-- the answer is the one that is wanted, if `meaning` tells what its value stands for
abbrev pub AnswersAs : {A B E : Type 0} → (B → A) → Result A E → Result B E → Type 0
AnswersAs meaning wanted (Ok x) = wanted ≡ Ok (meaning x)
AnswersAs meaning wanted (Err e) = wanted ≡ Err e
