-- Words that are put one after the other.
use Rattle.std.proofs.Common.{◌≡◌, ℕ, List, ◌++◌, ap, ◌∙◌, append_assoc}
use Rattle.std.specs.Prelude.{Result, Ok, Err}
use Rattle.std.specs.Result.{OnOk}

-- one part more is put
pub put_next : (old out next all part : List ℕ) → out ≡ old ++ all → next ≡ out ++ part → next ≡ old ++ (all ++ part)
put_next old out next all part e h = h ∙ ap (λ (o : List ℕ). o ++ part) e ∙ append_assoc old all part

-- the last part was put behind the others
pub put_last : {T E : Type 0} (r : Result T E) (next out old all part : List ℕ) → out ≡ old ++ all → OnOk r (next ≡ out ++ part)
    → OnOk r (next ≡ old ++ (all ++ part))
put_last (Ok x) next out old all part e h = put_next old out next all part e h
put_last (Err x) next out old all part e h = tt
