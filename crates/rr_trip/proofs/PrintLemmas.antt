-- One part more of a printed text.
use Rattle.std.proofs.Common.{◌≡◌, ℕ, ◌+◌, ◌<◌, ◌≤◌, List, [], ◌∷◌, ◌++◌, length, get_or, drop, sym, ap, ◌∙◌, append_assoc}
use Rattle.std.proofs.lemmas.List.{append-nil, at_drop_all, drop_more}
use Rattle.std.specs.Prelude.{Result, Ok, Err}
use Rattle.std.specs.Result.{OnOk}

-- what is made of a list is what is made of its elements in turn
pub one_printed : {X Y : Type 0} (whole : List X → List Y) (part : X → List Y) (step : (x : X) (xs : List X) → whole (x ∷ xs) ≡ part x ++ whole xs)
    (out next all : List Y) (xs : List X) (i : ℕ) (x d : X) → i < length xs → x ≡ get_or xs i d
    → out ++ whole (drop i xs) ≡ all → next ≡ out ++ part x → next ++ whole (drop (i + 1) xs) ≡ all
one_printed whole part step out next all xs i x d l is so_far e =
    let left = drop_more xs i d l ∙ ap (λ y. y ∷ drop (i + 1) xs) (sym is) in
    ap (λ o. o ++ whole (drop (i + 1) xs)) e ∙ append_assoc out (part x) (whole (drop (i + 1) xs))
    ∙ ap (λ ys. out ++ ys) (sym (step x (drop (i + 1) xs))) ∙ ap (λ ys. out ++ whole ys) (sym left) ∙ so_far

-- two texts that were put one after the other were put together
pub put_twice : {T E : Type 0} (r : Result T E) (next out first second : List ℕ) → OnOk r (next ≡ (out ++ first) ++ second)
    → OnOk r (next ≡ out ++ (first ++ second))
put_twice (Ok x) next out first second h = h ∙ append_assoc out first second
put_twice (Err e) next out first second h = tt

-- nothing is left to print
pub all_printed : {X Y : Type 0} (whole : List X → List Y) (out all : List Y) (xs : List X) (i : ℕ) → whole [] ≡ [] → length xs ≤ i
    → out ++ whole (drop i xs) ≡ all → out ≡ all
all_printed whole out all xs i none end so_far =
    sym (append-nil out) ∙ ap (λ ys. out ++ ys) (sym none) ∙ sym (at_drop_all (λ ys. out ++ whole ys) xs i end) ∙ so_far
