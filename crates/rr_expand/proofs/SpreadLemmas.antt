-- Appending the seconds that hours, minutes and seconds name.
use Rattle.std.proofs.Common.{◌≡◌, ℕ, ◌+◌, ◌<◌, ◌≤◌, List, [], ◌∷◌, ◌++◌, length, get_or, drop, sym, ap, ◌∙◌}
use Rattle.std.proofs.lemmas.List.{drop_more, drop_all, append_assoc, append-nil}

-- one more part of what is still to come
pub more : {X Y : Type 0} (F : List Y → List X) (part out new whole : List X) (xs : List Y) (i : ℕ) (d : Y) → i < length xs
    → F (get_or xs i d ∷ drop (i + 1) xs) ≡ part ++ F (drop (i + 1) xs) → new ≡ out ++ part → out ++ F (drop i xs) ≡ whole → new ++ F (drop (i + 1) xs) ≡ whole
more F part out new whole xs i d h first e before =
    ap (λ l. l ++ F (drop (i + 1) xs)) e ∙ append_assoc out part (F (drop (i + 1) xs)) ∙ ap (λ l. out ++ l) (sym first)
    ∙ ap (λ l. out ++ F l) (sym (drop_more xs i d h)) ∙ before

-- nothing is still to come
pub all : {X Y : Type 0} (F : List Y → List X) (out whole : List X) (xs : List Y) (i : ℕ) → length xs ≤ i → F [] ≡ [] → out ++ F (drop i xs) ≡ whole
    → out ≡ whole
all F out whole xs i h none before =
    sym (append-nil out) ∙ ap (λ l. out ++ l) (sym none) ∙ ap (λ l. out ++ F l) (sym (drop_all i xs h)) ∙ before
