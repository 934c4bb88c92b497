-- One part more of a page.
use Rattle.std.proofs.Common.{◌≡◌, ℕ, ◌+◌, ◌<◌, ◌≤◌, List, [], ◌∷◌, ◌++◌, length, get_or, drop, refl, sym, ap, ◌∙◌, append_assoc, add-one}
use Rattle.std.proofs.lemmas.List.{append-nil, at_drop_all, drop_more}
use Rattle.rr_html.specs.Pieces.{piece_text}
use Rattle.rr_html.specs.declared.month.MonthPiece.TheVariants.{OutCell}
use Rattle.rr_html.specs.declared.piece.Piece.TheVariants.{Month}
use Rattle.rr_page.specs.Month.{out_html}

-- what is made of a list, by a number that each element moves, is what is made of its elements in turn
pub one_put : {X Y : Type 0} (whole : ℕ → List X → List Y) (part : ℕ → X → List Y) (behind : ℕ → X → ℕ)
    (step : (n : ℕ) (x : X) (xs : List X) → whole n (x ∷ xs) ≡ part n x ++ whole (behind n x) xs)
    (out next all : List Y) (xs : List X) (i : ℕ) (x d : X) (n m : ℕ) → i < length xs → x ≡ get_or xs i d → m ≡ behind n x
    → out ++ whole n (drop i xs) ≡ all → next ≡ out ++ part n x → next ++ whole m (drop (i + 1) xs) ≡ all
one_put whole part behind step out next all xs i x d n m l is moved so_far e =
    let left = drop_more xs i d l ∙ ap (λ y. y ∷ drop (i + 1) xs) (sym is) in
    ap (λ k. next ++ whole k (drop (i + 1) xs)) moved
    ∙ ap (λ o. o ++ whole (behind n x) (drop (i + 1) xs)) e ∙ append_assoc out (part n x) (whole (behind n x) (drop (i + 1) xs))
    ∙ ap (λ ys. out ++ ys) (sym (step n x (drop (i + 1) xs))) ∙ ap (λ ys. out ++ whole n ys) (sym left) ∙ so_far

-- what is made of a list is what is made of its elements in turn
pub one_part : {X Y : Type 0} (whole : List X → List Y) (part : X → List Y) (step : (x : X) (xs : List X) → whole (x ∷ xs) ≡ part x ++ whole xs)
    (out next all : List Y) (xs : List X) (i : ℕ) (x d : X) → i < length xs → x ≡ get_or xs i d
    → out ++ whole (drop i xs) ≡ all → next ≡ out ++ part x → next ++ whole (drop (i + 1) xs) ≡ all
one_part {X} whole part step out next all xs i x d l is so_far e =
    one_put (λ (n : ℕ). whole) (λ (n : ℕ). part) (λ (n : ℕ) (y : X). n) (λ n. step) out next all xs i x d 0 0 l is refl so_far e

-- nothing is left
pub all_put : {X Y : Type 0} (whole : List X → List Y) (out all : List Y) (xs : List X) (i : ℕ) → whole [] ≡ [] → length xs ≤ i
    → out ++ whole (drop i xs) ≡ all → out ≡ all
all_put whole out all xs i none end so_far =
    sym (append-nil out) ∙ ap (λ ys. out ++ ys) (sym none) ∙ sym (at_drop_all (λ ys. out ++ whole ys) xs i end) ∙ so_far

-- one cell without a day more
pub one_out : (old out next : List ℕ) (n : ℕ) → out ≡ old ++ out_html n → next ≡ out ++ piece_text (Month OutCell) → next ≡ old ++ out_html (n + 1)
one_out old out next n e h =
    rw add-one (h ∙ ap (λ (o : List ℕ). o ++ piece_text (Month OutCell)) e ∙ append_assoc old (out_html n) (piece_text (Month OutCell)))
