-- Distinct sets that are among others sum to no more.
use Rattle.std.proofs.Common.{◌≡◌, ◌≢◌, ℕ, zero, suc, ◌+◌, ◌<◌, ◌≤◌, List, [], ◌∷◌, length, get_or, Contains, sym, ap, subst, ◌∙◌, inl, inr, arith}
use Rattle.std.specs.Prelude.{AllPairs, sum_by}
use Rattle.std.proofs.lemmas.List.Sums.{sum_by-cons}
use Rattle.rr_model.proofs.RisingSetLemmas.{Contains-head, Contains-tail, Contains-none, Contains-cons_cases}

-- the list without the element at a place
abbrev without_one : List (List ℕ) → ℕ → List (List ℕ)
without_one [] k = []
without_one (y ∷ ys) zero = ys
without_one (y ∷ ys) (suc k) = y ∷ without_one ys k

sum_without : (ys : List (List ℕ)) (k : ℕ) (d : List ℕ) → k < length ys → sum_by length ys ≡ length (get_or ys k d) + sum_by length (without_one ys k)
sum_without [] k d l = absurd (omega arith)
sum_without (y ∷ ys) zero d l = sum_by-cons length y ys
sum_without (y ∷ ys) (suc k) d l = omega (arith, sum_by-cons length y ys, sum_without ys k d (omega arith), sum_by-cons length y (without_one ys k))

others_stay : (ys : List (List ℕ)) (k : ℕ) (d z : List ℕ) → k < length ys → Contains ys z → z ≢ get_or ys k d → Contains (without_one ys k) z
others_stay [] k d z l c n = absurd (Contains-none z c)
others_stay (y ∷ ys) zero d z l c n = elim (Contains-cons_cases y ys z c) [ inl e ↦ absurd (n (sym e)) | inr m ↦ m ]
others_stay (y ∷ ys) (suc k) d z l c n = elim (Contains-cons_cases y ys z c) [
  | inl e ↦ subst (Contains (y ∷ without_one ys k)) e (Contains-head y (without_one ys k))
  | inr m ↦ Contains-tail y (without_one ys k) z (others_stay ys k d z (omega arith) m n)
]

rest_distinct : (x : List ℕ) (xs : List (List ℕ)) → AllPairs (λ a b. a ≢ b) (x ∷ xs) → AllPairs (λ a b. a ≢ b) xs
rest_distinct x xs h i j d l m = h (suc i) (suc j) d (omega arith) (omega arith)

head_apart : (x : List ℕ) (xs : List (List ℕ)) (z : List ℕ) → AllPairs (λ a b. a ≢ b) (x ∷ xs) → Contains xs z → z ≢ x
head_apart x xs z h (k, l, e) same = h 0 (suc k) z (omega arith) (omega arith) (sym (e ∙ same))

-- distinct sets, of which each that is not empty is among others
pub within_others : (xs ys : List (List ℕ)) → AllPairs (λ a b. a ≢ b) xs → ((x : List ℕ) → Contains xs x → x ≢ [] → Contains ys x)
    → sum_by length xs ≤ sum_by length ys
within_others [] ys distinct among = omega arith
within_others ([] ∷ xs) ys distinct among =
    omega (arith, sum_by-cons length [] xs, within_others xs ys (rest_distinct [] xs distinct) (λ z c n. among z (Contains-tail [] xs z c) n))
within_others ((s ∷ ss) ∷ xs) ys distinct among =
    let x : List ℕ = s ∷ ss in
    let c = among x (Contains-head x xs) (λ e. omega (arith, ap length e)) in
    let rest = within_others xs (without_one ys c.0) (rest_distinct x xs distinct)
    (λ z m n. others_stay ys c.0 x z c.1 (among z (Contains-tail x xs z m) n) (λ e. head_apart x xs z distinct m (e ∙ c.2))) in
    omega (arith, sum_by-cons length x xs, sum_without ys c.0 x c.1, ap length c.2, rest)
