-- A list has one count and one summary, and its count is the sum of what each member adds.
use Rattle.std.proofs.Common.{◌≡◌, ℕ, ◌+◌, ◌-◌, ◌<◌, ◌≤◌, List, [], ◌∷◌, length, get_or, drop, take, refl, sym, ap, subst, ◌∙◌, inl, inr, arith}
use Rattle.std.proofs.lemmas.List.{drop_all, drop_more, length-drop, take_all}
use Rattle.rr_drill.specs.Counting.{IsOneWhere, IsCountOf, IsCountOfPairs, IsCountOfOrderedPairs}
use Rattle.rr_drill.specs.Summary.{SummaryIsOne}

one_is_one : (P : Type 0) (m n : ℕ) → IsOneWhere P m → IsOneWhere P n → m ≡ n
one_is_one P m n (inl (p, e)) (inl (q, f)) = e ∙ sym f
one_is_one P m n (inl (p, e)) (inr (q, f)) = absurd (q p)
one_is_one P m n (inr (p, e)) (inl (q, f)) = absurd (p q)
one_is_one P m n (inr (p, e)) (inr (q, f)) = e ∙ sym f

count_is_one : {X : Type 0} (P : X → Type 0) (xs : List X) (m n : ℕ) → IsCountOf P xs m → IsCountOf P xs n → m ≡ n
count_is_one P [] m n e f = e ∙ sym f
count_is_one P (x ∷ xs) m n (a, b, one, rest, e) (c, d, one', rest', f) =
    let o : a ≡ c = one_is_one (P x) a c one one' in
    let r : b ≡ d = count_is_one P xs b d rest rest' in
    omega (arith, e, f, o, r)

pairs_are_one : {X : Type 0} (R : X → X → Type 0) (xs : List X) (m n : ℕ) → IsCountOfPairs R xs m → IsCountOfPairs R xs n → m ≡ n
pairs_are_one R [] m n e f = e ∙ sym f
pairs_are_one R (x ∷ xs) m n (a, b, first, rest, e) (c, d, first', rest', f) =
    let o : a ≡ c = count_is_one (R x) xs a c first first' in
    let r : b ≡ d = pairs_are_one R xs b d rest rest' in
    omega (arith, e, f, o, r)

ordered_pairs_are_one : {X : Type 0} (R : X → X → Type 0) (xs : List X) (m n : ℕ)
    → IsCountOfOrderedPairs R xs m → IsCountOfOrderedPairs R xs n → m ≡ n
ordered_pairs_are_one R xs m n (a, b, forth, back, e) (c, d, forth', back', f) =
    let o : a ≡ c = pairs_are_one R xs a c forth forth' in
    let r : b ≡ d = pairs_are_one (λ x y. R y x) xs b d back back' in
    omega (arith, e, f, o, r)

pub summary_is_one : SummaryIsOne
summary_is_one list a b x y =
    let series = x.series ∙ sym y.series in
    let pairs = x.pairs ∙ sym y.pairs in
    let equal = pairs_are_one _ list _ _ x.equal y.equal in
    let within = ordered_pairs_are_one _ list _ _ x.within y.within in
    let disjoint = pairs_are_one _ list _ _ x.disjoint y.disjoint in
    (λ i. record { series = series i; pairs = pairs i; equal = equal i; within = within i; disjoint = disjoint i })

-- ---- counts of a list, member by member

-- with the count of what is left of the list this is the count of all
abbrev pub CountsOn : {X : Type 0} → (X → Type 0) → List X → ℕ → ℕ → Type 0
CountsOn P xs i count = (rest : ℕ) → IsCountOf P (drop i xs) rest → IsCountOf P xs (count + rest)

pub counts_on : {X : Type 0} (P : X → Type 0) (xs : List X) (i count one : ℕ) (x : X) → i < length xs → x ≡ get_or xs i x → CountsOn P xs i count
    → IsOneWhere (P x) one → CountsOn P xs (i + 1) (count + one)
counts_on P xs i count one x l e before o = λ rest counted.
    (let next : drop i xs ≡ x ∷ drop (i + 1) xs = drop_more xs i x l ∙ ap (λ y. y ∷ drop (i + 1) xs) (sym e) in
    let sum : count + (one + rest) ≡ count + one + rest = omega arith in
    subst (IsCountOf P xs) sum (before (one + rest) (subst (λ l. IsCountOf P l (one + rest)) (sym next) (one, rest, o, counted, refl))))

pub counts_all : {X : Type 0} (P : X → Type 0) (xs : List X) (i count : ℕ) → length xs ≤ i → CountsOn P xs i count → IsCountOf P xs count
counts_all P xs i count l before =
    let sum : count + 0 ≡ count = omega arith in
    subst (IsCountOf P xs) sum (before 0 (subst (λ l. IsCountOf P l 0) (sym (drop_all i xs l)) refl))

-- so of pairs
abbrev pub PairsOn : {X : Type 0} → (X → X → Type 0) → List X → ℕ → ℕ → Type 0
PairsOn R xs i count = (rest : ℕ) → IsCountOfPairs R (drop i xs) rest → IsCountOfPairs R xs (count + rest)

pub pairs_on : {X : Type 0} (R : X → X → Type 0) (xs : List X) (i count row : ℕ) (x : X) → i < length xs → x ≡ get_or xs i x → PairsOn R xs i count
    → IsCountOf (R x) (drop (i + 1) xs) row → PairsOn R xs (i + 1) (count + row)
pairs_on R xs i count row x l e before r = λ rest counted.
    (let next : drop i xs ≡ x ∷ drop (i + 1) xs = drop_more xs i x l ∙ ap (λ y. y ∷ drop (i + 1) xs) (sym e) in
    let sum : count + (row + rest) ≡ count + row + rest = omega arith in
    subst (IsCountOfPairs R xs) sum (before (row + rest) (subst (λ l. IsCountOfPairs R l (row + rest)) (sym next) (row, rest, r, counted, refl))))

pub pairs_all : {X : Type 0} (R : X → X → Type 0) (xs : List X) (i count : ℕ) → length xs ≤ i → PairsOn R xs i count → IsCountOfPairs R xs count
pairs_all R xs i count l before =
    let sum : count + 0 ≡ count = omega arith in
    subst (IsCountOfPairs R xs) sum (before 0 (subst (λ l. IsCountOfPairs R l 0) (sym (drop_all i xs l)) refl))

-- what is left of a list from a place on
pub rest_whole : {X : Type 0} (xs : List X) (i : ℕ) → take (length xs - i) (drop i xs) ≡ drop i xs
rest_whole xs i = take_all (length xs - i) (drop i xs) (omega (arith, length-drop i xs))
