-- Counts over stretches of whole numbers, and of numbers below a bound.
use Rattle.std.proofs.Common.{◌≡◌, ℕ, zero, suc, ◌+◌, ◌<◌, ◌≤◌, Bool, true, false, cond, ℤ, pos, ◌+ℤ◌, ◌≤ℤ◌, ◌<ℤ◌, refl, sym, ap, ◌∙◌, arith}
use Rattle.std.proofs.lemmas.Int.{ints}
use Rattle.rr_model.specs.Whole.Count.{count_from}
use Rattle.rr_model.specs.Sets.Counting.{count_seconds}

-- 1 for true
abbrev pub one : Bool → ℕ
one b = cond b 1 0

pub count_from-zero : (p : ℤ → Bool) (q : ℤ) → count_from p q 0 ≡ 0
unfolding count_from
count_from-zero p q = refl

pub count_from-suc : (p : ℤ → Bool) (q : ℤ) (n : ℕ) → count_from p q (suc n) ≡ count_from p q n + cond (p (q +ℤ pos n)) 1 0
unfolding count_from
count_from-suc p q n = refl

-- a test that is another one, moved by s, counts the same in the moved stretch
pub count_from-shift : (p r : ℤ → Bool) (s : ℤ) → ((t : ℤ) → r (t +ℤ s) ≡ p t) → (q : ℤ) (n : ℕ) → count_from r (q +ℤ s) n ≡ count_from p q n
count_from-shift p r s moved q zero = count_from-zero r (q +ℤ s) ∙ sym (count_from-zero p q)
count_from-shift p r s moved q (suc n) =
    let e : (q +ℤ s) +ℤ pos n ≡ (q +ℤ pos n) +ℤ s = omega (arith, ints) in
    count_from-suc r (q +ℤ s) n ∙ omega (arith, ap (λ t. one (r t)) e, ap one (moved (q +ℤ pos n)), count_from-shift p r s moved q n, count_from-suc p q n)

-- the first of a stretch, and the others
pub count_from-first : (p : ℤ → Bool) (q : ℤ) (n : ℕ) → count_from p q (suc n) ≡ one (p q) + count_from p (q +ℤ pos 1) n
count_from-first p q zero =
    let e : q +ℤ pos 0 ≡ q = omega (arith, ints) in
    count_from-suc p q 0 ∙ omega (arith, count_from-zero p q, count_from-zero p (q +ℤ pos 1), ap (λ t. one (p t)) e)
count_from-first p q (suc n) =
    let e : q +ℤ pos (suc n) ≡ (q +ℤ pos 1) +ℤ pos n = omega (arith, ints) in
    count_from-suc p q (suc n) ∙ omega (arith, count_from-first p q n, count_from-suc p (q +ℤ pos 1) n, ap (λ t. one (p t)) e)

pub count_seconds-zero : (p : ℕ → Bool) → count_seconds p 0 ≡ 0
unfolding count_seconds
count_seconds-zero p = refl

pub count_seconds-suc : (p : ℕ → Bool) (n : ℕ) → count_seconds p (suc n) ≡ count_seconds p n + cond (p n) 1 0
unfolding count_seconds
count_seconds-suc p n = refl

pub count_from-split : (p : ℤ → Bool) (q : ℤ) (m n : ℕ) → count_from p q (m + n) ≡ count_from p q m + count_from p (q +ℤ pos m) n
count_from-split p q m zero = let e : m + 0 ≡ m = omega arith in rw (e, count_from-zero) (omega arith)
count_from-split p q m (suc n) =
    let e : m + suc n ≡ suc (m + n) = omega arith in
    let f : q +ℤ pos (m + n) ≡ (q +ℤ pos m) +ℤ pos n = omega (arith, ints) in
    ap (count_from p q) e ∙ count_from-suc p q (m + n) ∙ omega (arith, ap (λ z. one (p z)) f, count_from-split p q m n, count_from-suc p (q +ℤ pos m) n)

pub count_from-same : (g h : ℤ → Bool) (q : ℤ) (n : ℕ) → ((t : ℤ) → q ≤ℤ t → t <ℤ (q +ℤ pos n) → g t ≡ h t) → count_from g q n ≡ count_from h q n
count_from-same g h q zero same = count_from-zero g q ∙ sym (count_from-zero h q)
count_from-same g h q (suc n) same =
    let here : g (q +ℤ pos n) ≡ h (q +ℤ pos n) = same (q +ℤ pos n) (omega (arith, ints)) (omega (arith, ints)) in
    count_from-suc g q n ∙ (rw (here, count_from-same g h q n (λ t l m. same t l (omega (arith, ints, m)))) (sym (count_from-suc h q n)))

pub count_from-empty : (g : ℤ → Bool) (q : ℤ) (n : ℕ) → ((t : ℤ) → q ≤ℤ t → t <ℤ (q +ℤ pos n) → g t ≡ false) → count_from g q n ≡ 0
count_from-empty g q zero none = count_from-zero g q
count_from-empty g q (suc n) none =
    let here : g (q +ℤ pos n) ≡ false = none (q +ℤ pos n) (omega (arith, ints)) (omega (arith, ints)) in
    let last : count_from g q (suc n) ≡ count_from g q n = count_from-suc g q n ∙ (rw here (omega arith)) in
    last ∙ count_from-empty g q n (λ t l h. none t l (omega (arith, ints, h)))

pub count_seconds-same : (f g : ℕ → Bool) (n : ℕ) → ((s : ℕ) → s < n → f s ≡ g s) → count_seconds f n ≡ count_seconds g n
count_seconds-same f g zero same = count_seconds-zero f ∙ sym (count_seconds-zero g)
count_seconds-same f g (suc n) same = count_seconds-suc f n ∙
    (rw (same n (omega arith), count_seconds-same f g n (λ s l. same s (omega arith))) (sym (count_seconds-suc g n)))

pub count_seconds-mono : (f : ℕ → Bool) (n k : ℕ) → count_seconds f n ≤ count_seconds f (n + k)
count_seconds-mono f n zero = let e : n + 0 ≡ n = omega arith in rw e (omega arith)
count_seconds-mono f n (suc k) = let e : n + suc k ≡ suc (n + k) = omega arith in rw e (omega (arith, count_seconds-suc f (n + k), count_seconds-mono f n k))

-- at most all
pub count_seconds-le : (f : ℕ → Bool) (n : ℕ) → count_seconds f n ≤ n
count_seconds-le f zero = omega (arith, count_seconds-zero f)
count_seconds-le f (suc n) = elim (f n) as (λ b. f n ≡ b → count_seconds f (suc n) ≤ suc n) [
  | true ↦ λ e. omega (arith, count_seconds-suc f n, count_seconds-le f n, ap one e)
  | false ↦ λ e. omega (arith, count_seconds-suc f n, count_seconds-le f n, ap one e)
] refl

pub count_from-le : (f : ℤ → Bool) (q : ℤ) (n : ℕ) → count_from f q n ≤ n
count_from-le f q zero = omega (arith, count_from-zero f q)
count_from-le f q (suc n) = elim (f (q +ℤ pos n)) as (λ b. f (q +ℤ pos n) ≡ b → count_from f q (suc n) ≤ suc n) [
  | true ↦ λ e. omega (arith, count_from-suc f q n, count_from-le f q n, ap one e)
  | false ↦ λ e. omega (arith, count_from-suc f q n, count_from-le f q n, ap one e)
] refl

pub count_seconds-split : (p : ℕ → Bool) (m n : ℕ) → count_seconds p (m + n) ≡ count_seconds p m + count_seconds (λ k. p (m + k)) n
count_seconds-split p m zero = let e : m + 0 ≡ m = omega arith in rw (e, count_seconds-zero (λ k. p (m + k))) (omega arith)
count_seconds-split p m (suc n) =
    let e : m + suc n ≡ suc (m + n) = omega arith in
    ap (count_seconds p) e ∙ count_seconds-suc p (m + n) ∙ omega (arith, count_seconds-split p m n, count_seconds-suc (λ k. p (m + k)) n)

-- one more number, which passes or does not
pub below_more : (f : ℕ → Bool) (n : ℕ) → f n ≡ true → count_seconds f (n + 1) ≡ count_seconds f n + 1
below_more f n passes = let e : n + 1 ≡ suc n = omega arith in ap (count_seconds f) e ∙ count_seconds-suc f n ∙ rw passes refl

pub below_same : (f : ℕ → Bool) (n : ℕ) → f n ≡ false → count_seconds f (n + 1) ≡ count_seconds f n
below_same f n fails = let e : n + 1 ≡ suc n = omega arith in ap (count_seconds f) e ∙ count_seconds-suc f n ∙ rw fails (omega arith)

pub from_more : (f : ℤ → Bool) (q : ℤ) (n : ℕ) (x : ℤ) → x ≡ q +ℤ pos n → f x ≡ true → count_from f q (n + 1) ≡ count_from f q n + 1
from_more f q n x at passes = let e : n + 1 ≡ suc n = omega arith in ap (count_from f q) e ∙ count_from-suc f q n ∙ rw (ap f (sym at) ∙ passes) refl

pub from_same : (f : ℤ → Bool) (q : ℤ) (n : ℕ) (x : ℤ) → x ≡ q +ℤ pos n → f x ≡ false → count_from f q (n + 1) ≡ count_from f q n
from_same f q n x at fails = let e : n + 1 ≡ suc n = omega arith in ap (count_from f q) e ∙ count_from-suc f q n ∙ rw (ap f (sym at) ∙ fails) (omega arith)
