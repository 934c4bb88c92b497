-- How many of the open components have a name that passes a test.
use Rattle.std.proofs.Common.{◌≡◌, ℕ, ◌+◌, Bool, true, false, cond, List, [], ◌∷◌, refl, ap, ◌∙◌, arith}
use Rattle.std.specs.Prelude.{nat_lt, ◌||◌}
use Rattle.std.specs.List.{count_by, list_any}
use Rattle.std.proofs.lemmas.Bool.Decides.{nat_tests}
use Rattle.std.proofs.lemmas.List.Sums.{sum_by-append}

some : (n : ℕ) → nat_lt 0 (1 + n) ≡ true
some n = grind (arith, nat_tests)

by_first : (passes : Bool) (n count : ℕ) (any : Bool) → count ≡ cond passes 1 0 + n → nat_lt 0 n ≡ any → nat_lt 0 count ≡ (passes || any)
by_first true n count any e h = ap (λ (k : ℕ). nat_lt 0 k) e ∙ some n
by_first false n count any e h = let same : count ≡ n = omega (arith, e) in rw same h

module _ (test : List ℕ → Bool) where
  count-cons : (name : List ℕ) (names : List (List ℕ)) → count_by test (name ∷ names) ≡ cond (test name) 1 0 + count_by test names
  count-cons name names = omega (arith, sum_by-append (λ (x : List ℕ). cond (test x) 1 0) (name ∷ []) names)

  -- there is one if the count is not 0
  pub any-counted : (names : List (List ℕ)) → nat_lt 0 (count_by test names) ≡ list_any test names
  any-counted [] = refl
  any-counted (name ∷ names) =
      by_first (test name) (count_by test names) (count_by test (name ∷ names)) (list_any test names) (count-cons name names)
      (any-counted names)

-- there is one of either kind
pub any-either : (p q : List ℕ → Bool) (names : List (List ℕ)) → (list_any p names || list_any q names) ≡ list_any (λ name. p name || q name) names
any-either p q [] = refl
any-either p q (name ∷ names) = by (p name) (q name) (list_any p names) (list_any q names) _ (any-either p q names)
  where
    by : (a b c d : Bool) (e : Bool) → (c || d) ≡ e → ((a || c) || (b || d)) ≡ ((a || b) || e)
    by true b c d e h = refl
    by false true true d e h = refl
    by false true false d e h = refl
    by false false c d e h = h
