-- Rising lists of seconds, second by second.
use Rattle.std.proofs.Common.{◌≡◌, ◌↔◌, ◌⊎◌, inl, inr, ℕ, ◌<◌, ◌≤◌, List, [], ◌∷◌, get_or, refl, arith}
use Rattle.std.specs.Prelude.{IsTrue, nat_lt}
use Rattle.std.specs.List.{Contains}
use Rattle.std.proofs.lemmas.Bool.{cases_order}
use Rattle.std.proofs.lemmas.Bool.Decides.{nat_tests}
use Rattle.rr_model.specs.Rising.{Rises}
use Rattle.rr_model.proofs.RisingSetLemmas.{Contains-cons_cases, Contains-head, Contains-tail, Contains-none, below_rest, same_members}

-- a second is there or it is not
pub Contains-or_not : (xs : List ℕ) (w : ℕ) → Contains xs w ⊎ (Contains xs w → ⊥)
Contains-or_not [] w = inr (Contains-none w)
Contains-or_not (x ∷ xs) w =
    elim (Contains-or_not xs w) [
      | inl there ↦ inl (Contains-tail x xs w there)
      | inr absent ↦
          let not_first : (x ≡ w → ⊥) → Contains (x ∷ xs) w → ⊥ =
          λ differ c. elim (Contains-cons_cases x xs w c) [ inl e ↦ differ e | inr more ↦ absent more ] in
          elim (cases_order x w) [
            | inl e ↦ inl (0, omega arith, e)
            | inr order ↦ elim order [ inl l ↦ inr (not_first (λ e. omega arith)) | inr g ↦ inr (not_first (λ e. omega arith)) ]
          ]
    ]

pub below_from_test : (x y : ℕ) → IsTrue (nat_lt x y) → x < y
below_from_test x y t = grind (arith, nat_tests)

-- the first of a rising list is below all others
pub first_below : (x w : ℕ) (xs : List ℕ) → Rises nat_lt (x ∷ xs) → Contains xs w → x < w
first_below x w xs r c = below_from_test x w (below_rest nat_lt (λ y l. grind arith) (λ y z v l m. grind arith) x xs r w c)

-- the first of a rising list is its least
pub first_least : (x w : ℕ) (xs : List ℕ) → Rises nat_lt (x ∷ xs) → Contains (x ∷ xs) w → x ≤ w
first_least x w xs r c = elim (Contains-cons_cases x xs w c) [ inl e ↦ omega arith | inr more ↦ (let l = first_below x w xs r more in omega arith) ]

-- a list that is not empty holds its first
pub first_of_some : (xs : List ℕ) → (xs ≡ [] → ⊥) → Contains xs (get_or xs 0 0)
first_of_some [] some = absurd (some refl)
first_of_some (x ∷ xs) some = Contains-head x xs

-- after the first of a rising list stand the greater ones
pub after_first : (x : ℕ) (xs : List ℕ) → Rises nat_lt (x ∷ xs) → (w : ℕ) → Contains xs w ↔ (Contains (x ∷ xs) w × (x < w))
after_first x xs r w = (
  (λ c. (Contains-tail x xs w c, first_below x w xs r c)),
  (λ h. elim (Contains-cons_cases x xs w h.0) [ inl e ↦ absurd (let l = h.1 in omega arith) | inr more ↦ more ]),
)

-- rising lists with the same seconds are one
pub one_list : (xs ys : List ℕ) → Rises nat_lt xs → Rises nat_lt ys → ((w : ℕ) → Contains xs w ↔ Contains ys w) → xs ≡ ys
one_list xs ys r q same = same_members nat_lt (λ x l. grind arith) (λ x y z l m. grind arith) xs ys r q (λ w. (same w).0) (λ w. (same w).1)
