-- The title of the first of some events.
use Rattle.std.proofs.Common.{◌≡◌, ℕ, ◌<◌, List, [], ◌∷◌, length, get_or, None, Some, refl, arith}
use Rattle.rr_trip.specs.Report.{title_by}

module _ (a b : ℕ → List ℕ) where
  -- A has some
  pub first_of_a : (xs ys : List ℕ) → 0 < length xs → title_by a b xs ys ≡ Some (a (get_or xs 0 0))
  first_of_a [] ys some = absurd (omega (arith, some))
  first_of_a (x ∷ xs) ys some = refl

  -- B alone has some
  pub first_of_b : (xs ys : List ℕ) → length xs < 1 → 0 < length ys → title_by a b xs ys ≡ Some (b (get_or ys 0 0))
  first_of_b (x ∷ xs) ys none some = absurd (omega (arith, none))
  first_of_b [] [] none some = absurd (omega (arith, some))
  first_of_b [] (y ∷ ys) none some = refl

  -- neither has some
  pub first_of_none : (xs ys : List ℕ) → length xs < 1 → length ys < 1 → title_by a b xs ys ≡ None
  first_of_none (x ∷ xs) ys none nothing = absurd (omega (arith, none))
  first_of_none [] (y ∷ ys) none nothing = absurd (omega (arith, nothing))
  first_of_none [] [] none nothing = refl
