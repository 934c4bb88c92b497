-- What stands in a rising list with one value more.
use Rattle.std.proofs.Common.{◌≡◌, ◌⊎◌, true, false, cond, List, [], ◌∷◌, Contains, ℤ, refl, subst, inl, inr, arith, Bool}
use Rattle.std.specs.Prelude.{int_lt}
use Rattle.std.proofs.lemmas.Int.{ints}
use Rattle.std.proofs.lemmas.List.Elements.{Contains-get_or}
use Rattle.rr_model.specs.Rising.{with_value}
use Rattle.rr_model.proofs.RisingLemmas.{All-with_value}
use Rattle.rr_model.proofs.RisingSetLemmas.{Contains-head, Contains-tail, Contains-none, Contains-cons_cases}
use Rattle.rr_model.specs.Rule.Validity.{is_absent}

module _ (v : ℤ) where
  -- the others stay
  pub with_value-keeps : (xs : List ℤ) (x : ℤ) → Contains xs x → Contains (with_value int_lt xs v) x
  with_value-keeps [] x c = absurd (Contains-none x c)
  with_value-keeps (y ∷ ys) x c = elim (int_lt y v) as (λ b. Contains (cond b (y ∷ with_value int_lt ys v) (cond (int_lt v y) (v ∷ y ∷ ys) (y ∷ ys))) x) [
    | true ↦ elim (Contains-cons_cases y ys x c) [
      | inl e ↦ subst (Contains (y ∷ with_value int_lt ys v)) e (Contains-head y (with_value int_lt ys v))
      | inr d ↦ Contains-tail y (with_value int_lt ys v) x (with_value-keeps ys x d)
    ]
    | false ↦ elim (int_lt v y) as (λ b. Contains (cond b (v ∷ y ∷ ys) (y ∷ ys)) x) [ true ↦ Contains-tail v (y ∷ ys) x c | false ↦ c ]
  ]

  -- it is there
  pub with_value-has : (xs : List ℤ) → Contains (with_value int_lt xs v) v
  with_value-has [] = Contains-head v []
  with_value-has (y ∷ ys) = elim (int_lt y v) as (λ b. int_lt y v ≡ b → Contains (cond b (y ∷ with_value int_lt ys v) (cond (int_lt v y) (v ∷ y ∷ ys) (y ∷ ys))) v) [
    | true ↦ λ e. Contains-tail y (with_value int_lt ys v) v (with_value-has ys)
    | false ↦ λ e. elim (int_lt v y) as (λ b. int_lt v y ≡ b → Contains (cond b (v ∷ y ∷ ys) (y ∷ ys)) v) [
      | true ↦ λ f. Contains-head v (y ∷ ys)
      | false ↦ λ f. (let same : y ≡ v = omega (arith, ints, e, f) in subst (Contains (y ∷ ys)) same (Contains-head y ys))
    ] refl
  ] refl

  -- nothing but the value comes into the list
  pub with_value-only : (xs : List ℤ) (x : ℤ) → Contains (with_value int_lt xs v) x → Contains xs x ⊎ (v ≡ x)
  with_value-only xs x (k, l, e) =
      let all = All-with_value (λ y. Contains xs y ⊎ (v ≡ y)) int_lt xs v (λ i d h. inl (Contains-get_or xs i d h)) (inr refl) k x l in
      subst (λ y. Contains xs y ⊎ (v ≡ y)) e all

-- a list into which a value was put is not empty
pub with_value-some : {X : Type 0} (below : X → X → Bool) (list : List X) (x : X) → is_absent (with_value below list x) ≡ false
with_value-some below [] x = refl
with_value-some below (y ∷ ys) x = by (below y x) (below x y)
  where
    by : (b d : Bool) → is_absent (cond b (y ∷ with_value below ys x) (cond d (x ∷ y ∷ ys) (y ∷ ys))) ≡ false
    by true d = refl
    by false true = refl
    by false false = refl

pub absent_nil : {X : Type 0} (xs : List X) → is_absent xs ≡ true → xs ≡ []
absent_nil [] h = refl
absent_nil (x ∷ xs) h = absurd (cc)
