-- Sets as rising lists: how one grows, and that its members determine it.
use Rattle.std.proofs.Common.{◌≡◌, ℕ, zero, suc, ◌<◌, ◌≤◌, ℤ, Bool, true, List, [], ◌∷◌, ◌++◌, length, get_or, All, Contains, inl, inr, refl, sym, ◌∙◌}
use Rattle.std.proofs.Common.{pos, ◌<ℤ◌, subst, arith}
use Rattle.std.specs.Prelude.{◌⊎◌, ◌↔◌, IsTrue, nat_lt, int_lt}
use Rattle.std.proofs.lemmas.Int.{ints}
use Rattle.std.proofs.lemmas.Bool.Decides.{nat_tests}
use Rattle.std.proofs.lemmas.List.Elements.{Contains-append_left, Contains-push, Contains-push_cases, Contains-get_or}
use Rattle.rr_model.specs.Rising.{Rises}
use Rattle.rr_model.specs.Rising.Sets.{IsSetOf}

module _ {X : Type 0} where
  -- the head, or a member of the rest
  pub Contains-cons_cases : (x : X) (xs : List X) (y : X) → Contains (x ∷ xs) y → (x ≡ y) ⊎ Contains xs y
  Contains-cons_cases x xs y (zero, l, e) = inl e
  Contains-cons_cases x xs y (suc k, l, e) = inr (k, omega arith, e)

  pub Contains-head : (x : X) (xs : List X) → Contains (x ∷ xs) x
  Contains-head x xs = (0, omega arith, refl)

  pub Contains-tail : (x : X) (xs : List X) (y : X) → Contains xs y → Contains (x ∷ xs) y
  Contains-tail x xs y (k, l, e) = (suc k, omega arith, e)

  pub Contains-none : (x : X) → Contains [] x → ⊥
  Contains-none x (k, l, e) = omega arith

module _ {X : Type 0} (below : X → X → Bool) where
  pub Rises-tail : (x : X) (xs : List X) → Rises below (x ∷ xs) → Rises below xs
  Rises-tail x [] r = tt
  Rises-tail x (y ∷ ys) r = r.1

  -- a value above each member goes last
  pub Rises-push : (xs : List X) (x : X) → Rises below xs → ((y : X) → Contains xs y → IsTrue (below y x)) → Rises below (xs ++ x ∷ [])
  Rises-push [] x r above = tt
  Rises-push (y ∷ []) x r above = (above y (Contains-head y []), tt)
  Rises-push (y ∷ z ∷ zs) x r above = (r.0, Rises-push (z ∷ zs) x r.1 (λ w c. above w (Contains-tail y (z ∷ zs) w c)))

  module _ (P : X → Type 0) where
    -- the empty set
    pub set_empty : ((x : X) → P x → ⊥) → IsSetOf below [] P
    set_empty none = record { rises = tt; exact = λ x. (λ c. absurd (Contains-none x c), λ p. absurd (none x p)) }

    -- the same set by another property
    pub set_same : (Q : X → Type 0) (xs : List X) → IsSetOf below xs P → ((x : X) → P x ↔ Q x) → IsSetOf below xs Q
    set_same Q xs set same = record { rises = set.rises; exact = λ x. (λ c. (same x).0 ((set.exact x).0 c), λ q. (set.exact x).1 ((same x).1 q)) }

    -- the set with one more, above all others
    pub set_push : (xs : List X) (x : X) → IsSetOf below xs P → ((y : X) → P y → IsTrue (below y x)) → IsSetOf below (xs ++ x ∷ []) (λ y. P y ⊎ (x ≡ y))
    set_push xs x set above = record {
      rises = Rises-push xs x set.rises (λ y c. above y ((set.exact y).0 c));
      exact = λ y. (
        (λ c. elim (Contains-push_cases xs x y c) [ inl d ↦ inl ((set.exact y).0 d) | inr e ↦ inr e ]),
        (λ p. elim p [
          | inl q ↦ Contains-append_left xs (x ∷ []) y ((set.exact y).1 q)
          | inr e ↦
              subst (λ z. Contains (xs ++ x ∷ []) z) e (Contains-push xs x)
        ]),
      );
    }

-- a rising list is the set of its members
pub set_itself : {X : Type 0} (below : X → X → Bool) (xs : List X) → Rises below xs → IsSetOf below xs (Contains xs)
set_itself below xs r = record { rises = r; exact = λ x. ((λ c. c), (λ c. c)) }

module _ {X : Type 0} (below : X → X → Bool) (strict : (x : X) → IsTrue (below x x) → ⊥) (follows : (x y z : X) → IsTrue (below x y) → IsTrue (below y z)
    → IsTrue (below x z)) where
  -- the head is below each other member
  pub below_rest : (x : X) (xs : List X) → Rises below (x ∷ xs) → (y : X) → Contains xs y → IsTrue (below x y)
  below_rest x [] r y c = absurd (Contains-none y c)
  below_rest x (z ∷ zs) r y c =
      elim (Contains-cons_cases z zs y c) [
        | inl e ↦ subst (λ w. IsTrue (below x w)) e r.0
        | inr d ↦ follows x z y r.0 (below_rest z zs r.1 y d)
      ]

  -- a head that stands in the other list heads it
  same_head : (x y : X) (xs ys : List X) → Rises below (x ∷ xs) → Rises below (y ∷ ys) → Contains (y ∷ ys) x → Contains (x ∷ xs) y → x ≡ y
  same_head x y xs ys rx ry cx cy =
      elim (Contains-cons_cases y ys x cx) [
        | inl e ↦ sym e
        | inr c ↦ elim (Contains-cons_cases x xs y cy) [
          | inl e ↦ e
          | inr d ↦ absurd (strict x (follows x y x (below_rest x xs rx y d) (below_rest y ys ry x c)))
        ]
      ]

  -- a member of the rest stands in the rest of the other
  same_rest : (x y : X) (xs ys : List X) → Rises below (x ∷ xs) → x ≡ y → ((z : X) → Contains (x ∷ xs) z → Contains (y ∷ ys) z) → (z : X) → Contains xs z
      → Contains ys z
  same_rest x y xs ys r e within z c =
      elim (Contains-cons_cases y ys z (within z (Contains-tail x xs z c))) [
        | inl f ↦ absurd (strict x (subst (λ w. IsTrue (below x w)) (sym (e ∙ f)) (below_rest x xs r z c)))
        | inr d ↦ d
      ]

  -- two rising lists with the same members are one
  pub same_members : (xs ys : List X) → Rises below xs → Rises below ys → ((x : X) → Contains xs x → Contains ys x)
      → ((x : X) → Contains ys x → Contains xs x) → xs ≡ ys
  same_members [] [] rx ry to from = refl
  same_members [] (y ∷ ys) rx ry to from = absurd (Contains-none y (from y (Contains-head y ys)))
  same_members (x ∷ xs) [] rx ry to from = absurd (Contains-none x (to x (Contains-head x xs)))
  same_members (x ∷ xs) (y ∷ ys) rx ry to from =
      let e : x ≡ y = same_head x y xs ys rx ry (to x (Contains-head x xs)) (from y (Contains-head y ys)) in
      let rest : xs ≡ ys =
      same_members xs ys (Rises-tail below x xs rx) (Rises-tail below y ys ry) (same_rest x y xs ys rx e to) (same_rest y x ys xs ry (sym e) from) in
      cc

-- a set of seconds is one list
pub one_list_of_seconds : (P : ℕ → Type 0) (xs ys : List ℕ) → IsSetOf nat_lt xs P → IsSetOf nat_lt ys P → xs ≡ ys
one_list_of_seconds P xs ys a b =
    same_members nat_lt (λ x l. grind arith) (λ x y z l m. grind arith) xs ys a.rises b.rises
    (λ x c. (b.exact x).1 ((a.exact x).0 c)) (λ x c. (a.exact x).1 ((b.exact x).0 c))

-- a set of days is one list
pub one_list_of_days : (P : ℤ → Type 0) (xs ys : List ℤ) → IsSetOf int_lt xs P → IsSetOf int_lt ys P → xs ≡ ys
one_list_of_days P xs ys a b =
    same_members int_lt (λ x l. grind (arith, ints)) (λ x y z l m. grind (arith, ints)) xs ys a.rises b.rises
    (λ x c. (b.exact x).1 ((a.exact x).0 c)) (λ x c. (a.exact x).1 ((b.exact x).0 c))

-- rising seconds by place
pub rising_at : (xs : List ℕ) → Rises nat_lt xs → (i j : ℕ) → i < j → j < length xs → get_or xs i 0 < get_or xs j 0
rising_at [] r i j l h = absurd (omega arith)
rising_at (x ∷ xs) r zero zero l h = absurd (omega arith)
rising_at (x ∷ xs) r zero (suc j) l h =
    let t : nat_lt x (get_or xs j 0) ≡ true =
    below_rest nat_lt (λ y m. grind arith) (λ y z w m n. grind arith) x xs r (get_or xs j 0) (Contains-get_or xs j 0 (omega arith)) in
    grind (arith, nat_tests)
rising_at (x ∷ xs) r (suc i) zero l h = absurd (omega arith)
rising_at (x ∷ xs) r (suc i) (suc j) l h = rising_at xs (Rises-tail nat_lt x xs r) i j (omega arith) (omega arith)

pub Rises-from_places : (xs : List ℕ) → ((k : ℕ) → suc k < length xs → get_or xs k 0 < get_or xs (suc k) 0) → Rises nat_lt xs
Rises-from_places [] h = tt
Rises-from_places (x ∷ []) h = tt
Rises-from_places (x ∷ y ∷ ys) h =
    let first : x < y = h 0 (omega arith) in
    let test : nat_lt x y ≡ true = grind (arith, nat_tests) in
    (test, Rises-from_places (y ∷ ys) (λ k l. h (suc k) (omega arith)))

-- each second is at least its place
pub place-le : (xs : List ℕ) → Rises nat_lt xs → (k : ℕ) → k < length xs → k ≤ get_or xs k 0
place-le xs r zero l = omega arith
place-le xs r (suc k) l = omega (arith, place-le xs r k (omega arith), rising_at xs r k (suc k) (omega arith) l)

-- so there are at most as many as the bound
pub length-le_bound : (xs : List ℕ) (n : ℕ) → Rises nat_lt xs → All (λ s. s < n) xs → length xs ≤ n
length-le_bound [] n r h = omega arith
length-le_bound (x ∷ xs) n r h =
    let last : get_or (x ∷ xs) (length xs) 0 < n = h (length xs) 0 (omega arith) in
    omega (arith, place-le (x ∷ xs) r (length xs) (omega arith))

pub rising_dates : (xs : List ℤ) → Rises int_lt xs → (i j : ℕ) → i < j → j < length xs → get_or xs i (pos 0) <ℤ get_or xs j (pos 0)
rising_dates [] r i j l h = absurd (omega arith)
rising_dates (x ∷ xs) r zero zero l h = absurd (omega arith)
rising_dates (x ∷ xs) r zero (suc j) l h =
    let t : int_lt x (get_or xs j (pos 0)) ≡ true =
    below_rest int_lt (λ y m. grind (arith, ints)) (λ y z w m n. grind (arith, ints)) x xs r (get_or xs j (pos 0))
    (Contains-get_or xs j (pos 0) (omega arith)) in
    grind (arith, ints)
rising_dates (x ∷ xs) r (suc i) zero l h = absurd (omega arith)
rising_dates (x ∷ xs) r (suc i) (suc j) l h = rising_dates xs (Rises-tail int_lt x xs r) i j (omega arith) (omega arith)
