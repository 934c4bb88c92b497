-- What a map holds after one insertion, what it does not find, and pairs that are equal.
use Rattle.std.proofs.Common.{◌≡◌, ℕ, Bool, true, false, cond, ◌&&◌, if◌then◌else◌, List, [], ◌∷◌, Contains, Option, Some, None, nat_eq, slice_get, inl, inr, refl, sym, ap, ◌∙◌, subst, arith}
use Rattle.std.specs.Prelude.{◌⊎◌}
use Rattle.std.proofs.lemmas.Bool.{false≢true}
use Rattle.std.proofs.lemmas.Bool.Decides.{nat_tests}
use Rattle.std.proofs.lemmas.Option.{none-some, slice_get_within, get_or_from_slice_get}
use Rattle.std.specs.Map.{lookup}
use Rattle.indexmap.specs.IndexMap.{insert_entry}
use Rattle.rr_model.proofs.RisingSetLemmas.{Contains-cons_cases, Contains-head, Contains-none, Contains-tail}
use Rattle.rr_shapes.specs.declared.pair_numbers.Pair.{Pair}

-- the same two numbers
abbrev pub same_pair : Pair → Pair → Bool
same_pair p q = nat_eq p.a q.a && nat_eq p.b q.b

pub one_pair : (p q : Pair) → same_pair p q ≡ true → p ≡ q
one_pair p q e =
    let a : p.a ≡ q.a = grind (arith, nat_tests) in
    let b : p.b ≡ q.b = grind (arith, nat_tests) in
    λ i. record { a = a i; b = b i }

pub same_itself : (p : Pair) → same_pair p p ≡ true
same_itself p = grind (arith, nat_tests)

-- what stands at a place is there
pub there : {X : Type 0} (xs : List X) (place : ℕ) (x : X) → slice_get xs place ≡ Some x → Contains xs x
there xs place x e = (place, slice_get_within xs place x e, get_or_from_slice_get xs place x x e)

-- if the search for a key finds nothing, no entry has a key that passes
pub finds_none : {K V : Type 0} (test : K → Bool) (es : List (K × V)) (k : K) (v : V) → test k ≡ true → lookup test es ≡ None → Contains es (k, v) → ⊥
finds_none test [] k v passes none c = Contains-none (k, v) c
finds_none {K} {V} test (e ∷ es) k v passes none c = by (finds_none test es k v passes) (test e.0) refl
  where
    found : Bool → Option V
    found b = cond b (Some e.1) (lookup test es)

    by : (lookup test es ≡ None → Contains es (k, v) → ⊥) → (b : Bool) → test e.0 ≡ b → ⊥
    by rest true t = none-some e.1 (sym none ∙ ap found t)
    by rest false f = elim (Contains-cons_cases e es (k, v) c) [
      | inl q ↦ false≢true (sym f ∙ ap (λ (x : K × V). test x.0) q ∙ passes)
      | inr d ↦ rest (sym (ap found f) ∙ none) d
    ]

module _ {K V : Type 0} (eq : K → K → Bool) (same : (x y : K) → eq x y ≡ true → x ≡ y) (k : K) (v : V) where
  -- an entry after the insertion was there before, or is the new one
  pub inserted_only : (es : List (K × V)) (known : K × V) → Contains (insert_entry eq es k v) known → Contains es known ⊎ ((k, v) ≡ known)
  inserted_only [] known c =
      elim (Contains-cons_cases (k, v) [] known c) [
        | inl e ↦ inr e
        | inr d ↦ inl d
      ]
  inserted_only (e ∷ es) known c = by (inserted_only es known) (eq k e.0) refl
    where
      after : Bool → List (K × V)
      after b = if b then (e.0, v) ∷ es else e ∷ insert_entry eq es k v

      by : (Contains (insert_entry eq es k v) known → Contains es known ⊎ ((k, v) ≡ known)) → (b : Bool) → eq k e.0 ≡ b
          → Contains (e ∷ es) known ⊎ ((k, v) ≡ known)
      by rest true t =
          elim (Contains-cons_cases (e.0, v) es known (subst (λ l. Contains l known) (ap after t) c)) [
            | inl q ↦ inr (ap (λ x. (x, v)) (same k e.0 t) ∙ q)
            | inr d ↦ inl (Contains-tail e es known d)
          ]
      by rest false f =
          elim (Contains-cons_cases e (insert_entry eq es k v) known (subst (λ l. Contains l known) (ap after f) c)) [
            | inl q ↦ inl (subst (Contains (e ∷ es)) q (Contains-head e es))
            | inr d ↦ elim (rest d) [
              | inl was ↦ inl (Contains-tail e es known was)
              | inr new ↦ inr new
            ]
          ]

  -- the new one is there
  pub inserted_there : (es : List (K × V)) → Contains (insert_entry eq es k v) (k, v)
  inserted_there [] = Contains-head (k, v) []
  inserted_there (e ∷ es) = by (inserted_there es) (eq k e.0) refl
    where
      after : Bool → List (K × V)
      after b = if b then (e.0, v) ∷ es else e ∷ insert_entry eq es k v

      by : Contains (insert_entry eq es k v) (k, v) → (b : Bool) → eq k e.0 ≡ b → Contains (insert_entry eq (e ∷ es) k v) (k, v)
      by rest true t =
          subst (λ l. Contains l (k, v)) (sym (ap after t)) (subst (Contains ((e.0, v) ∷ es)) (ap (λ x. (x, v)) (sym (same k e.0 t))) (Contains-head (e.0, v) es))
      by rest false f = subst (λ l. Contains l (k, v)) (sym (ap after f)) (Contains-tail e (insert_entry eq es k v) (k, v) rest)

  -- an entry of another key stays
  pub inserted_keeps : (es : List (K × V)) (known : K × V) → Contains es known → (known.0 ≡ k → ⊥) → Contains (insert_entry eq es k v) known
  inserted_keeps [] known c other = absurd (Contains-none known c)
  inserted_keeps (e ∷ es) known c other = by (λ d. inserted_keeps es known d other) (eq k e.0) refl
    where
      after : Bool → List (K × V)
      after b = if b then (e.0, v) ∷ es else e ∷ insert_entry eq es k v

      by : (Contains es known → Contains (insert_entry eq es k v) known) → (b : Bool) → eq k e.0 ≡ b → Contains (insert_entry eq (e ∷ es) k v) known
      by rest true t = subst (λ l. Contains l known) (sym (ap after t)) (elim (Contains-cons_cases e es known c) [
        | inl q ↦ absurd (other (ap (λ (x : K × V). x.0) (sym q) ∙ sym (same k e.0 t)))
        | inr d ↦ Contains-tail (e.0, v) es known d
      ])
      by rest false f = subst (λ l. Contains l known) (sym (ap after f)) (elim (Contains-cons_cases e es known c) [
        | inl q ↦ subst (Contains (e ∷ insert_entry eq es k v)) q (Contains-head e (insert_entry eq es k v))
        | inr d ↦ Contains-tail e (insert_entry eq es k v) known (rest d)
      ])
