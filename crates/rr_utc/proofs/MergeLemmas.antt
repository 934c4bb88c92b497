-- The least value that one of two rising lists alone has.
use Rattle.std.proofs.Common.{w64, to_z, of_z, FitsSigned, true, false, min, take, ◌-◌, ◌≡◌, ◌⊎◌, inl, inr, ℕ, ◌+◌, ◌<◌, ◌≤◌, length, drop, get_or, List, [], ◌∷◌, Contains, Option, None, Some, ℤ, pos, ◌<ℤ◌, sym, ap, subst, ◌∙◌, arith}
use Rattle.std.specs.Prelude.{int_lt, IsTrue}
use Rattle.std.proofs.lemmas.Int.{by_lt_z, ints, to_z-of_z}
use Rattle.std.proofs.lemmas.List.{drop_all, drop_more, length-drop, take_all}
use Rattle.rr_model.specs.Rising.{Rises}
use Rattle.rr_model.specs.Sets.Verdict.{HoldsOnlyOf}
use Rattle.rr_model.specs.declared.verdict.Side.{Side}
use Rattle.rr_model.specs.declared.verdict.Side.TheVariants.{A, B, Both}
use Rattle.rr_model.proofs.RisingSetLemmas.{Contains-cons_cases, Contains-head, Contains-none, Contains-tail, Rises-tail, below_rest}
use Rattle.rr_utc.specs.Between.{IsFirstOnly}
use Rattle.rr_utc.specs.declared.only.Only.{Only}

-- no member of a rising list lies below its head
not_below : (x : ℤ) (xs : List ℤ) (u : ℤ) → Rises int_lt (x ∷ xs) → u <ℤ x → Contains (x ∷ xs) u → ⊥
not_below x xs u r l c =
    elim (Contains-cons_cases x xs u c) [
      | inl e ↦ omega (arith, ints, e, l)
      | inr d ↦ (let m = below_rest int_lt (λ y m. grind (arith, ints)) (λ y z w m n. grind (arith, ints)) x xs r u d in above x u m l)
    ]
  where
    above : (x u : ℤ) → IsTrue (int_lt x u) → u <ℤ x → ⊥
    above x u m l = grind (arith, ints)

-- ---- one list empty

left_a : (x : ℤ) (xs : List ℤ) → Rises int_lt (x ∷ xs) → IsFirstOnly (x ∷ xs) [] (Some (record { at = x; side = A }))
left_a x xs r = ((Contains-head x xs, λ c. Contains-none x c), λ u l. ((λ c. absurd (not_below x xs u r l c)), (λ c. absurd (Contains-none u c))))

left_b : (y : ℤ) (ys : List ℤ) → Rises int_lt (y ∷ ys) → IsFirstOnly [] (y ∷ ys) (Some (record { at = y; side = B }))
left_b y ys r = ((Contains-head y ys, λ c. Contains-none y c), λ u l. ((λ c. absurd (Contains-none u c)), (λ c. absurd (not_below y ys u r l c))))

cons_is_some : (x : ℤ) (xs : List ℤ) → x ∷ xs ≡ [] → ⊥
cons_is_some x xs e = absurd (omega (arith, ap length e))

pub left_at_a : (xs ys : List ℤ) → Rises int_lt xs → 1 ≤ length xs → ((xs ≡ []) ⊎ (ys ≡ []))
    → IsFirstOnly xs ys (Some (record { at = get_or xs 0 (pos 0); side = A }))
left_at_a [] ys r l one = absurd (omega (arith, l))
left_at_a (x ∷ xs) ys r l (inl e) = absurd (cons_is_some x xs e)
left_at_a (x ∷ xs) ys r l (inr e) = subst (λ l. IsFirstOnly (x ∷ xs) l (Some (record { at = x; side = A }))) (sym e) (left_a x xs r)

pub left_at_b : (xs ys : List ℤ) → Rises int_lt ys → 1 ≤ length ys → ((xs ≡ []) ⊎ (ys ≡ []))
    → IsFirstOnly xs ys (Some (record { at = get_or ys 0 (pos 0); side = B }))
left_at_b xs [] r l one = absurd (omega (arith, l))
left_at_b xs (y ∷ ys) r l (inr e) = absurd (cons_is_some y ys e)
left_at_b xs (y ∷ ys) r l (inl e) = subst (λ l. IsFirstOnly l (y ∷ ys) (Some (record { at = y; side = B }))) (sym e) (left_b y ys r)

-- ---- two heads

less_a : (x y : ℤ) (xs ys : List ℤ) → Rises int_lt (x ∷ xs) → Rises int_lt (y ∷ ys) → x <ℤ y
    → IsFirstOnly (x ∷ xs) (y ∷ ys) (Some (record { at = x; side = A }))
less_a x y xs ys rx ry l = (
  (Contains-head x xs, λ c. not_below y ys x ry l c),
  λ u m. ((λ c. absurd (not_below x xs u rx m c)), (λ c. absurd (not_below y ys u ry (omega (arith, ints, l, m)) c))),
)

less_b : (x y : ℤ) (xs ys : List ℤ) → Rises int_lt (x ∷ xs) → Rises int_lt (y ∷ ys) → y <ℤ x
    → IsFirstOnly (x ∷ xs) (y ∷ ys) (Some (record { at = y; side = B }))
less_b x y xs ys rx ry l = (
  (Contains-head y ys, λ c. not_below x xs y rx l c),
  λ u m. ((λ c. absurd (not_below x xs u rx (omega (arith, ints, l, m)) c)), (λ c. absurd (not_below y ys u ry m c))),
)

-- behind one head, what holds of the rests holds
behind : (x y : ℤ) (xs ys : List ℤ) → Rises int_lt (x ∷ xs) → Rises int_lt (y ∷ ys) → x ≡ y → (only : Option Only) → IsFirstOnly xs ys only
    → IsFirstOnly (x ∷ xs) (y ∷ ys) only
behind x y xs ys rx ry e None same = cc
behind x y xs ys rx ry e (Some only) (alone, less) = (
  side only.side alone,
  λ u l. (
    (λ c. elim (Contains-cons_cases x xs u c) [
      | inl h ↦ subst (Contains (y ∷ ys)) (sym e ∙ h) (Contains-head y ys)
      | inr d ↦ Contains-tail y ys u ((less u l).0 d)
    ]),
    (λ c. elim (Contains-cons_cases y ys u c) [
      | inl h ↦ subst (Contains (x ∷ xs)) (e ∙ h) (Contains-head x xs)
      | inr d ↦ Contains-tail x xs u ((less u l).1 d)
    ]),
  ),
)
  where
    -- a head is below all behind it
    head_apart : (z : ℤ) (zs : List ℤ) (u : ℤ) → Rises int_lt (z ∷ zs) → Contains zs u → z ≡ u → ⊥
    head_apart z zs u r c h = no z u (below_rest int_lt (λ y m. grind (arith, ints)) (λ y z w m n. grind (arith, ints)) z zs r u c) h
      where
        no : (z u : ℤ) → IsTrue (int_lt z u) → z ≡ u → ⊥
        no z u m h = grind (arith, ints)

    side : (s : Side) → HoldsOnlyOf s (Contains xs only.at) (Contains ys only.at) → HoldsOnlyOf s (Contains (x ∷ xs) only.at) (Contains (y ∷ ys) only.at)
    side A (has, lacks) =
        (Contains-tail x xs only.at has, λ c. elim (Contains-cons_cases y ys only.at c) [ inl h ↦ head_apart x xs only.at rx has (e ∙ h) | inr d ↦ lacks d ])
    side B (has, lacks) =
        (Contains-tail y ys only.at has, λ c. elim (Contains-cons_cases x xs only.at c) [ inl h ↦ head_apart y ys only.at ry has (sym e ∙ h) | inr d ↦ lacks d ])
    side Both none = none

-- ---- at an index

-- what is found of the lists from an index on is found of them whole
pub record IsPassed (xs ys : List ℤ) (i : ℕ) : Type 0 where
  pub rises_a : Rises int_lt (drop i xs)
  pub rises_b : Rises int_lt (drop i ys)
  pub whole : (only : Option Only) → IsFirstOnly (drop i xs) (drop i ys) only → IsFirstOnly xs ys only

pub none_passed : (xs ys : List ℤ) → Rises int_lt xs → Rises int_lt ys → IsPassed xs ys 0
none_passed xs ys rx ry = record { rises_a = rx; rises_b = ry; whole = λ only h. h }

module _ (xs ys : List ℤ) (i : ℕ) (p : IsPassed xs ys i) (lx : i < length xs) (ly : i < length ys) where
  rises_x : Rises int_lt (get_or xs i (pos 0) ∷ drop (i + 1) xs)
  rises_x = subst (Rises int_lt) (drop_more xs i (pos 0) lx) p.rises_a

  rises_y : Rises int_lt (get_or ys i (pos 0) ∷ drop (i + 1) ys)
  rises_y = subst (Rises int_lt) (drop_more ys i (pos 0) ly) p.rises_b

  whole_of : (only : Option Only) → IsFirstOnly (get_or xs i (pos 0) ∷ drop (i + 1) xs) (get_or ys i (pos 0) ∷ drop (i + 1) ys) only → IsFirstOnly xs ys only
  whole_of only h =
      p.whole only
      (subst (λ l. IsFirstOnly l (drop i ys) only) (sym (drop_more xs i (pos 0) lx))
      (subst (λ l. IsFirstOnly (get_or xs i (pos 0) ∷ drop (i + 1) xs) l only) (sym (drop_more ys i (pos 0) ly)) h))

  pub less_at_a : get_or xs i (pos 0) <ℤ get_or ys i (pos 0) → IsFirstOnly xs ys (Some (record { at = get_or xs i (pos 0); side = A }))
  less_at_a l = whole_of (Some (record { at = get_or xs i (pos 0); side = A })) (less_a (get_or xs i (pos 0)) (get_or ys i (pos 0)) (drop (i + 1) xs) (drop (i + 1) ys) rises_x rises_y l)

  pub less_at_b : get_or ys i (pos 0) <ℤ get_or xs i (pos 0) → IsFirstOnly xs ys (Some (record { at = get_or ys i (pos 0); side = B }))
  less_at_b l = whole_of (Some (record { at = get_or ys i (pos 0); side = B })) (less_b (get_or xs i (pos 0)) (get_or ys i (pos 0)) (drop (i + 1) xs) (drop (i + 1) ys) rises_x rises_y l)

  pub next_passed : get_or xs i (pos 0) ≡ get_or ys i (pos 0) → IsPassed xs ys (i + 1)
  next_passed e = record {
    rises_a = Rises-tail int_lt (get_or xs i (pos 0)) (drop (i + 1) xs) rises_x;
    rises_b = Rises-tail int_lt (get_or ys i (pos 0)) (drop (i + 1) ys) rises_y;
    whole = λ only h.
        whole_of only (behind (get_or xs i (pos 0)) (get_or ys i (pos 0)) (drop (i + 1) xs) (drop (i + 1) ys) rises_x rises_y e only h);
  }

-- if one ends, nothing of it is left
one_left : (xs ys : List ℤ) (i : ℕ) → i ≡ min (length xs) (length ys) → (drop i xs ≡ []) ⊎ (drop i ys ≡ [])
one_left xs ys i e =
    by_lt_z {P = (drop i xs ≡ []) ⊎ (drop i ys ≡ [])} (pos (length xs)) (pos (length ys)) (λ l. inl (drop_all i xs (omega (arith, ints, e, l))))
    (λ l. inr (drop_all i ys (omega (arith, ints, e, l))))

-- what a slice up to the end takes
rest_is : (xs : List ℤ) (i : ℕ) → take (length xs - i) (drop i xs) ≡ drop i xs
rest_is xs i = take_all (length xs - i) (drop i xs) (omega (arith, length-drop i xs))

pub one_rest : (xs ys : List ℤ) (i : ℕ) → i ≡ min (length xs) (length ys)
    → (take (length xs - i) (drop i xs) ≡ []) ⊎ (take (length ys - i) (drop i ys) ≡ [])
one_rest xs ys i e = elim (one_left xs ys i e) [ inl a ↦ inl (rest_is xs i ∙ a) | inr b ↦ inr (rest_is ys i ∙ b) ]

-- what is found of the rests is what is found of the lists
pub of_rests : (xs ys : List ℤ) (i j : ℕ) (only : Option Only) → i ≡ j → IsPassed xs ys j
    → IsFirstOnly (take (length xs - i) (drop i xs)) (take (length ys - i) (drop i ys)) only → IsFirstOnly xs ys only
of_rests xs ys i j only e p h =
    p.whole only (subst (λ k. IsFirstOnly (drop k xs) (drop k ys) only) e
    (subst (λ l. IsFirstOnly (drop i xs) l only) (rest_is ys i) (subst (λ l. IsFirstOnly l (take (length ys - i) (drop i ys)) only) (rest_is xs i) h)))

-- ---- as they are stored

pub as_stored_less : (x y : ℤ) → FitsSigned w64 x → FitsSigned w64 y → int_lt (to_z w64 (of_z w64 x)) (to_z w64 (of_z w64 y)) ≡ true → x <ℤ y
as_stored_less x y fx fy e =
    less x y (subst (λ z. int_lt z y ≡ true) (to_z-of_z w64 x fx) (subst (λ z. int_lt (to_z w64 (of_z w64 x)) z ≡ true) (to_z-of_z w64 y fy) e))
  where
    less : (x y : ℤ) → int_lt x y ≡ true → x <ℤ y
    less x y e = grind (arith, ints)

pub as_stored_equal : (x y : ℤ) → FitsSigned w64 x → FitsSigned w64 y → int_lt (to_z w64 (of_z w64 x)) (to_z w64 (of_z w64 y)) ≡ false
    → int_lt (to_z w64 (of_z w64 y)) (to_z w64 (of_z w64 x)) ≡ false → x ≡ y
as_stored_equal x y fx fy d e =
    sym (to_z-of_z w64 x fx) ∙ same (to_z w64 (of_z w64 x)) (to_z w64 (of_z w64 y)) d e ∙ to_z-of_z w64 y fy
  where
    same : (x y : ℤ) → int_lt x y ≡ false → int_lt y x ≡ false → x ≡ y
    same x y d e = omega (arith, ints, d, e)
