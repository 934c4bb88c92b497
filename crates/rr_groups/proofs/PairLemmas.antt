-- Pairs of indexes: those of groups are all of them, and an index is in one at most.
use Rattle.std.proofs.Common.{◌≡◌, ℕ, zero, suc, ◌+◌, ◌<◌, Bool, true, false, cond, Some, List, [], ◌∷◌, ◌++◌, length, get_or, sym, refl, ap, ◌∙◌, subst, inl, inr, arith}
use Rattle.std.specs.Prelude.{slice_get}
use Rattle.std.specs.List.{All, Contains}
use Rattle.std.specs.Ordering.{is_eq}
use Rattle.std.specs.declared.cmp.Ordering.{Ordering}
use Rattle.std.specs.declared.cmp.Ordering.TheVariants.{Less, Equal, Greater}
use Rattle.std.proofs.lemmas.Bool.{true≢false}
use Rattle.std.proofs.lemmas.Option.{none-some, same_Some}
use Rattle.std.proofs.lemmas.List.Elements.{All-append, All-contains, All-cons, All-head, All-nil, All-tail, Contains-append_left, Contains-append_right}
use Rattle.rr_model.proofs.RisingSetLemmas.{Contains-cons_cases, Contains-tail}
use Rattle.rr_seam.specs.Keys.{is_same_key, key_cmp}
use Rattle.rr_seam.specs.declared.key.Key.{Key}
use Rattle.rr_groups.specs.Groups.{AreGroups, indexes_from, indexes_of, keys_of}
use Rattle.rr_groups.specs.Pairs.{ArePairs, IsPair, PairsAreApart, PairsAreWithin, makes_pairs, pairs_in, pairs_in_group, pairs_of_lists}
use Rattle.rr_groups.specs.declared.group.Group.{Group}
use Rattle.rr_groups.specs.declared.pairs.IndexPair.{IndexPair}
use Rattle.rr_groups.proofs.KeyLemmas.{key_exact}

-- ---- where an index stands

equal_from : (r : Ordering) → is_eq r ≡ true → r ≡ Equal
equal_from Less e = absurd (true≢false (sym e))
equal_from Equal e = refl
equal_from Greater e = absurd (true≢false (sym e))

-- two keys that are the same are one
pub same_key : (x y : Key) → is_same_key x y ≡ true → x ≡ y
same_key x y e = key_exact x y (equal_from (key_cmp x y) e)

-- an index, which counts from n on, is that of a key that passes a test
pub record IsAt (test : Key → Bool) (n : ℕ) (keys : List Key) (i : ℕ) : Type 0 where
  pub place : ℕ
  pub is : i ≡ n + place
  pub below : place < length keys
  pub passes : (d : Key) → test (get_or keys place d) ≡ true

module _ (test : Key → Bool) where
  later : (n : ℕ) (k : Key) (ks : List Key) (i : ℕ) → IsAt test (n + 1) ks i → IsAt test n (k ∷ ks) i
  later n k ks i at = record {
    place = suc at.place;
    is = omega (arith, at.is);
    below = omega (arith, at.below);
    passes = λ d. at.passes d;
  }

  there_by : (n : ℕ) (k : Key) (ks : List Key) (b : Bool) → test k ≡ b
      → ((place i : ℕ) → slice_get (indexes_from test (n + 1) ks) place ≡ Some i → IsAt test (n + 1) ks i)
      → (place i : ℕ) → slice_get (cond b (n ∷ indexes_from test (n + 1) ks) (indexes_from test (n + 1) ks)) place ≡ Some i → IsAt test n (k ∷ ks) i
  there_by n k ks true e more zero i h = record { place = 0; is = omega (arith, same_Some n i h); below = omega arith; passes = λ d. e }
  there_by n k ks true e more (suc place) i h = later n k ks i (more place i h)
  there_by n k ks false e more place i h = later n k ks i (more place i h)

  -- an index of the keys that pass a test is that of one of them
  pub there : (n : ℕ) (keys : List Key) (place i : ℕ) → slice_get (indexes_from test n keys) place ≡ Some i → IsAt test n keys i
  there n [] place i h = absurd (none-some i h)
  there n (k ∷ ks) place i h = there_by n k ks (test k) refl (there (n + 1) ks) place i h

  same_by : (n : ℕ) (ks : List Key) (b : Bool)
      → ((p q i : ℕ) → slice_get (indexes_from test (n + 1) ks) p ≡ Some i → slice_get (indexes_from test (n + 1) ks) q ≡ Some i → p ≡ q)
      → (p q i : ℕ) → slice_get (cond b (n ∷ indexes_from test (n + 1) ks) (indexes_from test (n + 1) ks)) p ≡ Some i
      → slice_get (cond b (n ∷ indexes_from test (n + 1) ks) (indexes_from test (n + 1) ks)) q ≡ Some i → p ≡ q
  same_by n ks true more zero zero i h g = refl
  same_by n ks true more zero (suc q) i h g = absurd (omega (arith, same_Some n i h, (there (n + 1) ks q i g).is))
  same_by n ks true more (suc p) zero i h g = absurd (omega (arith, same_Some n i g, (there (n + 1) ks p i h).is))
  same_by n ks true more (suc p) (suc q) i h g = ap suc (more p q i h g)
  same_by n ks false more p q i h g = more p q i h g

  -- an index has one place
  pub same_place : (n : ℕ) (keys : List Key) (p q i : ℕ) → slice_get (indexes_from test n keys) p ≡ Some i
      → slice_get (indexes_from test n keys) q ≡ Some i → p ≡ q
  same_place n [] p q i h g = absurd (none-some i h)
  same_place n (k ∷ ks) p q i h g = same_by n ks (test k) (same_place (n + 1) ks) p q i h g

-- the index of a key is below the length of its list
pub index_within : (key : Key) (keys : List Key) (place i : ℕ) → slice_get (indexes_of key keys) place ≡ Some i → i < length keys
index_within key keys place i h =
    let at = there (λ k. is_same_key k key) 0 keys place i h in omega (arith, at.is, at.below)

-- a key that has an index is in the list
pub index_contained : (key : Key) (keys : List Key) (place i : ℕ) → slice_get (indexes_of key keys) place ≡ Some i → Contains keys key
index_contained key keys place i h =
    let at = there (λ k. is_same_key k key) 0 keys place i h in
    (at.place, at.below, same_key (get_or keys at.place key) key (at.passes key))

-- an index is that of one key
one_key : (keys : List Key) (j k : Key) (m n i : ℕ) → slice_get (indexes_of j keys) m ≡ Some i → slice_get (indexes_of k keys) n ≡ Some i → j ≡ k
one_key keys j k m n i h g =
    let p = there (λ x. is_same_key x j) 0 keys m i h in
    let q = there (λ x. is_same_key x k) 0 keys n i g in
    let e : q.place ≡ p.place = omega (arith, p.is, q.is) in
    sym (same_key (get_or keys p.place j) j (p.passes j))
    ∙ same_key (get_or keys p.place j) k (subst (λ x. is_same_key (get_or keys x j) k ≡ true) e (q.passes j))

-- two indexes that stand beside one index are one
apart : (xs ys : List Key) (j k : Key) (m n i x y : ℕ) → slice_get (indexes_of j xs) m ≡ Some i → slice_get (indexes_of k xs) n ≡ Some i
    → slice_get (indexes_of j ys) m ≡ Some x → slice_get (indexes_of k ys) n ≡ Some y → x ≡ y
apart xs ys j k m n i x y h g beside_h beside_g =
    let e = one_key xs j k m n i h g in
    let p : m ≡ n = same_place (λ z. is_same_key z k) 0 xs m n i (subst (λ z. slice_get (indexes_of z xs) m ≡ Some i) e h) g in
    same_Some x y (sym (subst (λ z. slice_get (indexes_of k ys) z ≡ Some x) p (subst (λ z. slice_get (indexes_of z ys) m ≡ Some x) e beside_h)) ∙ beside_g)

pub pairs_are_apart : PairsAreApart
pairs_are_apart = record {
  of_a = λ is_only a b p q h g e. apart a b h.key g.key h.place g.place q.a p.b q.b (h.of_a ∙ ap Some e) g.of_a h.of_b g.of_b;
  of_b = λ is_only a b p q h g e. apart b a h.key g.key h.place g.place q.b p.a q.a (h.of_b ∙ ap Some e) g.of_b h.of_a g.of_a;
}

pub pairs_are_within : PairsAreWithin
pairs_are_within is_only a b p h = (index_within h.key a h.place p.a h.of_a, index_within h.key b h.place p.b h.of_b)

-- ---- the pairs of two lists of indexes

lists_sound : (P : IndexPair → Type 0) (is js : List ℕ) → ((place i j : ℕ) → slice_get is place ≡ Some i → slice_get js place ≡ Some j → P (record { a = i; b = j }))
    → All P (pairs_of_lists is js)
lists_sound P [] js h = All-nil P
lists_sound P (i ∷ is) [] h = All-nil P
lists_sound P (i ∷ is) (j ∷ js) h =
    All-cons P (record { a = i; b = j }) (pairs_of_lists is js) (h 0 i j refl refl) (lists_sound P is js (λ place x y e f. h (suc place) x y e f))

lists_every : (is js : List ℕ) (place : ℕ) (pair : IndexPair) → slice_get is place ≡ Some pair.a → slice_get js place ≡ Some pair.b
    → Contains (pairs_of_lists is js) pair
lists_every [] js place pair h g = absurd (none-some pair.a h)
lists_every (i ∷ is) [] place pair h g = absurd (none-some pair.b g)
lists_every (i ∷ is) (j ∷ js) zero pair h g =
    let ei = same_Some i pair.a h in
    let ej = same_Some j pair.b g in
    (0, omega arith, λ t. record { a = ei t; b = ej t })
lists_every (i ∷ is) (j ∷ js) (suc place) pair h g =
    Contains-tail (record { a = i; b = j }) (pairs_of_lists is js) pair (lists_every is js place pair h g)

-- ---- the pairs of a group

makes_as_often : (is_only : Bool) (m n : ℕ) → makes_pairs is_only m n ≡ true → m ≡ n
makes_as_often true m n e = grind (arith, e)
makes_as_often false m n e = grind (arith, e)

makes_once : (is_only : Bool) (m n : ℕ) → makes_pairs is_only m n ≡ true → is_only ≡ true → m ≡ 1
makes_once true m n e only = grind (arith, e)
makes_once false m n e only = absurd (true≢false (sym only))

makes_from : (is_only : Bool) (m n : ℕ) → m ≡ n → (is_only ≡ true → m ≡ 1) → makes_pairs is_only m n ≡ true
makes_from true m n as_often once = grind (arith, as_often, once refl)
makes_from false m n as_often once = grind (arith, as_often)

module _ (is_only : Bool) (a b : List Key) where
  group_sound_by : (group : Group) (t : Bool) → makes_pairs is_only (length group.a.items) (length group.b.items) ≡ t
      → group.a.items ≡ indexes_of group.key a → group.b.items ≡ indexes_of group.key b
      → All (IsPair is_only a b) (cond t (pairs_of_lists group.a.items group.b.items) [])
  group_sound_by group true e of_a of_b = lists_sound (IsPair is_only a b) group.a.items group.b.items (λ place i j h g. record {
    key = group.key;
    place = place;
    of_a = subst (λ is. slice_get is place ≡ Some i) of_a h;
    of_b = subst (λ is. slice_get is place ≡ Some j) of_b g;
    as_often = sym (ap length of_a) ∙ makes_as_often is_only (length group.a.items) (length group.b.items) e ∙ ap length of_b;
    once = λ only. sym (ap length of_a) ∙ makes_once is_only (length group.a.items) (length group.b.items) e only;
  })
  group_sound_by group false e of_a of_b = All-nil (IsPair is_only a b)

  groups_sound : (groups : List Group) → All (λ (g : Group). g.a.items ≡ indexes_of g.key a) groups
      → All (λ (g : Group). g.b.items ≡ indexes_of g.key b) groups → All (IsPair is_only a b) (pairs_in is_only groups)
  groups_sound [] of_a of_b = All-nil (IsPair is_only a b)
  groups_sound (g ∷ gs) of_a of_b =
      All-append (IsPair is_only a b) (pairs_in_group is_only g) (pairs_in is_only gs)
      (group_sound_by g (makes_pairs is_only (length g.a.items) (length g.b.items)) refl
      (All-head (λ (x : Group). x.a.items ≡ indexes_of x.key a) g gs of_a) (All-head (λ (x : Group). x.b.items ≡ indexes_of x.key b) g gs of_b))
      (groups_sound gs (All-tail (λ (x : Group). x.a.items ≡ indexes_of x.key a) g gs of_a) (All-tail (λ (x : Group). x.b.items ≡ indexes_of x.key b) g gs of_b))

  module _ (pair : IndexPair) (is : IsPair is_only a b pair) where
    -- the group of its key has the pair
    group_every : (group : Group) → group.a.items ≡ indexes_of group.key a → group.b.items ≡ indexes_of group.key b → group.key ≡ is.key
        → Contains (pairs_in_group is_only group) pair
    group_every group of_a of_b e =
        let as_a : group.a.items ≡ indexes_of is.key a = of_a ∙ ap (λ k. indexes_of k a) e in
        let as_b : group.b.items ≡ indexes_of is.key b = of_b ∙ ap (λ k. indexes_of k b) e in
        let makes : makes_pairs is_only (length group.a.items) (length group.b.items) ≡ true =
        makes_from is_only (length group.a.items) (length group.b.items) (ap length as_a ∙ is.as_often ∙ sym (ap length as_b))
        (λ only. ap length as_a ∙ is.once only) in
        subst (λ t. Contains (cond t (pairs_of_lists group.a.items group.b.items) []) pair) (sym makes)
        (lists_every group.a.items group.b.items is.place pair (subst (λ js. slice_get js is.place ≡ Some pair.a) (sym as_a) is.of_a)
        (subst (λ js. slice_get js is.place ≡ Some pair.b) (sym as_b) is.of_b))

    groups_every : (groups : List Group) → All (λ (g : Group). g.a.items ≡ indexes_of g.key a) groups
        → All (λ (g : Group). g.b.items ≡ indexes_of g.key b) groups → Contains (keys_of groups) is.key → Contains (pairs_in is_only groups) pair
    groups_every [] of_a of_b c = absurd (omega (arith, c.1))
    groups_every (g ∷ gs) of_a of_b c = elim (Contains-cons_cases g.key (keys_of gs) is.key c) [
      | inl e ↦ Contains-append_left (pairs_in_group is_only g) (pairs_in is_only gs) pair
          (group_every g (All-head (λ (x : Group). x.a.items ≡ indexes_of x.key a) g gs of_a) (All-head (λ (x : Group). x.b.items ≡ indexes_of x.key b) g gs of_b) e)
      | inr more ↦ Contains-append_right (pairs_in_group is_only g) (pairs_in is_only gs) pair
          (groups_every gs (All-tail (λ (x : Group). x.a.items ≡ indexes_of x.key a) g gs of_a) (All-tail (λ (x : Group). x.b.items ≡ indexes_of x.key b) g gs of_b) more)
    ]

-- the pairs of groups are all pairs
pub are_pairs : (is_only : Bool) (a b : List Key) (groups : List Group) → AreGroups a b groups → ArePairs is_only a b (pairs_in is_only groups)
are_pairs is_only a b groups are = record {
  sound = groups_sound is_only a b groups are.of_a are.of_b;
  every = λ pair is. groups_every is_only a b pair is groups are.of_a are.of_b
      (All-contains (Contains (keys_of groups)) (a ++ b) is.key are.every
      (Contains-append_left a b is.key (index_contained is.key a is.place pair.a is.of_a)));
}
