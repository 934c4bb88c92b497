-- Dated lengths in order, and the longest of each moment.
use Rattle.std.proofs.Common.{◌≡◌, ◌⊎◌, inl, inr, ℕ, ◌+◌, ◌<◌, ◌≤◌, Bool, true, false, IsTrue, List, [], ◌∷◌, ◌++◌, length, filter, suc, get_or, drop, drop-cons, if◌then◌else◌, Option, None, Some, ℤ, refl, sym, ap, subst, ◌∙◌, arith}
use Rattle.std.specs.Prelude.{int_le, int_lt}
use native.Mathlib.Numerals.{add-one}
use Rattle.std.specs.List.Sorted.{IsSortedByKey, IsStableByKey, ties}
use Rattle.std.specs.Ordering.{int_cmp, int_eq, is_lt}
use Rattle.std.proofs.lemmas.Bool.{cases_lt}
use Rattle.std.proofs.lemmas.Int.{ints}
use Rattle.std.proofs.lemmas.Bool.Decides.{nat_tests}
use Rattle.std.proofs.lemmas.List.Elements.{All-cons, All-head, All-nil, All-tail}
use Rattle.rr_model.proofs.TestLemmas.{int_eq-same}
use Rattle.rr_length.specs.Length.{is_longer, length_of, longer_of}
use Rattle.rr_length.specs.Lengths.{HasNearDates, IsNearDate, longer_than, longest_at}
use Rattle.rr_length.specs.Walk.{HasOrderedDates, HasRisingDates, HaveOneLongest, at_of}
use Rattle.rr_length.specs.declared.length.Length.{Length}
use Rattle.rr_length.specs.declared.lengths.Dated.{Dated}

-- ---- a sorted copy

not_below : (x y : ℤ) → is_lt (int_cmp y x) ≡ false → IsTrue (int_le x y)
not_below x y h = grind (arith, ints)

ordered_by : (ds : List Dated) → ((k : ℕ) (x : Dated) → suc k < length ds → is_lt (int_cmp (get_or ds (suc k) x).at (get_or ds k x).at) ≡ false)
    → HasOrderedDates ds
ordered_by [] h = tt
ordered_by (d ∷ []) h = tt
ordered_by (d ∷ e ∷ es) h = (not_below d.at e.at (h 0 d (omega arith)), ordered_by (e ∷ es) (λ k x l. h (suc k) x (omega (arith, l))))

-- what is sorted by its moments is in order
pub sorted_ordered : (ds : List Dated) → IsSortedByKey at_of int_cmp ds → HasOrderedDates ds
sorted_ordered ds s = ordered_by ds (λ k x l. ap (λ (n : ℕ). is_lt (int_cmp (get_or ds n x).at (get_or ds k x).at)) (sym (add-one k))
    ∙ s k x (omega arith) (omega (arith, l)))

-- one stands before another
abbrev stands_before : Dated → Dated → Bool
stands_before x y = is_lt (int_cmp x.at y.at)

tied_same : (x d : Dated) → int_eq d.at x.at ≡ true → ties stands_before x d ≡ true
tied_same x d e = grind (arith, ints)

tied_other : (x d : Dated) → int_eq d.at x.at ≡ false → ties stands_before x d ≡ false
tied_other x d e = grind (arith, ints)

-- the longest of a moment is that of those at this moment alone
longest_tied : (x : Dated) (ds : List Dated) → longest_at (filter (ties stands_before x) ds) x.at ≡ longest_at ds x.at
longest_tied x [] = refl
longest_tied x (d ∷ ds) = by (int_eq d.at x.at) refl (longest_tied x ds)
  where
    by : (b : Bool) → int_eq d.at x.at ≡ b → longest_at (filter (ties stands_before x) ds) x.at ≡ longest_at ds x.at
        → longest_at (filter (ties stands_before x) (d ∷ ds)) x.at ≡ longest_at (d ∷ ds) x.at
    by true e rest = rw (tied_same x d e, e) (ap (λ (r : Option Length). Some (longer_than d.length r)) rest)
    by false e rest = rw (tied_other x d e, e) rest

-- a stable sort keeps the longest of each moment
pub stable_same : (given sorted : List Dated) → IsStableByKey at_of int_cmp given sorted → HaveOneLongest sorted given
stable_same given sorted stable t =
    let x : Dated = record { at = t; length = length_of 0 0 } in
    sym (longest_tied x sorted) ∙ ap (λ (ds : List Dated). longest_at ds t) (stable x) ∙ longest_tied x given

-- ---- the longest of each moment

-- the first is longer: more days, or as many and more seconds
abbrev IsLonger : Length → Length → Type 0
IsLonger l m = (m.days < l.days) ⊎ ((l.days ≡ m.days) × (m.seconds < l.seconds))

longer_yes : (l m : Length) → is_longer l m ≡ true → IsLonger l m
longer_yes l m e = grind (arith, nat_tests)

longer_no : (l m : Length) → is_longer l m ≡ false → IsLonger l m → ⊥
longer_no l m e h = elim h [ inl a ↦ grind (arith, nat_tests) | inr b ↦ grind (arith, nat_tests) ]

longer_if : (l m : Length) → (IsLonger l m → ⊥) → is_longer l m ≡ false
longer_if l m n = by (is_longer l m) refl
  where
    by : (b : Bool) → is_longer l m ≡ b → is_longer l m ≡ false
    by true e = absurd (n (longer_yes l m e))
    by false e = e

longer_is : (l m : Length) → IsLonger l m → is_longer l m ≡ true
longer_is l m h = by (is_longer l m) refl
  where
    by : (b : Bool) → is_longer l m ≡ b → is_longer l m ≡ true
    by true e = e
    by false e = absurd (longer_no l m e h)

longer_over : (k l m : Length) → IsLonger l k → IsLonger m l → IsLonger m k
longer_over k l m a b = elim a [
  | inl p ↦ elim b [ inl q ↦ inl (omega (arith, p, q)) | inr q ↦ let e = q.0 in inl (omega (arith, p, e)) ]
  | inr p ↦
      let d = p.0 in
      let t = p.1 in
      elim b [ inl q ↦ inl (omega (arith, d, q)) | inr q ↦ let e = q.0 in let u = q.1 in inr (omega (arith, d, e), omega (arith, t, u)) ]
]

not_longer_over : (k l m : Length) → (IsLonger l k → ⊥) → (IsLonger m l → ⊥) → IsLonger m k → ⊥
not_longer_over k l m a b h =
    let days_a : l.days ≤ k.days = not_less k.days l.days (λ p. a (inl p)) in
    let days_b : m.days ≤ l.days = not_less l.days m.days (λ p. b (inl p)) in
    elim h [
      | inl p ↦ omega (arith, days_a, days_b, p)
      | inr p ↦
          let e = p.0 in
          let t = p.1 in
          let seconds_a : l.seconds ≤ k.seconds = not_less k.seconds l.seconds (λ q. a (inr (omega (arith, days_a, days_b, e), q))) in
          let seconds_b : m.seconds ≤ l.seconds = not_less l.seconds m.seconds (λ q. b (inr (omega (arith, days_a, days_b, e), q))) in
          omega (arith, seconds_a, seconds_b, t)
    ]
  where
    not_less : (x y : ℕ) → (x < y → ⊥) → y ≤ x
    not_less x y n = elim (cases_lt x y) [ inl l ↦ absurd (n l) | inr l ↦ l ]

longer_grouped : (k l m : Length) → longer_of (longer_of k l) m ≡ longer_of k (longer_of l m)
longer_grouped k l m = by (is_longer l k) (is_longer m l) refl refl
  where
    by : (b c : Bool) → is_longer l k ≡ b → is_longer m l ≡ c → longer_of (longer_of k l) m ≡ longer_of k (longer_of l m)
    by true true e f =
        let over : is_longer m k ≡ true = longer_is m k (longer_over k l m (longer_yes l k e) (longer_yes m l f)) in
        rw (e, f, over) refl
    by true false e f = rw (e, f, e) refl
    by false true e f = rw (e, f) refl
    by false false e f =
        let under : is_longer m k ≡ false = longer_if m k (not_longer_over k l m (longer_no l k e) (longer_no m l f)) in
        rw (e, f, under, e) refl

longer_than_grouped : (k l : Length) (r : Option Length) → longer_than (longer_of k l) r ≡ longer_of k (longer_than l r)
longer_than_grouped k l None = refl
longer_than_grouped k l (Some m) = longer_grouped k l m

-- what is put before both changes nothing
append_same : (found ds es : List Dated) → HaveOneLongest ds es → HaveOneLongest (found ++ ds) (found ++ es)
append_same [] ds es h t = h t
append_same (f ∷ fs) ds es h t =
    ap (λ (r : Option Length). if int_eq f.at t then Some (longer_than f.length r) else r) (append_same fs ds es h t)

-- two of one moment
abbrev longer_one : Dated → Dated → Dated
longer_one d e = record { at = d.at; length = longer_of d.length e.length }

two_same : (d e : Dated) (ds : List Dated) → e.at ≡ d.at → HaveOneLongest (longer_one d e ∷ ds) (d ∷ e ∷ ds)
two_same d e ds same t = by (int_eq d.at t) refl
  where
    other : int_eq e.at t ≡ int_eq d.at t
    other = ap (λ (u : ℤ). int_eq u t) same

    by : (b : Bool) → int_eq d.at t ≡ b → longest_at (longer_one d e ∷ ds) t ≡ longest_at (d ∷ e ∷ ds) t
    by true h = rw (other, h) (ap (λ (l : Length). Some l) (longer_than_grouped d.length e.length (longest_at ds t)))
    by false h = rw (other, h) refl

rising_same : (found : List Dated) (d e : Dated) → d.at ≡ e.at → HasRisingDates (found ++ d ∷ []) → HasRisingDates (found ++ e ∷ [])
rising_same [] d e same r = tt
rising_same (f ∷ []) d e same r = (subst (λ (t : ℤ). IsTrue (int_lt f.at t)) same r.0, tt)
rising_same (f ∷ g ∷ gs) d e same r = (r.0, rising_same (g ∷ gs) d e same r.1)

rising_push : (found : List Dated) (d e : Dated) → HasRisingDates (found ++ d ∷ []) → IsTrue (int_lt d.at e.at) → HasRisingDates ((found ++ d ∷ []) ++ e ∷ [])
rising_push [] d e r l = (l, tt)
rising_push (f ∷ []) d e r l = (r.0, (l, tt))
rising_push (f ∷ g ∷ gs) d e r l = (r.0, rising_push (g ∷ gs) d e r.1 l)

ordered_same : (d e : Dated) (ds : List Dated) → d.at ≡ e.at → HasOrderedDates (d ∷ ds) → HasOrderedDates (e ∷ ds)
ordered_same d e [] same r = tt
ordered_same d e (f ∷ fs) same r = (subst (λ (t : ℤ). IsTrue (int_le t f.at)) same r.0, r.1)

-- so far the longest of each moment are found, the last of them may still grow, and the rest is left
pub record AreMerged (given found : List Dated) (last : Dated) (rest : List Dated) : Type 0 where
  pub same : HaveOneLongest (found ++ last ∷ rest) given
  pub rising : HasRisingDates (found ++ last ∷ [])
  pub ordered : HasOrderedDates (last ∷ rest)

-- one more of the same moment
pub merged_same : (given found : List Dated) (d e : Dated) (rest : List Dated) → AreMerged given found d (e ∷ rest) → e.at ≡ d.at
    → AreMerged given found (longer_one d e) rest
merged_same given found d e rest m same = record {
  same = λ t. append_same found (longer_one d e ∷ rest) (d ∷ e ∷ rest) (two_same d e rest same) t ∙ m.same t;
  rising = rising_same found d (longer_one d e) refl m.rising;
  ordered = ordered_same e (longer_one d e) rest same m.ordered.1;
}

later_lt : (x y : ℤ) → IsTrue (int_le x y) → (y ≡ x → ⊥) → IsTrue (int_lt x y)
later_lt x y l n = grind (arith, ints)

append_one : (found : List Dated) (d : Dated) (rest : List Dated) → (found ++ d ∷ []) ++ rest ≡ found ++ d ∷ rest
append_one [] d rest = refl
append_one (f ∷ fs) d rest = ap (λ (ds : List Dated). f ∷ ds) (append_one fs d rest)

-- one of a later moment
pub merged_next : (given found : List Dated) (d e : Dated) (rest : List Dated) → AreMerged given found d (e ∷ rest) → (e.at ≡ d.at → ⊥)
    → AreMerged given (found ++ d ∷ []) e rest
merged_next given found d e rest m other = record {
  same = λ t. ap (λ (ds : List Dated). longest_at ds t) (append_one found d (e ∷ rest)) ∙ m.same t;
  rising = rising_push found d e m.rising (later_lt d.at e.at m.ordered.0 other);
  ordered = m.ordered.1;
}

-- the elements of a slice behind the first, one after the other
pub merged_at : (given found : List Dated) (last : Dated) (rest : List Dated) (i : ℕ) (none : Dated) → i < length rest
    → AreMerged given found last (drop i rest)
    → AreMerged given found last (get_or rest i none ∷ drop (i + 1) rest)
merged_at given found last rest i none l m = subst (λ (ds : List Dated). AreMerged given found last ds)
    (drop-cons rest i none l ∙ ap (λ (n : ℕ). get_or rest i none ∷ drop n rest) (sym (add-one i))) m

-- ---- what is near

not_none : (l : Length) → Some l ≡ None → ⊥
not_none l e = search (arith, e)

is_one : (x y : ℤ) → int_eq x y ≡ true → x ≡ y
is_one x y e = grind (arith, ints)

some_there : (d : Dated) (ds : List Dated) → longest_at (d ∷ ds) d.at ≡ None → ⊥
some_there d ds n = not_none (longer_than d.length (longest_at ds d.at)) (sym (rw (int_eq-same d.at) refl) ∙ n)

none_behind : (d : Dated) (ds : List Dated) (t : ℤ) → longest_at (d ∷ ds) t ≡ None → longest_at ds t ≡ None
none_behind d ds t n = by (int_eq d.at t) refl
  where
    by : (b : Bool) → int_eq d.at t ≡ b → longest_at ds t ≡ None
    by true e = absurd (not_none (longer_than d.length (longest_at ds t)) (sym (rw e refl) ∙ n))
    by false e = sym (rw e refl) ∙ n

-- a moment that has a dated length is near, if dated lengths are
near_there : (ds : List Dated) (t : ℤ) → HasNearDates ds → (longest_at ds t ≡ None → ⊥) → IsNearDate t
near_there [] t near some = absurd (some refl)
near_there (d ∷ ds) t near some = by (int_eq d.at t) refl (λ none. near_there ds t (All-tail (λ (x : Dated). IsNearDate x.at) d ds near) none)
  where
    by : (b : Bool) → int_eq d.at t ≡ b → ((longest_at ds t ≡ None → ⊥) → IsNearDate t) → IsNearDate t
    by true e rest = subst IsNearDate (is_one d.at t e) (All-head (λ (x : Dated). IsNearDate x.at) d ds near)
    by false e rest = rest (λ n. some (rw e n))

all_near : (ds : List Dated) → ((t : ℤ) → (longest_at ds t ≡ None → ⊥) → IsNearDate t) → HasNearDates ds
all_near [] h = All-nil (λ (x : Dated). IsNearDate x.at)
all_near (d ∷ ds) h =
    let rest : HasNearDates ds = all_near ds (λ t some. h t (λ n. some (none_behind d ds t n))) in
    All-cons (λ (x : Dated). IsNearDate x.at) d ds (h d.at (λ n. some_there d ds n)) rest

-- lists with one longest of each moment are near, if one of them is
pub near_same : (ds es : List Dated) → HaveOneLongest ds es → HasNearDates es → HasNearDates ds
near_same ds es same near = all_near ds (λ t some. near_there es t near (λ n. some (same t ∙ n)))
