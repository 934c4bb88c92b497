-- Lists of differences in order.
use Rattle.std.proofs.Common.{◌≡◌, inl, inr, ◌≤◌, ℤ, ◌<ℤ◌, Bool, List, [], ◌∷◌, ◌++◌, length, Contains, sym, subst, ◌∙◌, arith}
use Rattle.std.specs.Prelude.{IsTrue, int_lt}
use Rattle.std.proofs.lemmas.Int.{ints}
use Rattle.rr_model.specs.Rising.{Rises}
use Rattle.rr_model.specs.declared.kind.Kind.{Kind}
use Rattle.rr_model.specs.declared.verdict.Side.{Side}
use Rattle.rr_model.proofs.OrderLemmas.{from_place, place_of, to_place}
use Rattle.rr_model.proofs.RisingSetLemmas.{Contains-cons_cases, Contains-head, Contains-none, Contains-tail, Rises-tail, below_rest}
use Rattle.rr_differ.specs.Differences.{AreInOrder, ComesBefore}
use Rattle.rr_differ.specs.declared.difference.Difference.{Difference}

-- differences with equal parts are one
pub one_difference : (k l : Kind) (t u : ℤ) (x y : Side) → k ≡ l → t ≡ u → x ≡ y
    → ◌≡◌ {A = Difference} (record { kind = k; at = t; side = x }) (record { kind = l; at = u; side = y })
one_difference k l t u x y ek et ex = cc

-- one that comes after all others goes last
pub order_push : (ds : List Difference) (d : Difference) → AreInOrder ds → ((e : Difference) → Contains ds e → ComesBefore e d) → AreInOrder (ds ++ d ∷ [])
order_push [] d o above = tt
order_push (e ∷ []) d o above = (above e (Contains-head e []), tt)
order_push (e ∷ f ∷ fs) d o above = (o.0, order_push (f ∷ fs) d o.1 (λ g c. above g (Contains-tail e (f ∷ fs) g c)))

-- ---- as a test

abbrev pub is_earlier : Difference → Difference → Bool
is_earlier d e = int_lt (place_of d.kind d.at) (place_of e.kind e.at)

to_test : (x y : ℤ) → x <ℤ y → IsTrue (int_lt x y)
to_test x y l = grind (arith, ints)

from_test : (x y : ℤ) → IsTrue (int_lt x y) → x <ℤ y
from_test x y t = grind (arith, ints)

test_strict : (x : ℤ) → IsTrue (int_lt x x) → ⊥
test_strict x t = grind (arith, ints)

test_follows : (x y z : ℤ) → IsTrue (int_lt x y) → IsTrue (int_lt y z) → IsTrue (int_lt x z)
test_follows x y z l m = grind (arith, ints)

pub earlier_strict : (d : Difference) → IsTrue (is_earlier d d) → ⊥
earlier_strict d t = test_strict (place_of d.kind d.at) t

pub earlier_follows : (d e f : Difference) → IsTrue (is_earlier d e) → IsTrue (is_earlier e f) → IsTrue (is_earlier d f)
earlier_follows d e f l m = test_follows (place_of d.kind d.at) (place_of e.kind e.at) (place_of f.kind f.at) l m

pub earlier_of : (d e : Difference) → ComesBefore d e → IsTrue (is_earlier d e)
earlier_of d e b = to_test (place_of d.kind d.at) (place_of e.kind e.at) (to_place d.kind d.at e.kind e.at b)

pub before_of : (d e : Difference) → IsTrue (is_earlier d e) → ComesBefore d e
before_of d e t = from_place d.kind d.at e.kind e.at (from_test (place_of d.kind d.at) (place_of e.kind e.at) t)

pub order_rises : (ds : List Difference) → AreInOrder ds → Rises is_earlier ds
order_rises [] o = tt
order_rises (d ∷ []) o = tt
order_rises (d ∷ e ∷ es) o = (earlier_of d e o.0, order_rises (e ∷ es) o.1)

-- the first comes before the others
pub head_before : (d : Difference) (ds : List Difference) → AreInOrder (d ∷ ds) → (e : Difference) → Contains ds e → ComesBefore d e
head_before d ds o e c = before_of d e (below_rest is_earlier earlier_strict earlier_follows d ds (order_rises (d ∷ ds) o) e c)

-- nothing comes before what comes before it
pub not_both : (d e : Difference) → ComesBefore d e → ComesBefore e d → ⊥
not_both d e b c = earlier_strict d (earlier_follows d e d (earlier_of d e b) (earlier_of e d c))

-- ---- as many

-- a value that comes after a member of the other list doesn't head that list
not_head : (x y u : Difference) (ys : List Difference) → Rises is_earlier (y ∷ ys) → IsTrue (is_earlier x u) → Contains (y ∷ ys) x → y ≡ u → ⊥
not_head x y u ys r l c e =
    elim (Contains-cons_cases y ys x c) [
      | inl f ↦ earlier_strict x (subst (λ z. IsTrue (is_earlier x z)) (sym e ∙ f) l)
      | inr more ↦ earlier_strict y (earlier_follows y x y (below_rest is_earlier earlier_strict earlier_follows y ys r x more)
          (subst (λ z. IsTrue (is_earlier x z)) (sym e) l))
    ]

-- of two lists in order the one within the other is not longer
pub not_longer : (xs ys : List Difference) → Rises is_earlier xs → Rises is_earlier ys → ((u : Difference) → Contains xs u → Contains ys u)
    → length xs ≤ length ys
not_longer [] ys rx ry within = omega arith
not_longer (x ∷ xs) [] rx ry within = absurd (Contains-none x (within x (Contains-head x xs)))
not_longer (x ∷ xs) (y ∷ ys) rx ry within =
    let rest : (u : Difference) → Contains xs u → Contains ys u =
    λ u c. elim (Contains-cons_cases y ys u (within u (Contains-tail x xs u c))) [
      | inl e ↦ absurd (not_head x y u ys ry (below_rest is_earlier earlier_strict earlier_follows x xs rx u c) (within x (Contains-head x xs)) e)
      | inr more ↦ more
    ] in
    let l = not_longer xs ys (Rises-tail is_earlier x xs rx) (Rises-tail is_earlier y ys ry) rest in
    omega arith
