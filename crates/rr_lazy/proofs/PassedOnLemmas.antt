-- A part whose answer is passed on as it is.
use Rattle.std.proofs.Common.{◌≡◌, ℕ, zero, suc, List, [], ◌∷◌, length, get_or, All, Option, Some, None, Result, Ok, Err, ℤ, refl, sym, subst, ◌∙◌, arith}
use Rattle.std.specs.Prelude.{IsTrue, false, is_some, nat_lt, slice_set}
use Rattle.std.proofs.Math.Bool.{or-false}
use Rattle.rr_model.proofs.RisingSetLemmas.{set_same}
use Rattle.rr_model.specs.declared.refusal.NoMemory.{NoMemory}
use Rattle.rr_model.specs.Sets.Tree.{Tree, many, nothing, part, stands_at}
use Rattle.rr_lazy.specs.Ahead.{IsAheadIn}
use Rattle.rr_lazy.specs.Many.{forest_of}
use Rattle.rr_lazy.specs.Next.{IsNextIn, with_set}
use Rattle.rr_lazy.specs.PassedOn.{IsAfter}
use Rattle.rr_lazy.specs.declared.occupied_day.OccupiedDay.{OccupiedDay}
use Rattle.rr_lazy.proofs.AheadLemmas.{filled, side_none_in, taken}

-- what is answered for a tree is answered for one that has the same seconds
pub next_same : (sets : List (List ℕ)) (t u : Tree) (from to q : ℤ) (result : Result (Option OccupiedDay) NoMemory)
    → ((d : ℤ) (s : ℕ) → stands_at u d s ≡ stands_at t d s) → IsNextIn sets t from to result q → IsNextIn sets u from to result q
next_same sets t u from to q (Ok (Some f)) same n =
    let g = n.1.0 in (
      n.0,
      (
        record {
          late = g.late;
          before = λ d s a b. same d s ∙ g.before d s a b;
          some = g.some;
          all = set_same nat_lt (λ s. IsTrue (stands_at t f.day s)) (λ s. IsTrue (stands_at u f.day s)) ((with_set sets f).times) g.all
              (λ s. ((λ h. same f.day s ∙ h), (λ h. sym (same f.day s) ∙ h)));
        },
        n.1.1,
        n.1.2,
      ),
    )
next_same sets t u from to q (Ok None) same n = ((λ d s a b. same d s ∙ n.0 d s a b), n.1, n.2, n.3)
next_same sets t u from to q (Err e) same n = n

-- The answer of a part of which no day is known is that of what has the same seconds on each day.
pub passed_on : (sets new : List (List ℕ)) (t u : Tree) (own own' from to q : ℤ) (found : Option OccupiedDay)
    → ((d : ℤ) (s : ℕ) → stands_at u d s ≡ stands_at t d s) → IsAheadIn sets t own from None → IsNextIn new t own to (Ok found) own'
    → IsAfter found from to q → IsAheadIn new t own' q None × IsNextIn new u from to (Ok found) q
passed_on sets new t u own own' from to q (Some f) same k n e =
    let known = (filled sets new t own own' from to None (Some f) refl n k).known in
    let g = known.some (with_set new f) refl in (
      record { within = λ x h. absurd (cc); known = rw e (taken t own' from (with_set new f) known) },
      next_same new t u from to q (Ok (Some f)) same
          (n.0, (record { late = g.late; before = g.before; some = g.some; all = g.seconds }, n.1.1, e)),
    )
passed_on sets new t u own own' from to q None same k n e =
    let known = filled sets new t own own' from to None None refl n k in
    let later = side_none_in new t own' from to q None known e.0 e.2 (λ x h. absurd (cc)) (λ h. n.2) in
    (later.0, next_same new t u from to q (Ok None) same (later.1, e.0, e.1, e.2))

-- ---- one part alone

pub only : {X : Type 0} (xs : List X) (x : X) → length xs ≡ 1 → xs ≡ get_or xs 0 x ∷ []
only [] x e = absurd (omega (arith, e))
only (y ∷ []) x e = refl
only (y ∷ z ∷ ys) x e = absurd (omega (arith, e))

-- what stands in one tree alone is what stands in it
pub of_one : (t : Tree) (d : ℤ) (s : ℕ) → stands_at (many (part t nothing)) d s ≡ stands_at t d s
of_one t d s = or-false (stands_at t d s)

-- what holds of each holds of it
pub of_only : {X : Type 0} (P : X → Type 0) (xs : List X) (x y : X) → xs ≡ x ∷ [] → y ≡ x → All P xs → P y
of_only P xs x y e same all = subst P (sym same) (subst (All P) e all 0 x (omega arith))

pub all_one : {X : Type 0} (P : X → Type 0) (y : X) → P y → All P (y ∷ [])
all_one P y p zero d l = p
all_one P y p (suc k) d l = absurd (omega arith)

-- it was replaced
pub all_set_one : {X : Type 0} (P : X → Type 0) (xs : List X) (x y : X) → xs ≡ x ∷ [] → P y → All P (slice_set xs 0 y)
all_set_one P xs x y e p = rw e (all_one P y p)

pub forest_one : {X : Type 0} (tree : X → Tree) (xs : List X) (x y : X) → xs ≡ x ∷ [] → y ≡ x → forest_of tree xs ≡ part (tree y) nothing
forest_one tree xs x y e same = rw (e, same) refl

pub none_is : {X : Type 0} (o : Option X) → is_some o ≡ false → o ≡ None
none_is None e = refl
none_is (Some x) e = absurd (cc)
