-- Several parts, and what each gave.
use Rattle.std.proofs.Common.{◌≡◌, ◌≢◌, ◌⊎◌, ◌↔◌, ◌||◌, ℕ, zero, suc, ◌+◌, ◌<◌, Bool, true, false, List, [], ◌∷◌, ◌++◌, length, get_or, All, Contains}
use Rattle.std.proofs.Common.{Option, Some, None, Ok, ℤ, pos, ◌+ℤ◌, ◌≤ℤ◌, ◌<ℤ◌, refl, sym, ap, subst, ◌∙◌, inl, inr, arith}
use Rattle.std.specs.Prelude.{IsTrue, nat_lt, slice_set, if◌then◌else◌}
use Rattle.std.specs.Option.{ForSome, ForNone}
use Rattle.std.proofs.lemmas.Int.{ints}
use Rattle.std.proofs.lemmas.Bool.{cases_lt, false≢true}
use Rattle.std.proofs.lemmas.List.{get_or_default}
use Rattle.rr_model.specs.Rising.{Rises}
use Rattle.rr_model.specs.Rising.Sets.{IsSetOf}
use Rattle.rr_model.proofs.RisingSetLemmas.{set_same, Contains-none}
use Rattle.rr_lazy.specs.DayTimes.{DayTimes}
use Rattle.rr_model.specs.Sets.Tree.{Tree, part, many, IsOfOneKind, stands_at, some_stands_at}
use Rattle.rr_shapes.specs.Tables.{Extends}
use Rattle.rr_lazy.specs.declared.occupied_day.OccupiedDay.{OccupiedDay}
use Rattle.rr_lazy.specs.Next.{HasNone, IsFirstOccupied, IsNextIn, IsInTable, with_set}
use Rattle.rr_lazy.specs.Tables.{same_day, same_seen}
use Rattle.rr_lazy.specs.Ahead.{HasOn, GaveDay, IsAhead, IsAheadIn, IsGivenByBoth, IsGivenOn, IsLeftAfterDay, day_seen}
use Rattle.rr_lazy.specs.Many.{forest_of, with_part, GaveDaySome, HasOnSome, IsGivenBySome, IsLeftBy}
use Rattle.rr_lazy.proofs.AheadLemmas.{given_on, has_some, none_below, on_day, seen_none, side_given, side_none}

-- ---- one part is written

pub forest_set : {X : Type 0} (tree : X → Tree) (xs : List X) (i : ℕ) (y : X) → i < length xs → ((d : X) → tree y ≡ tree (get_or xs i d))
    → forest_of tree (slice_set xs i y) ≡ forest_of tree xs
forest_set tree [] i y l e = absurd (omega arith)
forest_set tree (x ∷ xs) zero y l e = ap (λ t. part t (forest_of tree xs)) (e x)
forest_set tree (x ∷ xs) (suc i) y l e = ap (part (tree x)) (forest_set tree xs i y (omega arith) e)

pub all_set : {X : Type 0} (P : X → Type 0) (xs : List X) (i : ℕ) (y : X) → All P xs → P y → All P (slice_set xs i y)
all_set P [] i y all p k d l = absurd (omega arith)
all_set P (x ∷ xs) zero y all p zero d l = p
all_set P (x ∷ xs) zero y all p (suc k) d l = all (suc k) d l
all_set P (x ∷ xs) (suc i) y all p zero d l = all 0 d (omega arith)
all_set P (x ∷ xs) (suc i) y all p (suc k) d l = all_set P xs i y (λ k d l. all (suc k) d (omega arith)) p k d (omega arith)

pub first_set : {X : Type 0} (P : X → Type 0) (xs : List X) (i : ℕ) (y : X) → ((k : ℕ) (d : X) → k < i → k < length xs → P (get_or xs k d)) → P y
    → (k : ℕ) (d : X) → k < i + 1 → k < length (slice_set xs i y) → P (get_or (slice_set xs i y) k d)
first_set P [] i y all p k d m l = absurd (omega arith)
first_set P (x ∷ xs) zero y all p zero d m l = p
first_set P (x ∷ xs) zero y all p (suc k) d m l = absurd (omega arith)
first_set P (x ∷ xs) (suc i) y all p zero d m l = all 0 d (omega arith) (omega arith)
first_set P (x ∷ xs) (suc i) y all p (suc k) d m l = first_set P xs i y (λ k d m l. all (suc k) d (omega arith) (omega arith)) p k d (omega arith) (omega arith)

pub other_set : {X : Type 0} (xs : List X) (i k : ℕ) (y d : X) → k ≢ i → get_or (slice_set xs i y) k d ≡ get_or xs k d
other_set [] i k y d n = refl
other_set (x ∷ xs) zero zero y d n = absurd (n refl)
other_set (x ∷ xs) zero (suc k) y d n = refl
other_set (x ∷ xs) (suc i) zero y d n = refl
other_set (x ∷ xs) (suc i) (suc k) y d n = other_set xs i k y d (λ e. n (ap suc e))

pub same_set : {X : Type 0} (xs : List X) (i : ℕ) (y d : X) → i < length xs → get_or (slice_set xs i y) i d ≡ y
same_set [] i y d l = absurd (omega arith)
same_set (x ∷ xs) zero y d l = refl
same_set (x ∷ xs) (suc i) y d l = same_set xs i y d (omega arith)

pub length_set : {X : Type 0} (xs : List X) (i : ℕ) (y : X) → length (slice_set xs i y) ≡ length xs
length_set [] i y = refl
length_set (x ∷ xs) zero y = refl
length_set (x ∷ xs) (suc i) y = ap suc (length_set xs i y)

-- ---- what stands in one of several trees

pub some_false : {X : Type 0} (tree : X → Tree) (xs : List X) (d : ℤ) (s : ℕ) → All (λ x. stands_at (tree x) d s ≡ false) xs
    → some_stands_at (forest_of tree xs) d s ≡ false
some_false tree [] d s all = refl
some_false tree (x ∷ xs) d s all = rw (all 0 x (omega arith), some_false tree xs d s (λ k e l. all (suc k) e (omega arith))) refl

pub some_true : {X : Type 0} (tree : X → Tree) (xs : List X) (d : ℤ) (s k : ℕ) → k < length xs → ((e : X) → stands_at (tree (get_or xs k e)) d s ≡ true)
    → some_stands_at (forest_of tree xs) d s ≡ true
some_true tree [] d s k l t = absurd (omega arith)
some_true tree (x ∷ xs) d s zero l t = rw (t x) refl
some_true tree (x ∷ xs) d s (suc k) l t =
    rw (some_true tree xs d s k (omega arith) t) (elim (stands_at (tree x) d s) as (λ b. (b || true) ≡ true) [ true ↦ refl | false ↦ refl ])

pub some_which : {X : Type 0} (tree : X → Tree) (xs : List X) (d : ℤ) (s : ℕ) → some_stands_at (forest_of tree xs) d s ≡ true
    → (k : ℕ) × (k < length xs) × ((e : X) → stands_at (tree (get_or xs k e)) d s ≡ true)
some_which tree [] d s h = absurd (false≢true h)
some_which tree (x ∷ xs) d s h =
    elim (stands_at (tree x) d s) as (λ b. stands_at (tree x) d s ≡ b → (b || some_stands_at (forest_of tree xs) d s) ≡ true
    → (k : ℕ) × (k < length (x ∷ xs)) × ((e : _) → stands_at (tree (get_or (x ∷ xs) k e)) d s ≡ true)) [
      | true ↦ λ e u. (0, omega arith, λ f. e)
      | false ↦ λ e u. (let r = some_which tree xs d s u in (suc r.0, omega (arith, r.1), r.2))
    ] refl h

-- ---- a call

module _ {X : Type 0} (tree : X → Tree) (own : X → ℤ) (ahead : X
    → Option DayTimes) (xs : List X) (from : ℤ) (known : All (λ x. IsAhead (tree x) (own x) from (ahead x)) xs) where
  pub many_none : (q : ℤ) → All (λ x. ForSome (ahead x) (λ f. q ≤ℤ f.day)) xs → All (λ x. ForNone (ahead x) (q ≤ℤ own x)) xs
      → HasNone (many (forest_of tree xs)) from q
  many_none q some none d s l h =
      some_false tree xs d s
      (λ k e m. none_below (tree (get_or xs k e)) (own (get_or xs k e)) from q (ahead (get_or xs k e)) (known k e m) (some k e m) (none k e m) d s l h)

  module _ (d : ℤ) (gave : GaveDaySome ahead xs d) (some : All (λ x. ForSome (ahead x) (λ f. d ≤ℤ f.day)) xs)
      (none : All (λ x. ForNone (ahead x) (d <ℤ own x)) xs) (e : X) where
    pub many_late : from ≤ℤ d
    many_late = late_of (ahead (get_or xs gave.0 e)) (known gave.0 e gave.1) (gave.2 e)
      where
        late_of : (a : Option DayTimes) → IsAhead (tree (get_or xs gave.0 e)) (own (get_or xs gave.0 e)) from a → GaveDay a d → from ≤ℤ d
        late_of None k g = absurd g
        late_of (Some f) k g = omega (arith, ints, (k.some f refl).late, g)

    on : (k : ℕ) (x : X) → k < length xs → (s : ℕ) → (stands_at (tree (get_or xs k x)) d s ≡ true) ↔ HasOn (ahead (get_or xs k x)) d s
    on k x l = on_day (tree (get_or xs k x)) (own (get_or xs k x)) from d (ahead (get_or xs k x)) (known k x l) many_late (some k x l) (none k x l)

    pub many_given : (times : List ℕ) → IsSetOf nat_lt times (HasOnSome ahead xs (length xs) d) → IsFirstOccupied (many (forest_of tree xs)) from d times
    many_given times set = record {
      late = many_late;
      before = many_none d some (λ k x l h. omega (arith, ints, none k x l h));
      some = λ z. (let m =
          has_some (tree (get_or xs gave.0 e)) (own (get_or xs gave.0 e)) from d (ahead (get_or xs gave.0 e)) (known gave.0 e gave.1) (gave.2 e) in
          let t : some_stands_at (forest_of tree xs) d m.0 ≡ true =
          some_true tree xs d m.0 gave.0 gave.1 (λ x. same_index gave.0 gave.1 x m.0 ((on gave.0 e gave.1 m.0).1 m.1)) in
          Contains-none m.0 (subst (λ x. Contains x m.0) z ((set.exact m.0).1 (has m.0 t))));
      all = set_same nat_lt (HasOnSome ahead xs (length xs) d) (λ s. IsTrue (stands_at (many (forest_of tree xs)) d s)) times set (λ s. (
        λ h. some_true tree xs d s h.0 h.2 (λ x. (on h.0 x h.2 s).1 (h.3 x)),
        λ t. has s t,
      ));
    }
      where
        same_index : (k : ℕ) → k < length xs → (x : X) (s : ℕ) → stands_at (tree (get_or xs k e)) d s ≡ true → stands_at (tree (get_or xs k x)) d s ≡ true
        same_index k l x s t = subst (λ y. stands_at (tree y) d s ≡ true) (get_or_default xs k e x l) t

        has : (s : ℕ) → some_stands_at (forest_of tree xs) d s ≡ true → HasOnSome ahead xs (length xs) d s
        has s t = (let w = some_which tree xs d s t in (w.0, w.1, w.1, λ x. (on w.0 x w.1 s).0 (w.2 x)))

-- ---- the seconds of the first parts

module _ {X : Type 0} (ahead : X → Option DayTimes) (xs : List X) (d : ℤ) where
  pub none_yet_on : (s : ℕ) → HasOnSome ahead xs 0 d s → ⊥
  none_yet_on s h = absurd (omega (arith, h.1))

  pub one_more_on : (index s : ℕ) (x : X) → index < length xs → x ≡ get_or xs index x
      → (HasOnSome ahead xs index d s ⊎ HasOn (ahead x) d s) ↔ HasOnSome ahead xs (index + 1) d s
  one_more_on index s x l e = (
    λ h. elim h [
      | inl y ↦ (y.0, omega (arith, y.1), y.2, y.3)
      | inr y ↦ (index, omega arith, l, λ z. subst (λ w. HasOn (ahead w) d s) (e ∙ get_or_default xs index x z l) y)
    ],
    λ h. which h.0 h.1 h.2 h.3,
  )
    where
      which : (k : ℕ) → k < index + 1 → k < length xs → ((z : X) → HasOn (ahead (get_or xs k z)) d s) → HasOnSome ahead xs index d s ⊎ HasOn (ahead x) d s
      which k m n h = elim (cases_lt k index) [
        | inl p ↦ inl (k, p, n, h)
        | inr p ↦ (let q : index ≡ k = omega arith in
            inr (subst (λ w. HasOn (ahead w) d s) (sym e) (subst (λ j. HasOn (ahead (get_or xs j x)) d s) (sym q) (h x))))
      ]

-- a day that is given in a table is given in one that goes on
pub given_more : (old new : List (List ℕ)) (f : OccupiedDay) → Extends old new → IsGivenOn old f → IsGivenOn new f
given_more old new f more g =
    let same = same_day old new f more g.within in
    record { within = same.0; rises = subst (λ (x : DayTimes). Rises nat_lt x.times) (sym same.1) g.rises }

-- what was given for a day is given
pub given_is : (old new : List (List ℕ)) (a b : Option OccupiedDay) (d : ℤ) (found : Option OccupiedDay) → IsGivenByBoth old a b d new found
    → ForSome found (IsGivenOn new)
given_is old new a b d None g f e = absurd (cc)
given_is old new a b d (Some found) g f e = (let i : f ≡ found = cc in rw i g.1)

-- the seconds of one more part join those that were given
module _ {X : Type 0} (start old new : List (List ℕ)) (ahead : X → Option OccupiedDay) (xs : List X) (d : ℤ) (index : ℕ) (x : X) (l : index < length xs)
    (e : x ≡ get_or xs index x) (more : Extends start old) (within : ForSome (ahead x) (IsInTable start)) where
  none_more : IsGivenBySome start ahead xs index d old None → (GaveDay (day_seen old (ahead x)) d → ⊥) → IsGivenBySome start ahead xs (index + 1) d new None
  none_more by not k m n z g = elim (cases_lt k index) [
    | inl p ↦ by k p n z g
    | inr p ↦ (let q : index ≡ k = omega arith in
        let here : GaveDay (day_seen start (ahead x)) d =
        subst (λ y. GaveDay (day_seen start (ahead y)) d) (sym (e ∙ get_or_default xs index x z l)) (subst (λ j. GaveDay (day_seen start (ahead (get_or xs j z))) d) (sym q) g) in
        not (subst (λ y. GaveDay y d) (sym (same_seen start old (ahead x) more within).1) here))
  ]

  pub more_given : (given found : Option OccupiedDay) → IsGivenBySome start ahead xs index d old given → IsGivenByBoth old given (ahead x) d new found
      → IsGivenBySome start ahead xs (index + 1) d new found
  more_given None None by both = none_more by both.1
  more_given (Some f) None by both = absurd (both.0 by.0)
  more_given None (Some g) by both = (
    both.0,
    both.1,
    set_same nat_lt (λ s. HasOn (day_seen old None) d s ⊎ HasOn (day_seen old (ahead x)) d s) (HasOnSome (λ p. day_seen start (ahead p)) xs (index + 1) d)
        ((with_set new g).times) both.3 (λ s. (
        let one = one_more_on (λ p. day_seen start (ahead p)) xs d index s x l e in
        let same = (same_seen start old (ahead x) more within).1 in (
          λ h. elim h [ inl y ↦ absurd y | inr y ↦ one.0 (inr (subst (λ w. HasOn w d s) same y)) ],
          λ h. elim (one.1 h) [
            | inl y ↦ absurd (gave_of s y)
            | inr y ↦ inr (subst (λ w. HasOn w d s) (sym same) y)
          ],
        ))),
  )
    where
      gave_of : (s : ℕ) → HasOnSome (λ p. day_seen start (ahead p)) xs index d s → ⊥
      gave_of s h = by h.0 h.1 h.2 x (day_of (day_seen start (ahead (get_or xs h.0 x))) (h.3 x))
        where
          day_of : (a : Option DayTimes) → HasOn a d s → GaveDay a d
          day_of None m = m
          day_of (Some f) m = m.0
  more_given (Some f) (Some g) by both = (
    both.0,
    both.1,
    set_same nat_lt (λ s. HasOn (day_seen old (Some f)) d s ⊎ HasOn (day_seen old (ahead x)) d s) (HasOnSome (λ p. day_seen start (ahead p)) xs (index + 1) d)
        ((with_set new g).times) both.3 (λ s. (
        let one = one_more_on (λ p. day_seen start (ahead p)) xs d index s x l e in
        let same = (same_seen start old (ahead x) more within).1 in (
          λ h. elim h [ inl y ↦ one.0 (inl ((by.2.exact s).0 y.1)) | inr y ↦ one.0 (inr (subst (λ w. HasOn w d s) same y)) ],
          λ h. elim (one.1 h) [
            | inl y ↦ inl (by.0, (by.2.exact s).1 y)
            | inr y ↦ inr (subst (λ w. HasOn w d s) (sym same) y)
          ],
        ))),
  )

-- ---- the least day

module _ {X : Type 0} (ahead : X → Option DayTimes) (xs : List X) (index : ℕ) (first next : ℤ) where
  pub least_more : (x : X) → index < length xs → x ≡ get_or xs index x
      → ((k : ℕ) (d : X) → k < index → k < length xs → ForSome (ahead (get_or xs k d)) (λ f. first ≤ℤ f.day)) → next ≤ℤ first
      → ForSome (ahead x) (λ f. next ≤ℤ f.day)
      → (k : ℕ) (d : X) → k < index + 1 → k < length xs → ForSome (ahead (get_or xs k d)) (λ f. next ≤ℤ f.day)
  least_more x l e all bound here k d m n = elim (cases_lt k index) [
    | inl p ↦ (λ f h. omega (arith, ints, all k d p n f h, bound))
    | inr p ↦ (let q : index ≡ k = omega arith in
        subst (λ j. ForSome (ahead (get_or xs j d)) (λ f. next ≤ℤ f.day)) q
        (subst (λ y. ForSome (ahead y) (λ f. next ≤ℤ f.day)) (e ∙ get_or_default xs index x d l) here))
  ]

  pub gave_more : (from : ℤ) (x : X) → index < length xs → x ≡ get_or xs index x → (first ≡ from) ⊎ GaveDaySome ahead xs first
      → (next ≡ first) ⊎ GaveDay (ahead x) next → (next ≡ from) ⊎ GaveDaySome ahead xs next
  gave_more from x l e (inl a) (inl b) = inl (b ∙ a)
  gave_more from x l e (inr a) (inl b) = inr (subst (λ y. GaveDaySome ahead xs y) (sym b) a)
  gave_more from x l e a (inr b) = inr (index, l, λ d. subst (λ y. GaveDay (ahead y) next) (e ∙ get_or_default xs index x d l) b)

-- what a part gave is the day by every table
module _ (sets : List (List ℕ)) where
  pub some_by : (P : ℤ → Type 0) (a : Option OccupiedDay) → ForSome (day_seen [] a) (λ f. P f.day) → ForSome (day_seen sets a) (λ f. P f.day)
  some_by P None h f e = absurd (cc)
  some_by P (Some o) h f e = (let i : f ≡ with_set sets o = cc in rw i (h (with_set [] o) refl))

  pub gave_by : (a : Option OccupiedDay) (d : ℤ) → GaveDay (day_seen [] a) d → GaveDay (day_seen sets a) d
  gave_by None d g = g
  gave_by (Some o) d g = g

-- ---- the parts after a call

pub forest_same : {X : Type 0} (tree : X → Tree) (xs ys : List X) → length ys ≡ length xs
    → ((k : ℕ) (d : X) → k < length xs → tree (get_or ys k d) ≡ tree (get_or xs k d)) → forest_of tree ys ≡ forest_of tree xs
forest_same tree [] [] e h = refl
forest_same tree [] (y ∷ ys) e h = absurd (omega (arith, e))
forest_same tree (x ∷ xs) [] e h = absurd (omega (arith, e))
forest_same tree (x ∷ xs) (y ∷ ys) e h =
    ap (λ t. part t (forest_of tree ys)) (h 0 x (omega arith))
    ∙ ap (part (tree x)) (forest_same tree xs ys (omega (arith, e)) (λ k d l. h (suc k) d (omega arith)))

pub all_none : {X : Type 0} (tree : X → Tree) (own : X → ℤ) (ahead : X → Option DayTimes) (xs : List X) (from to q : ℤ)
    → All (λ x. IsAhead (tree x) (own x) from (ahead x)) xs → from ≤ℤ q → (q ≡ to +ℤ pos 1) ⊎ (q ≡ from)
    → All (λ x. ForSome (ahead x) (λ f. to <ℤ f.day)) xs → All (λ x. ForNone (ahead x) (to <ℤ own x)) xs
    → All (λ x. IsAhead (tree x) (own x) q (ahead x)) xs × HasNone (many (forest_of tree xs)) from q
all_none tree own ahead xs from to q known l one some none = (
  (λ k d m. (side_none (tree (get_or xs k d)) (own (get_or xs k d)) from to q (ahead (get_or xs k d)) (known k d m) l one (some k d m) (none k d m)).0),
  (λ d s a b. some_false tree xs d s
      (λ k e m. (side_none (tree (get_or xs k e)) (own (get_or xs k e)) from to q (ahead (get_or xs k e)) (known k e m) l one (some k e m)
      (none k e m)).1 d s a b)),
)

module _ {X L : Type 0} (tree : L → Tree) (own : L → ℤ) (lazy : X → L) (ahead : X → Option DayTimes) (old new : List X) (from d q : ℤ) where
  pub all_left : All (λ x. IsAhead (tree (lazy x)) (own (lazy x)) from (ahead x)) old → from ≤ℤ d → All (λ x. ForSome (ahead x) (λ f. d ≤ℤ f.day)) old
      → All (λ x. ForNone (ahead x) (d <ℤ own (lazy x))) old
      → IsLeftBy ahead lazy old d (length old) new → q ≡ d +ℤ pos 1 → All (λ x. IsAhead (tree (lazy x)) (own (lazy x)) q (ahead x)) new
  all_left known l some none left e k z m =
      let n : k < length old = omega (arith, left.many, m) in
      subst (λ y. IsAhead (tree y) (own y) q (ahead (get_or new k z))) (sym (left.lazies k z n))
      (side_given (tree (lazy (get_or old k z))) (own (lazy (get_or old k z))) from d q (ahead (get_or old k z)) (ahead (get_or new k z)) (known k z n) l
      (some k z n) (none k z n) (left.left k z n n) e)

  pub forest_left : IsLeftBy ahead lazy old d (length old) new → forest_of (λ x. tree (lazy x)) new ≡ forest_of (λ x. tree (lazy x)) old
  forest_left left = forest_same (λ x. tree (lazy x)) old new left.many (λ k z m. ap tree (left.lazies k z m))

-- ---- the same by a table

module _ {X L : Type 0} (knows : L → Type 0) (tree : L → Tree) (own : L → ℤ) (lazy : X → L) (ahead : X → Option OccupiedDay) (sets : List (List ℕ))
    (xs : List X) (from : ℤ) (known : All (λ x. knows (lazy x) × IsAheadIn sets (tree (lazy x)) (own (lazy x)) from (ahead x)) xs) where
  pub all_seen : All (λ x. IsAhead (tree (lazy x)) (own (lazy x)) from (day_seen sets (ahead x))) xs
  all_seen k z l = (known k z l).1.known

  pub all_given : All (λ x. ForSome (ahead x) (IsGivenOn sets)) xs
  all_given k z l = given_on sets (tree (lazy (get_or xs k z))) (own (lazy (get_or xs k z))) from (ahead (get_or xs k z)) (known k z l).1

  pub known_on : (q : ℤ) → All (λ x. IsAhead (tree (lazy x)) (own (lazy x)) q (day_seen sets (ahead x))) xs
      → All (λ x. knows (lazy x) × IsAheadIn sets (tree (lazy x)) (own (lazy x)) q (ahead x)) xs
  known_on q later k z l = ((known k z l).0, record { within = (known k z l).1.within; known = later k z l })

  pub known_left : (new : List X) (d q : ℤ) → from ≤ℤ d → All (λ x. ForSome (day_seen sets (ahead x)) (λ f. d ≤ℤ f.day)) xs
      → All (λ x. ForNone (day_seen sets (ahead x)) (d <ℤ own (lazy x))) xs → IsLeftBy (λ x. day_seen sets (ahead x)) lazy xs d (length xs) new
      → All (λ x. ForSome (ahead x) (IsInTable sets)) new → q ≡ d +ℤ pos 1
      → All (λ x. knows (lazy x) × IsAheadIn sets (tree (lazy x)) (own (lazy x)) q (ahead x)) new
  known_left new d q l some none left within e k z m =
      let n : k < length xs = omega (arith, left.many, m) in (
        subst knows (sym (left.lazies k z n)) (known k z n).0,
        record {
          within = within k z m;
          known = all_left tree own lazy (λ x. day_seen sets (ahead x)) xs new from d q all_seen l some none left e k z m;
        },
      )

-- what parts gave, by any table
module _ {X : Type 0} (sets : List (List ℕ)) (own : X → ℤ) (ahead : X → Option OccupiedDay) (xs : List X) where
  pub all_none_by : (to : ℤ) → All (λ x. ForNone (ahead x) (to <ℤ own x)) xs → All (λ x. ForNone (day_seen sets (ahead x)) (to <ℤ own x)) xs
  all_none_by to none k z l = seen_none sets (ahead (get_or xs k z)) (to <ℤ own (get_or xs k z)) (none k z l)

  pub all_some_by : (d : ℤ) → All (λ x. ForSome (day_seen [] (ahead x)) (λ f. d ≤ℤ f.day)) xs → All (λ x. ForSome (day_seen sets (ahead x)) (λ f. d ≤ℤ f.day)) xs
  all_some_by d some k z l = some_by sets (λ e. d ≤ℤ e) (ahead (get_or xs k z)) (some k z l)

  pub gave_some_by : (d : ℤ) → GaveDaySome (λ x. day_seen [] (ahead x)) xs d → GaveDaySome (λ x. day_seen sets (ahead x)) xs d
  gave_some_by d gave = (gave.0, gave.1, λ z. gave_by sets (ahead (get_or xs gave.0 z)) d (gave.2 z))

-- what parts gave for their first day answers a call
pub next_given : {X : Type 0} (tree : Tree) (position to day next : ℤ) (sets new : List (List ℕ)) (ahead : X → Option OccupiedDay) (xs : List X)
    (found : Option OccupiedDay) → IsGivenBySome sets ahead xs (length xs) day new found → GaveDaySome (λ x. day_seen sets (ahead x)) xs day → X
    → ((times : List ℕ) → IsSetOf nat_lt times (HasOnSome (λ x. day_seen sets (ahead x)) xs (length xs) day) → IsFirstOccupied tree position day times)
    → day ≤ℤ to → next ≡ day +ℤ pos 1 → IsNextIn new tree position to (Ok found) next
next_given tree position to day next sets new ahead xs None given gave x first within e = absurd (given gave.0 gave.1 gave.1 x (gave.2 x))
next_given tree position to day next sets new ahead xs (Some found) given gave x first within e = (
  given.1.within,
  rw given.0 (first ((with_set new found).times) given.2, within, e),
)

-- one more part has forgotten the day
module _ {X L : Type 0} (ahead : X → Option DayTimes) (lazy : X → L) (old mid : List X) (d : ℤ) (index : ℕ) (y : X) (l : index < length mid)
    (left : IsLeftBy ahead lazy old d index mid) (same : (z : X) → lazy y ≡ lazy (get_or mid index z))
    (here : (z : X) → IsLeftAfterDay (ahead (get_or mid index z)) d (ahead y)) where
  lazies_more : (k : ℕ) (z : X) → k < length old → lazy (get_or (slice_set mid index y) k z) ≡ lazy (get_or old k z)
  lazies_more k z m = elim (cases_lt k index) [
    | inl p ↦ rw (other_set mid index k y z (λ e. absurd (omega (arith, e, p)))) (left.lazies k z m)
    | inr p ↦
        elim (cases_lt index k) [
          | inl q ↦ rw (other_set mid index k y z (λ e. absurd (omega (arith, e, q)))) (left.lazies k z m)
          | inr q ↦ (let e : index ≡ k = omega (arith, p, q) in
              subst (λ j. lazy (get_or (slice_set mid index y) j z) ≡ lazy (get_or old j z)) e
              (rw (same_set mid index y z l) (same z ∙ left.lazies index z (omega (arith, left.many, l)))))
        ]
  ]

  left_on : (k : ℕ) (z : X) → k < index + 1 → k < length old → IsLeftAfterDay (ahead (get_or old k z)) d (ahead (get_or (slice_set mid index y) k z))
  left_on k z n m = elim (cases_lt k index) [
    | inl p ↦ rw (other_set mid index k y z (λ e. absurd (omega (arith, e, p)))) (left.left k z p m)
    | inr p ↦ (let e : index ≡ k = omega (arith, p, n) in
        subst (λ j. IsLeftAfterDay (ahead (get_or old j z)) d (ahead (get_or (slice_set mid index y) j z))) e
        (rw (same_set mid index y z l, sym (left.rest index z (omega arith) (omega (arith, left.many, l)))) (here z)))
  ]

  pub left_more : IsLeftBy ahead lazy old d (index + 1) (slice_set mid index y)
  left_more = record {
    many = length_set mid index y ∙ left.many;
    lazies = lazies_more;
    left = left_on;
    rest = λ k z n m. rw (other_set mid index k y z (λ e. absurd (omega (arith, e, n)))) (left.rest k z (omega (arith, n)) m);
  }

-- the day that was given is not the bound
pub gave_it : {X : Type 0} (ahead : X → Option DayTimes) (xs : List X) (day to : ℤ) → day ≤ℤ to → (day ≡ to +ℤ pos 1) ⊎ GaveDaySome ahead xs day
    → GaveDaySome ahead xs day
gave_it ahead xs day to l (inl e) = absurd (omega (arith, ints, l, e))
gave_it ahead xs day to l (inr g) = g

-- a list with an index has an element
pub part_exists : {X : Type 0} (xs : List X) (k : ℕ) → k < length xs → X
part_exists [] k l = absurd (omega arith)
part_exists (x ∷ xs) k l = x

-- ---- one more part

pub forest_push : {X : Type 0} (tree : X → Tree) (xs : List X) (y : X) → forest_of tree (xs ++ y ∷ []) ≡ with_part (forest_of tree xs) (tree y)
forest_push tree [] y = refl
forest_push tree (x ∷ xs) y = ap (part (tree x)) (forest_push tree xs y)

pub all_push : {X : Type 0} (P : X → Type 0) (xs : List X) (y : X) → All P xs → P y → All P (xs ++ y ∷ [])
all_push P [] y all p zero d l = p
all_push P [] y all p (suc k) d l = absurd (omega arith)
all_push P (x ∷ xs) y all p zero d l = all 0 d (omega arith)
all_push P (x ∷ xs) y all p (suc k) d l = all_push P xs y (λ k d l. all (suc k) d (omega arith)) p k d (omega arith)

pub no_parts : {X : Type 0} (tree : X → Tree) (xs : List X) → xs ≡ [] → IsOfOneKind (many (forest_of tree xs))
no_parts tree xs e = rw e tt

pub all_of_none : {X : Type 0} (P : X → Type 0) (xs : List X) → xs ≡ [] → All P xs
all_of_none P xs e = rw e (λ k d l. absurd (omega arith))

-- what holds of both lists holds of the one that it is
pub of_either : {X : Type 0} (P : List X → Type 0) (b : Bool) (xs ys new : List X) → new ≡ (if b then xs else ys) → P xs → P ys → P new
of_either P true xs ys new e p q = subst P (sym e) p
of_either P false xs ys new e p q = subst P (sym e) q
