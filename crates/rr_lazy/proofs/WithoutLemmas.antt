-- A part without dates, and the day that it gave and of which it is not known yet what is left.
use Rattle.std.proofs.Common.{◌≡◌, ◌≢◌, ◌↔◌, ◌⊎◌, inl, inr, ℕ, ◌<◌, Bool, true, false, List, [], ◌∷◌, Contains, Option, Some, None, ℤ, pos, ◌+ℤ◌, ◌-ℤ◌, ◌≤ℤ◌}
use Rattle.std.proofs.Common.{◌<ℤ◌, nat_abs}
use Rattle.std.proofs.Common.{refl, sym, subst, ◌∙◌, arith}
use Rattle.std.specs.Prelude.{IsTrue, Result, Ok, Err, IsErr, is_some, not, nat_lt}
use Rattle.std.specs.Option.{ForSome, ForNone}
use Rattle.std.proofs.lemmas.Int.{ints, by_lt_z}
use Rattle.std.proofs.lemmas.Bool.{false≢true, and_parts}
use Rattle.rr_model.specs.Rising.Sets.{IsSetOf}
use Rattle.rr_model.specs.Sets.Tree.{Tree, without, is_among, stands_at}
use Rattle.rr_model.specs.declared.kind.Kind.{Kind}
use Rattle.rr_model.specs.declared.refusal.NoMemory.{NoMemory}
use Rattle.rr_model.proofs.RisingSetLemmas.{Contains-head, Contains-none}
use Rattle.rr_lazy.specs.declared.occupied_day.OccupiedDay.{OccupiedDay}
use Rattle.rr_lazy.specs.Next.{HasNone, IsFirstOccupied, IsNextIn, with_set}
use Rattle.rr_lazy.specs.Ahead.{IsGiven, IsAheadIn, IsGivenOn, day_seen}
use Rattle.rr_lazy.specs.Stretch.{IsLeftOf, IsNextLeft, KnowsPart}
use Rattle.rr_lazy.proofs.AheadLemmas.{advance, seen_none}

-- the first day of which something may be left
abbrev pub next_day : Option OccupiedDay → ℤ → ℤ
next_day None own = own
next_day (Some f) own = f.day

-- ---- what is seen of a part

pub seen_some : (sets : List (List ℕ)) (ahead : Option OccupiedDay) (q : ℤ) → ForSome ahead (λ f. q ≤ℤ f.day) → ForSome (day_seen sets ahead) (λ f. q ≤ℤ f.day)
seen_some sets None q some f e = absurd (cc)
seen_some sets (Some g) q some f e = (let i : f ≡ with_set sets g = cc in rw i (some g refl))

-- if nothing is left of some seconds, each was taken out
pub all_taken : (times left : List ℕ) (out : ℕ → Bool) → ((s : ℕ) → Contains left s ↔ (Contains times s × (out s ≡ false))) → left ≡ [] → (s : ℕ)
    → Contains times s → out s ≡ true
all_taken times left out is e s c = elim (out s) as (λ b. out s ≡ b → b ≡ true) [
  | true ↦ λ x. refl
  | false ↦ λ x. absurd (Contains-none s (subst (λ y. Contains y s) e ((is s).1 (c, x))))
] refl

pub nothing_ahead : (tree : Tree) (sets : List (List ℕ)) (own from : ℤ) → from ≤ℤ own → HasNone tree from own → IsAheadIn sets tree own from None
nothing_ahead tree sets own from l none = record { within = λ f e. absurd (cc); known = record { some = λ f e. absurd (cc); none = λ e. (l, none) } }

-- a day that is given is not before what is ahead
pub given_later : (tree : Tree) (sets : List (List ℕ)) (own from : ℤ) (ahead : Option OccupiedDay) → IsAheadIn sets tree own from ahead → (own' day : ℤ)
    (times : List ℕ) → IsGiven tree own' from day times → next_day ahead own ≤ℤ day
given_later tree sets own from ahead k own' day [] given = absurd (given.some refl)
given_later tree sets own from ahead k own' day (s ∷ ss) given = by_lt_z {P = next_day ahead own ≤ℤ day} day (next_day ahead own)
    (λ m. absurd (false≢true (sym (before ahead k day s given.late m) ∙ (given.seconds.exact s).0 (Contains-head s ss)))) (λ g. g)
  where
    before : (x : Option OccupiedDay) → IsAheadIn sets tree own from x → HasNone tree from (next_day x own)
    before None k = (k.known.none refl).1
    before (Some f) k = (k.known.some (with_set sets f) refl).before

module _ (tree : Tree) (kind : Kind) (dates : List ℤ) where
  without_none : (d : ℤ) (s : ℕ) → stands_at tree d s ≡ false → stands_at (without tree kind dates) d s ≡ false
  without_none d s e = rw e refl

  -- what is left of a day
  left_stands : (d : ℤ) (times left : List ℕ) → IsSetOf nat_lt times (λ s. IsTrue (stands_at tree d s))
      → ((s : ℕ) → Contains left s ↔ (Contains times s × (is_among kind dates d s ≡ false))) → (s : ℕ)
      → Contains left s ↔ IsTrue (stands_at (without tree kind dates) d s)
  left_stands d times left set out s = (
    λ c. (let p = (out s).0 c in rw ((set.exact s).0 p.0, p.1) refl),
    λ h. (out s).1 ((set.exact s).1 (and_parts _ _ h).0, not_so (is_among kind dates d s) (and_parts (stands_at tree d s) _ h).1),
  )
    where
      not_so : (b : Bool) → not b ≡ true → b ≡ false
      not_so true e = absurd (false≢true e)
      not_so false e = refl

  -- a day of which nothing is left
  left_none : (d : ℤ) (times : List ℕ) → IsSetOf nat_lt times (λ s. IsTrue (stands_at tree d s))
      → ((s : ℕ) → Contains times s → is_among kind dates d s ≡ true) → (s : ℕ) → stands_at (without tree kind dates) d s ≡ false
  left_none d times set all s = elim (stands_at tree d s) as (λ b. stands_at tree d s ≡ b → stands_at (without tree kind dates) d s ≡ false) [
    | false ↦ λ e. without_none d s e
    | true ↦ λ e. rw (e, all s ((set.exact s).1 e)) refl
  ] refl

  -- ---- what is known from a position on

  -- nothing is left before what is ahead
  pub none_left : (sets : List (List ℕ)) (own position q : ℤ) (ahead : Option OccupiedDay) → KnowsPart sets tree own kind dates position ahead
      → ForSome ahead (λ f. q ≤ℤ f.day) → ForNone ahead (q ≤ℤ own) → HasNone (without tree kind dates) position q
  none_left sets own position q None k some none d s l h =
      by_lt_z {P = stands_at (without tree kind dates) d s ≡ false} d k.from (λ m. k.passed d s l m)
      (λ g. without_none d s ((k.known.known.none refl).1 d s g (omega (arith, ints, h, none refl))))
  none_left sets own position q (Some f) k some none d s l h =
      by_lt_z {P = stands_at (without tree kind dates) d s ≡ false} d k.from (λ m. k.passed d s l m)
      (λ g. without_none d s ((k.known.known.some (with_set sets f) refl).before d s g (omega (arith, ints, h, some f refl))))

  -- what is known from a later position on, which is not past what is ahead
  pub known_later : (sets : List (List ℕ)) (own position q : ℤ) (ahead : Option OccupiedDay) → KnowsPart sets tree own kind dates position ahead
      → position ≤ℤ q → ForSome ahead (λ f. q ≤ℤ f.day) → ForNone ahead (q ≤ℤ own) → KnowsPart sets tree own kind dates q ahead
  known_later sets own position q ahead k l some none =
      by_lt_z {P = KnowsPart sets tree own kind dates q ahead} k.from q
      (λ m. record {
        from = q;
        order = omega (arith, ints);
        passed = λ d s a b. absurd (omega (arith, ints, a, b));
        known = record {
          within = k.known.within;
          known = advance tree own k.from q (day_seen sets ahead) k.known.known (omega (arith, ints, m)) (seen_some sets ahead q some)
              (seen_none sets ahead (q ≤ℤ own) none);
        };
      })
      (λ g. record { from = k.from; order = g; passed = λ d s a b. k.passed d s (omega (arith, ints, l, a)) b; known = k.known })

  -- a part that has not been asked
  pub known_first : (sets : List (List ℕ)) (own position : ℤ) → own ≡ position → KnowsPart sets tree own kind dates position None
  known_first sets own position e = record {
    from = position;
    order = omega (arith, ints);
    passed = λ d s a b. absurd (omega (arith, ints, a, b));
    known = nothing_ahead tree sets own position (omega (arith, ints, e)) (λ d s a b. absurd (omega (arith, ints, a, b, e)));
  }

  -- ---- after a call

  module _ (start old new : List (List ℕ)) (first own own' : ℤ) (begun ahead ahead' : Option OccupiedDay) (tree' : Tree) (same : tree' ≡ tree)
      (known : (position : ℤ) → KnowsPart start tree first kind dates position begun → KnowsPart old tree own kind dates position ahead)
      (filled : (from : ℤ) → IsAheadIn old tree' own from ahead → IsAheadIn new tree' own' from ahead') where
    ahead_now : (from : ℤ) → IsAheadIn old tree own from ahead → IsAheadIn new tree own' from ahead'
    ahead_now = subst (λ t. (from : ℤ) → IsAheadIn old t own from ahead → IsAheadIn new t own' from ahead') same filled

    -- what is known once the part was asked
    pub known_filled : (position : ℤ) → KnowsPart start tree first kind dates position begun → KnowsPart new tree own' kind dates position ahead'
    known_filled position k =
        let m = known position k in
        record { from = m.from; order = m.order; passed = m.passed; known = ahead_now m.from m.known }

    -- the day that it gave is not before what was ahead
    pub not_sooner : (position : ℤ) → KnowsPart start tree first kind dates position begun → (found : OccupiedDay) → ahead' ≡ Some found
        → (next_day ahead own ≤ℤ found.day) × (own' ≡ found.day +ℤ pos 1)
    not_sooner position k found e =
        let m = known position k in
        let n : IsAheadIn new tree own' m.from (Some found) = subst (λ x. IsAheadIn new tree own' m.from x) e (ahead_now m.from m.known) in
        let given = n.known.some (with_set new found) refl in
        (given_later tree old own m.from ahead m.known own' found.day ((with_set new found).times) given, given.own_next)

  module _ (old : List (List ℕ)) (own position : ℤ) (found : OccupiedDay) (k : KnowsPart old tree own kind dates position (Some found)) where
    given : IsGiven tree own k.from found.day ((with_set old found).times)
    given = k.known.known.some (with_set old found) refl

    pub given_on : IsGivenOn old found
    given_on = record { within = k.known.within found refl; rises = given.seconds.rises }

    pub given_some : (with_set old found).times ≢ []
    given_some = given.some

    pub given_own : own ≡ found.day +ℤ pos 1
    given_own = given.own_next

    none_before : HasNone (without tree kind dates) position found.day
    none_before d s l h = by_lt_z {P = stands_at (without tree kind dates) d s ≡ false} d k.from (λ m. k.passed d s l m)
        (λ g. without_none d s (given.before d s g h))

    -- a day of which nothing is left is passed over
    pub known_passed : (new : List (List ℕ)) → IsLeftOf old kind dates found new None → KnowsPart new tree own kind dates position None
    known_passed new all = record {
      from = found.day +ℤ pos 1;
      order = omega (arith, ints, k.order, given.late);
      passed = λ d s l h. by_lt_z {P = stands_at (without tree kind dates) d s ≡ false} d found.day (λ m. none_before d s l m)
          (λ g. (let e : found.day ≡ d = omega (arith, ints, g, h) in
          subst (λ x. stands_at (without tree kind dates) x s ≡ false) e (left_none found.day ((with_set old found).times) given.seconds all s)));
      known = nothing_ahead tree new own (found.day +ℤ pos 1) (omega (arith, ints, given_own)) (λ d s a b. absurd (omega (arith, ints, a, b, given_own)));
    }

    -- a day of which something is left is given
    pub known_given : (new : List (List ℕ)) (to : ℤ) (left : OccupiedDay) → IsLeftOf old kind dates found new (Some left) → found.day ≤ℤ to
        → IsNextIn new (without tree kind dates) position to (Ok (Some left)) (left.day +ℤ pos 1)
        × KnowsPart new tree own kind dates (left.day +ℤ pos 1) None
    known_given new to left (same, on, some, out) h = (
      (
        on.within,
        (
          subst (λ d. IsFirstOccupied (without tree kind dates) position d ((with_set new left).times)) (sym same) (record {
            late = omega (arith, ints, k.order, given.late);
            before = none_before;
            some = some;
            all = record { rises = on.rises; exact = left_stands found.day ((with_set old found).times) ((with_set new left).times) given.seconds out };
          }),
          omega (arith, ints, same, h),
          refl,
        ),
      ),
      known_first new own (left.day +ℤ pos 1) (omega (arith, ints, given_own, same)),
    )

  -- ---- up to a day

  module _ (old mid : List (List ℕ)) (own own' to : ℤ) (ahead : Option OccupiedDay) (found : OccupiedDay)
      (step : (position : ℤ) → KnowsPart old tree own kind dates position ahead → KnowsPart mid tree own' kind dates position (Some found)) where
    pub next_given : (new : List (List ℕ)) (left : Option OccupiedDay) → IsLeftOf mid kind dates found new left → is_some left ≡ true → found.day ≤ℤ to
        → IsNextLeft old new tree kind dates own own' ahead None to (Ok left)
    next_given new None l e h = absurd (cc)
    next_given new (Some left) l e h = λ position k. known_given mid own' position found (step position k) new to left l h

    pub next_passed : (new : List (List ℕ)) (left : Option OccupiedDay) → IsLeftOf mid kind dates found new left → is_some left ≡ false
        → (position : ℤ) → KnowsPart old tree own kind dates position ahead → KnowsPart new tree own' kind dates position None
    next_passed new None l e position k = known_passed mid own' position found (step position k) new l
    next_passed new (Some left) l e position k = absurd (cc)

  -- after out of memory
  pub next_err : (old new : List (List ℕ)) (own own' to : ℤ) (ahead ahead' : Option OccupiedDay) (result : Result (Option OccupiedDay) NoMemory) → IsErr result
      → ((position : ℤ) → KnowsPart old tree own kind dates position ahead → KnowsPart new tree own' kind dates position ahead')
      → IsNextLeft old new tree kind dates own own' ahead ahead' to result
  next_err old new own own' to ahead ahead' (Ok x) e known = absurd (cc)
  next_err old new own own' to ahead ahead' (Err x) e known = known

  -- once nothing is ahead up to a day
  pub known_past : (sets : List (List ℕ)) (own position to q : ℤ) (ahead : Option OccupiedDay) → KnowsPart sets tree own kind dates position ahead
      → ForSome ahead (λ f. to <ℤ f.day) → ForNone ahead (to <ℤ own) → position ≤ℤ q → (q ≡ to +ℤ pos 1) ⊎ (q ≡ position)
      → KnowsPart sets tree own kind dates q ahead × HasNone (without tree kind dates) position q
  known_past sets own position to q ahead k some none l (inl e) =
      let s : ForSome ahead (λ f. q ≤ℤ f.day) = λ f x. omega (arith, ints, e, some f x) in
      let n : ForNone ahead (q ≤ℤ own) = λ x. omega (arith, ints, e, none x) in
      (known_later sets own position q ahead k l s n, none_left sets own position q ahead k s n)
  known_past sets own position to q ahead k some none l (inr e) = (
    subst (λ x. KnowsPart sets tree own kind dates x ahead) (sym e) k,
    λ d s a b. absurd (omega (arith, ints, a, b, e)),
  )

pub fewer_days : (next day to to' own : ℤ) → to' ≡ to → next ≤ℤ day → day ≤ℤ to → own ≡ day +ℤ pos 1
    → nat_abs ((to' +ℤ pos 1) -ℤ own) < nat_abs ((to' +ℤ pos 1) -ℤ next)
fewer_days next day to to' own t a b e = omega (arith, ints)
