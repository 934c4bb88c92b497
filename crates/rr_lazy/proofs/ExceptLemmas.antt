-- Two parts, and what is left of the first one once the second is taken out.
use Rattle.std.proofs.Common.{◌≡◌, ◌≢◌, ◌↔◌, ◌⊎◌, inl, inr, ℕ, ◌<◌, true, false, List, [], ◌∷◌, take, length, get_or, Contains, Option, Some, None, ℤ, pos}
use Rattle.std.proofs.Common.{◌+ℤ◌, ◌-ℤ◌, ◌≤ℤ◌, ◌<ℤ◌, nat_abs, refl, sym, ap, subst, ◌∙◌, arith}
use Rattle.std.specs.Prelude.{IsTrue, IfOk, Result, Ok, Err, IsErr, is_some, nat_lt}
use Rattle.std.specs.Option.{ForSome, ForNone}
use Rattle.std.proofs.lemmas.Int.{ints, by_lt_z}
use Rattle.std.proofs.lemmas.Bool.{false≢true, and_parts, not-true}
use Rattle.std.proofs.Math.Seq.{take-length}
use Rattle.rr_model.specs.Rising.{Rises}
use Rattle.rr_model.specs.Rising.Sets.{IsSetOf}
use Rattle.rr_model.specs.Sets.Tree.{Tree, IsOfOneKind, except, stands_at}
use Rattle.rr_model.specs.declared.refusal.NoMemory.{NoMemory}
use Rattle.rr_model.proofs.RisingSetLemmas.{Contains-none}
use Rattle.rr_shapes.specs.Tables.{Extends}
use Rattle.rr_lazy.specs.declared.occupied_day.OccupiedDay.{OccupiedDay}
use Rattle.rr_lazy.specs.Next.{HasNone, IsFirstOccupied, IsNextIn, with_set}
use Rattle.rr_lazy.specs.Ahead.{GaveDay, HasOn, IsGiven, IsAheadIn, IsGivenOn, day_seen, IsOfDay}
use Rattle.rr_lazy.specs.Except.{IsAheadUpTo, IsLacking, IsLeftBy, IsNextOfBoth, KnowsBoth, up_to_more}
use Rattle.rr_lazy.specs.Parts.{Part, part_of}
use Rattle.rr_lazy.specs.Tables.{ahead_more, same_day}
use Rattle.rr_lazy.proofs.AheadLemmas.{advance, on_day}
use Rattle.rr_lazy.proofs.AheadLemmas.{seen_none as none_seen}
use Rattle.rr_lazy.proofs.WithoutLemmas.{next_day, seen_some, nothing_ahead, given_later}

-- ---- what is known of the second part

pub later_out : (sets : List (List ℕ)) (part : Part) (day later : ℤ) → day ≤ℤ later → IsAheadUpTo sets part day → IsAheadUpTo sets part later
later_out sets part day later l k = record { from = k.from; early = omega (arith, ints, l, k.early); known = k.known }

-- a part that has not been asked
pub unasked_out : (sets : List (List ℕ)) (tree : Tree) (own day : ℤ) → own ≡ day → IsAheadUpTo sets (part_of tree own None) day
unasked_out sets tree own day e = record {
  from = day;
  early = omega (arith, ints);
  known = nothing_ahead tree sets own day (omega (arith, ints, e)) (λ d s a b. absurd (omega (arith, ints, a, b, e)));
}

-- once it was asked
pub out_filled : (old new : List (List ℕ)) (tree tree' : Tree) (own own' day : ℤ) (ahead ahead' : Option OccupiedDay) → tree' ≡ tree
    → ((from : ℤ) → IsAheadIn old tree' own from ahead → IsAheadIn new tree' own' from ahead') → IsAheadUpTo old (part_of tree own ahead) day
    → IsAheadUpTo new (part_of tree own' ahead') day
out_filled old new tree tree' own own' day ahead ahead' same filled k =
    let now = subst (λ t. (from : ℤ) → IsAheadIn old t own from ahead → IsAheadIn new t own' from ahead') same filled in
    record { from = k.from; early = k.early; known = now k.from k.known }

-- the day that it gave is not before what was ahead
pub out_not_sooner : (old new : List (List ℕ)) (tree tree' : Tree) (own own' day : ℤ) (ahead ahead' : Option OccupiedDay) → tree' ≡ tree
    → ((from : ℤ) → IsAheadIn old tree' own from ahead → IsAheadIn new tree' own' from ahead') → IsAheadUpTo old (part_of tree own ahead) day
    → (found : OccupiedDay) → ahead' ≡ Some found → (next_day ahead own ≤ℤ found.day) × (own' ≡ found.day +ℤ pos 1)
out_not_sooner old new tree tree' own own' day ahead ahead' same filled k found e =
    let now = subst (λ t. (from : ℤ) → IsAheadIn old t own from ahead → IsAheadIn new t own' from ahead') same filled in
    let n : IsAheadIn new tree own' k.from (Some found) = subst (λ x. IsAheadIn new tree own' k.from x) e (now k.from k.known) in
    let given = n.known.some (with_set new found) refl in
    (given_later tree old own k.from ahead k.known own' found.day ((with_set new found).times) given, given.own_next)

-- a day before the one that is looked for is passed over
pub out_passed : (sets : List (List ℕ)) (tree : Tree) (own day : ℤ) (found : OccupiedDay) → IsAheadUpTo sets (part_of tree own (Some found)) day
    → found.day <ℤ day → IsAheadUpTo sets (part_of tree own None) day
out_passed sets tree own day found k l =
    let given = k.known.known.some (with_set sets found) refl in
    record {
      from = found.day +ℤ pos 1;
      early = omega (arith, ints, l);
      known = nothing_ahead tree sets own (found.day +ℤ pos 1) (omega (arith, ints, given.own_next)) (λ d s a b.
          absurd (omega (arith, ints, a, b, given.own_next)));
    }

-- what it has on a day, if what it gave is not before that day
pub out_on_day : (sets : List (List ℕ)) (tree : Tree) (own day : ℤ) (ahead : Option OccupiedDay) → IsAheadUpTo sets (part_of tree own ahead) day
    → ForSome ahead (λ f. day ≤ℤ f.day) → ForNone ahead (day <ℤ own) → (s : ℕ) → (stands_at tree day s ≡ true) ↔ HasOn (day_seen sets ahead) day s
out_on_day sets tree own day ahead k some none s =
    on_day tree own k.from day (day_seen sets ahead) k.known.known k.early (seen_some sets ahead day some) (none_seen sets ahead (day <ℤ own) none) s

-- ---- what is left of a day

gives_day : (ahead : Option OccupiedDay) (sets : List (List ℕ)) (day : ℤ) (s : ℕ) → HasOn (day_seen sets ahead) day s → ForSome ahead (λ f. f.day ≡ day → ⊥) → ⊥
gives_day None sets day s h other = absurd h
gives_day (Some f) sets day s h other = other f refl h.0

-- all of it, if the second part did not give the day
pub left_whole : (sets new : List (List ℕ)) (tree : Tree) (given : OccupiedDay) (ahead : Option OccupiedDay) → IsGivenOn new given
    → ((with_set new given).times) ≢ [] → with_set new given ≡ with_set sets given
    → ((s : ℕ) → (stands_at tree given.day s ≡ true) ↔ HasOn (day_seen new ahead) given.day s) → ForSome ahead (λ f. f.day ≡ given.day → ⊥)
    → IsLeftBy sets tree given new (Some given)
left_whole sets new tree given ahead on some same stands other = (
  refl,
  on,
  some,
  λ s. (
    λ c. (subst (λ f. Contains (f.times) s) same c, none s),
    λ p. subst (λ f. Contains (f.times) s) (sym same) p.0,
  ),
)
  where
    none : (s : ℕ) → stands_at tree given.day s ≡ false
    none s = elim (stands_at tree given.day s) as (λ b. stands_at tree given.day s ≡ b → b ≡ false) [
      | true ↦ λ e. absurd (gives_day ahead new given.day s ((stands s).0 e) other)
      | false ↦ λ e. refl
    ] refl

-- what the second part lacks, if it gave the day
pub left_lacking : (old mid new : List (List ℕ)) (tree : Tree) (given out : OccupiedDay) (ahead : Option OccupiedDay) (left : Option OccupiedDay)
    → with_set mid given ≡ with_set old given → ahead ≡ Some out → out.day ≡ given.day
    → ((s : ℕ) → (stands_at tree given.day s ≡ true) ↔ HasOn (day_seen mid ahead) given.day s) → IsLacking mid given out new left
    → IsLeftBy old tree given new left
left_lacking old mid new tree given out ahead None same is day stands lacking = λ s c.
    elim (stands_at tree given.day s) as (λ b. stands_at tree given.day s ≡ b → b ≡ true) [
      | true ↦ λ e. refl
      | false ↦ λ e. absurd (lacking s (subst (λ f. Contains (f.times) s) (sym same) c)
          (λ o. false≢true (sym e ∙ (stands s).1 (subst (λ a. HasOn (day_seen mid a) given.day s) (sym is) (day, o)))))
    ] refl
left_lacking old mid new tree given out ahead (Some found) same is day stands (at, on, some, exact) = (
  at,
  on,
  some,
  λ s. (
    λ c. (let p = (exact s).0 c in (subst (λ f. Contains (f.times) s) same p.0, none s p.1)),
    λ p. (exact s).1 (
      subst (λ f. Contains (f.times) s) (sym same) p.0,
      λ o.
          false≢true (sym p.1 ∙ (stands s).1 (subst (λ a. HasOn (day_seen mid a) given.day s) (sym is) (day, o))),
    ),
  ),
)
  where
    none : (s : ℕ) → ¬ Contains ((with_set mid out).times) s → stands_at tree given.day s ≡ false
    none s lacks = elim (stands_at tree given.day s) as (λ b. stands_at tree given.day s ≡ b → b ≡ false) [
      | true ↦ λ e. absurd (lacks (subst (λ a. HasOn (day_seen mid a) given.day s) is ((stands s).0 e)).1)
      | false ↦ λ e. refl
    ] refl

-- whatever is answered
pub all_lacking : (old mid new : List (List ℕ)) (tree : Tree) (given out : OccupiedDay) (ahead : Option OccupiedDay)
    (result : Result (Option OccupiedDay) NoMemory) → with_set mid given ≡ with_set old given → ahead ≡ Some out → out.day ≡ given.day
    → ((s : ℕ) → (stands_at tree given.day s ≡ true) ↔ HasOn (day_seen mid ahead) given.day s) → IfOk result (IsLacking mid given out new)
    → IfOk result (IsLeftBy old tree given new)
all_lacking old mid new tree given out ahead (Ok left) same is day stands l = left_lacking old mid new tree given out ahead left same is day stands l
all_lacking old mid new tree given out ahead (Err e) same is day stands l = l

-- ---- what a part gave for a day

pub other_day : (ahead result : Option OccupiedDay) (day : ℤ) → result ≡ None → IsOfDay ahead day result → ForSome ahead (λ f. f.day ≡ day → ⊥)
other_day None result day e w = λ f g. absurd (cc)
other_day (Some x) result day e w = elim w [ inl m ↦ absurd (cc) | inr m ↦ m.1 ]

-- a day that was given is the same by a table that goes on
pub given_on_more : (old new : List (List ℕ)) (found : OccupiedDay) → Extends old new → IsGivenOn old found
    → IsGivenOn new found × (with_set new found ≡ with_set old found)
given_on_more old new found more on =
    let s = same_day old new found more on.within in
    (record { within = s.0; rises = subst (λ f. Rises nat_lt (f.times)) (sym s.1) on.rises }, s.1)

-- ---- the seconds that one set lacks, by their number

module _ (old new : List (List ℕ)) (a b : OccupiedDay) (x y : List ℕ) (number count : ℕ) (of_x : x ≡ (with_set old a).times)
    (of_y : y ≡ (with_set old b).times) (set : IsSetOf nat_lt (get_or new number []) (λ s. Contains x s × ¬ Contains y s))
    (many : count ≡ length (get_or new number [])) where
  exactly : (s : ℕ) → Contains (get_or new number []) s ↔ (Contains ((with_set old a).times) s × ¬ Contains ((with_set old b).times) s)
  exactly s = (
    λ c. (let p = (set.exact s).0 c in (subst (λ z. Contains z s) of_x p.0, λ o. p.1 (subst (λ z. Contains z s) (sym of_y) o))),
    λ p. (set.exact s).1 (subst (λ z. Contains z s) (sym of_x) p.0, λ o. p.1 (subst (λ z. Contains z s) of_y o)),
  )

  pub lacking_none : get_or new number [] ≡ [] → IsLacking old a b new None
  lacking_none e s c lacks = Contains-none s (subst (λ z. Contains z s) e ((exactly s).1 (c, lacks)))

  pub lacking_some : number < length new → get_or new number [] ≢ []
      → IsLacking old a b new (Some (record { day = a.day; number = record { index = number }; count = count }))
  lacking_some within some =
      let whole : take count (get_or new number []) ≡ get_or new number [] = rw many (take-length (get_or new number [])) in
      (refl, record { within = (within, omega (arith, many)); rises = rw whole set.rises }, rw whole some, rw whole exactly)

-- ---- two trees

module _ (tree out : Tree) where
  except_none : (d : ℤ) (s : ℕ) → stands_at tree d s ≡ false → stands_at (except tree out) d s ≡ false
  except_none d s e = rw e refl

  -- what is left of a day
  left_stands : (d : ℤ) (times left : List ℕ) → IsSetOf nat_lt times (λ s. IsTrue (stands_at tree d s))
      → ((s : ℕ) → Contains left s ↔ (Contains times s × (stands_at out d s ≡ false))) → (s : ℕ) → Contains left s ↔ IsTrue (stands_at (except tree out) d s)
  left_stands d times left set outs s = (
    λ c. (let p = (outs s).0 c in rw ((set.exact s).0 p.0, p.1) refl),
    λ h. (outs s).1 ((set.exact s).1 (and_parts _ _ h).0, not-true (stands_at out d s) (and_parts (stands_at tree d s) _ h).1),
  )

  -- a day of which nothing is left
  left_none : (d : ℤ) (times : List ℕ) → IsSetOf nat_lt times (λ s. IsTrue (stands_at tree d s))
      → ((s : ℕ) → Contains times s → stands_at out d s ≡ true) → (s : ℕ) → stands_at (except tree out) d s ≡ false
  left_none d times set all s = elim (stands_at tree d s) as (λ b. stands_at tree d s ≡ b → stands_at (except tree out) d s ≡ false) [
    | false ↦ λ e. except_none d s e
    | true ↦ λ e. rw (e, all s ((set.exact s).1 e)) refl
  ] refl

  -- ---- what is known from a position on

  -- nothing is left before what is ahead
  pub none_left : (sets : List (List ℕ)) (b : Part) (own position q : ℤ) (ahead : Option OccupiedDay) → b.tree ≡ out
      → KnowsBoth sets (part_of tree own ahead) b position → ForSome ahead (λ f. q ≤ℤ f.day) → ForNone ahead (q ≤ℤ own)
      → HasNone (except tree out) position q
  none_left sets b own position q None same k some none d s l h =
      by_lt_z {P = stands_at (except tree out) d s ≡ false} d k.from
      (λ m. subst (λ t. stands_at (except tree t) d s ≡ false) same (k.passed d s l m))
      (λ g. except_none d s ((k.known.known.none refl).1 d s g (omega (arith, ints, h, none refl))))
  none_left sets b own position q (Some f) same k some none d s l h =
      by_lt_z {P = stands_at (except tree out) d s ≡ false} d k.from
      (λ m. subst (λ t. stands_at (except tree t) d s ≡ false) same (k.passed d s l m))
      (λ g. except_none d s ((k.known.known.some (with_set sets f) refl).before d s g (omega (arith, ints, h, some f refl))))

  -- what is known from a later position on, which is not past what is ahead
  pub known_later : (sets : List (List ℕ)) (b : Part) (own position q : ℤ) (ahead : Option OccupiedDay)
      → KnowsBoth sets (part_of tree own ahead) b position → position ≤ℤ q → ForSome ahead (λ f. q ≤ℤ f.day) → ForNone ahead (q ≤ℤ own)
      → KnowsBoth sets (part_of tree own ahead) b q
  known_later sets b own position q ahead k l some none =
      by_lt_z {P = KnowsBoth sets (part_of tree own ahead) b q} k.from q
      (λ m. record {
        from = q;
        order = omega (arith, ints);
        passed = λ d s a c. absurd (omega (arith, ints, a, c));
        known = record {
          within = k.known.within;
          known = advance tree own k.from q (day_seen sets ahead) k.known.known (omega (arith, ints, m)) (seen_some sets ahead q some)
              (none_seen sets ahead (q ≤ℤ own) none);
        };
        out = later_out sets b k.from q (omega (arith, ints, m)) k.out;
      })
      (λ g. record { from = k.from; order = g; passed = λ d s a c. k.passed d s (omega (arith, ints, l, a)) c; known = k.known; out = k.out })

  -- two parts that have not been asked
  pub known_first : (sets : List (List ℕ)) (own own_b position : ℤ) → own ≡ position → own_b ≡ position
      → KnowsBoth sets (part_of tree own None) (part_of out own_b None) position
  known_first sets own own_b position e f = record {
    from = position;
    order = omega (arith, ints);
    passed = λ d s a c. absurd (omega (arith, ints, a, c));
    known = nothing_ahead tree sets own position (omega (arith, ints, e)) (λ d s a c. absurd (omega (arith, ints, a, c, e)));
    out = unasked_out sets out own_b position f;
  }

  -- ---- once the first part was asked

  module _ (start old new : List (List ℕ)) (a_start b_start b : Part) (own own' : ℤ) (ahead ahead' : Option OccupiedDay) (tree' : Tree) (same : tree' ≡ tree)
      (known : (position : ℤ) → KnowsBoth start a_start b_start position → KnowsBoth old (part_of tree own ahead) b position)
      (filled : (from : ℤ) → IsAheadIn old tree' own from ahead → IsAheadIn new tree' own' from ahead') (more : Extends old new) where
    ahead_now : (from : ℤ) → IsAheadIn old tree own from ahead → IsAheadIn new tree own' from ahead'
    ahead_now = subst (λ t. (from : ℤ) → IsAheadIn old t own from ahead → IsAheadIn new t own' from ahead') same filled

    pub known_filled : (position : ℤ) → KnowsBoth start a_start b_start position → KnowsBoth new (part_of tree own' ahead') b position
    known_filled position k =
        let m = known position k in
        record { from = m.from; order = m.order; passed = m.passed; known = ahead_now m.from m.known; out = up_to_more old new b m.from more m.out }

    -- the day that it gave is not before what was ahead
    pub not_sooner : (position : ℤ) → KnowsBoth start a_start b_start position → (found : OccupiedDay) → ahead' ≡ Some found
        → (next_day ahead own ≤ℤ found.day) × (own' ≡ found.day +ℤ pos 1)
    not_sooner position k found e =
        let m = known position k in
        let n : IsAheadIn new tree own' m.from (Some found) = subst (λ x. IsAheadIn new tree own' m.from x) e (ahead_now m.from m.known) in
        let given = n.known.some (with_set new found) refl in
        (given_later tree old own m.from ahead m.known own' found.day ((with_set new found).times) given, given.own_next)

  -- ---- a day that the first part gave

  module _ (old : List (List ℕ)) (b : Part) (own position : ℤ) (found : OccupiedDay) (k : KnowsBoth old (part_of tree own (Some found)) b position) where
    given : IsGiven tree own k.from found.day ((with_set old found).times)
    given = k.known.known.some (with_set old found) refl

    pub given_on : IsGivenOn old found
    given_on = record { within = k.known.within found refl; rises = given.seconds.rises }

    pub given_some : (with_set old found).times ≢ []
    given_some = given.some

    pub given_own : own ≡ found.day +ℤ pos 1
    given_own = given.own_next

    pub given_late : position ≤ℤ found.day
    given_late = omega (arith, ints, k.order, given.late)

    pub out_to_day : IsAheadUpTo old b found.day
    out_to_day = later_out old b k.from found.day given.late k.out

    none_before : b.tree ≡ out → HasNone (except tree out) position found.day
    none_before same d s l h = by_lt_z {P = stands_at (except tree out) d s ≡ false} d k.from
        (λ m. subst (λ t. stands_at (except tree t) d s ≡ false) same (k.passed d s l m)) (λ g. except_none d s (given.before d s g h))

    -- it is kept after out of memory
    pub known_kept : (new : List (List ℕ)) (own_b : ℤ) (ahead_b : Option OccupiedDay) → b.tree ≡ out → Extends old new
        → IsAheadUpTo new (part_of out own_b ahead_b) found.day → KnowsBoth new (part_of tree own (Some found)) (part_of out own_b ahead_b) position
    known_kept new own_b ahead_b same more o = record {
      from = found.day;
      order = given_late;
      passed = none_before same;
      known = ahead_more old new tree own found.day (Some found) more (record {
        within = k.known.within;
        known = advance tree own k.from found.day (day_seen old (Some found)) k.known.known given.late
            (λ f e. (let i : f ≡ with_set old found = cc in rw i (omega (arith, ints)))) (λ e. absurd (cc));
      });
      out = o;
    }

    -- a day of which nothing is left is passed over
    pub known_passed : (new : List (List ℕ)) (own_b : ℤ) (ahead_b : Option OccupiedDay) → b.tree ≡ out
        → IsAheadUpTo new (part_of out own_b ahead_b) found.day → IsLeftBy old out found new None
        → KnowsBoth new (part_of tree own None) (part_of out own_b ahead_b) position
    known_passed new own_b ahead_b same o all = record {
      from = found.day +ℤ pos 1;
      order = omega (arith, ints, given_late);
      passed = λ d s l h. by_lt_z {P = stands_at (except tree out) d s ≡ false} d found.day (λ m. none_before same d s l m)
          (λ g. (let e : found.day ≡ d = omega (arith, ints, g, h) in
          subst (λ x. stands_at (except tree out) x s ≡ false) e (left_none found.day ((with_set old found).times) given.seconds all s)));
      known = nothing_ahead tree new own (found.day +ℤ pos 1) (omega (arith, ints, given_own)) (λ d s a c. absurd (omega (arith, ints, a, c, given_own)));
      out = later_out new (part_of out own_b ahead_b) found.day (found.day +ℤ pos 1) (omega (arith, ints)) o;
    }

    -- a day of which something is left is given
    pub known_given : (new : List (List ℕ)) (own_b to : ℤ) (ahead_b : Option OccupiedDay) (left : OccupiedDay) → b.tree ≡ out
        → IsAheadUpTo new (part_of out own_b ahead_b) found.day → IsLeftBy old out found new (Some left) → found.day ≤ℤ to
        → IsNextIn new (except tree out) position to (Ok (Some left)) (left.day +ℤ pos 1)
        × KnowsBoth new (part_of tree own None) (part_of out own_b ahead_b) (left.day +ℤ pos 1)
    known_given new own_b to ahead_b left same o (at, on, some, outs) h = (
      (
        on.within,
        (
          subst (λ d. IsFirstOccupied (except tree out) position d ((with_set new left).times)) (sym at) (record {
            late = given_late;
            before = none_before same;
            some = some;
            all = record { rises = on.rises; exact = left_stands found.day ((with_set old found).times) ((with_set new left).times) given.seconds outs };
          }),
          omega (arith, ints, at, h),
          refl,
        ),
      ),
      record {
        from = left.day +ℤ pos 1;
        order = omega (arith, ints);
        passed = λ d s a c. absurd (omega (arith, ints, a, c));
        known = nothing_ahead tree new own (left.day +ℤ pos 1) (omega (arith, ints, given_own, at)) (λ d s a c.
            absurd (omega (arith, ints, a, c, given_own, at)));
        out = later_out new (part_of out own_b ahead_b) found.day (left.day +ℤ pos 1) (omega (arith, ints, at)) o;
      },
    )

  -- ---- up to a day

  module _ (start mid new : List (List ℕ)) (a_start b_start b : Part) (of_a : a_start.tree ≡ tree) (of_b : b_start.tree ≡ out) (same : b.tree ≡ out)
      (own own_b to : ℤ) (ahead_b : Option OccupiedDay) (found : OccupiedDay)
      (step : (position : ℤ) → KnowsBoth start a_start b_start position → KnowsBoth mid (part_of tree own (Some found)) b position)
      (outs : IsAheadUpTo new (part_of out own_b ahead_b) found.day) where
    pub next_given : (left : Option OccupiedDay) → IsLeftBy mid out found new left → is_some left ≡ true → found.day ≤ℤ to
        → IsNextOfBoth start new a_start (part_of tree own None) b_start (part_of out own_b ahead_b) to (Ok left)
    next_given None l e h = absurd (cc)
    next_given (Some left) l e h = λ position k.
        subst (λ t. IsNextIn new t position to (Ok (Some left)) (left.day +ℤ pos 1)
        × KnowsBoth new (part_of tree own None) (part_of out own_b ahead_b) (left.day +ℤ pos 1))
        (ap (λ t. except t out) (sym of_a) ∙ ap (λ t. except a_start.tree t) (sym of_b))
        (known_given mid b own position found (step position k) new own_b to ahead_b left same outs l h)

    pub next_passed : (left : Option OccupiedDay) → IsLeftBy mid out found new left → is_some left ≡ false → (position : ℤ)
        → KnowsBoth start a_start b_start position → KnowsBoth new (part_of tree own None) (part_of out own_b ahead_b) position
    next_passed None l e position k = known_passed mid b own position found (step position k) new own_b ahead_b same outs l
    next_passed (Some left) l e position k = absurd (cc)

    pub next_kept : Extends mid new → (position : ℤ) → KnowsBoth start a_start b_start position
        → KnowsBoth new (part_of tree own (Some found)) (part_of out own_b ahead_b) position
    next_kept more position k = known_kept mid b own position found (step position k) new own_b ahead_b same more outs

  -- once nothing is ahead up to a day
  pub known_past : (sets : List (List ℕ)) (b : Part) (own position to q : ℤ) (ahead : Option OccupiedDay) → b.tree ≡ out
      → KnowsBoth sets (part_of tree own ahead) b position → ForSome ahead (λ f. to <ℤ f.day) → ForNone ahead (to <ℤ own) → position ≤ℤ q
      → (q ≡ to +ℤ pos 1) ⊎ (q ≡ position) → KnowsBoth sets (part_of tree own ahead) b q × HasNone (except tree out) position q
  known_past sets b own position to q ahead same k some none l (inl e) =
      let s : ForSome ahead (λ f. q ≤ℤ f.day) = λ f x. omega (arith, ints, e, some f x) in
      let n : ForNone ahead (q ≤ℤ own) = λ x. omega (arith, ints, e, none x) in
      (known_later sets b own position q ahead k l s n, none_left sets b own position q ahead same k s n)
  known_past sets b own position to q ahead same k some none l (inr e) = (
    subst (λ x. KnowsBoth sets (part_of tree own ahead) b x) (sym e) k,
    λ d s a c. absurd (omega (arith, ints, a, c, e)),
  )

-- after out of memory
pub both_err : (old new : List (List ℕ)) (a a' b b' : Part) (to : ℤ) (result : Result (Option OccupiedDay) NoMemory) → IsErr result
    → ((position : ℤ) → KnowsBoth old a b position → KnowsBoth new a' b' position) → IsNextOfBoth old new a a' b b' to result
both_err old new a a' b b' to (Ok x) e known = absurd (cc)
both_err old new a a' b b' to (Err x) e known = known

-- a part that goes on stands for the same tree
pub same_one_kind : (a a' b b' : Tree) → a' ≡ a → b' ≡ b → IsOfOneKind (except a b) → IsOfOneKind (except a' b')
same_one_kind a a' b b' e f k = subst (λ t. IsOfOneKind (except t b')) (sym e) (subst (λ t. IsOfOneKind (except a t)) (sym f) k)
