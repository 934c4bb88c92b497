-- The first occurrences, one after the other.
use Rattle.std.proofs.Common.{◌≡◌, ◌⊎◌, inl, inr, ℕ, ◌+◌, ◌*◌, ◌≤◌, List, [], ◌∷◌, ◌++◌, length, get_or, Option, None, Some, ℤ, pos, ◌+ℤ◌, ◌≤ℤ◌, ◌<ℤ◌, All, subst, arith}
use Rattle.std.specs.Prelude.{IsTrue, int_lt}
use Rattle.std.specs.List.{Contains}
use Rattle.std.proofs.lemmas.Int.{ints, by_lt_z}
use Rattle.std.proofs.lemmas.List.Elements.{Contains-get_or}
use Rattle.rr_model.specs.Bounds.{latest_taken}
use Rattle.rr_model.specs.Moment.{day_part}
use Rattle.rr_model.specs.Rising.Sets.{IsSetOf}
use Rattle.rr_model.specs.Sets.Sketch.{StandsIn}
use Rattle.rr_model.specs.declared.kind.Kind.{Kind}
use Rattle.rr_model.specs.declared.kind.Kind.TheVariants.{Days, Moments}
use Rattle.rr_model.specs.declared.sketch.Sketch.{Sketch}
use Rattle.rr_model.proofs.OrderLemmas.{day_mono}
use Rattle.rr_model.proofs.WholeLemmas.{floor_mod_below, floor_whole}
use Rattle.rr_model.proofs.RisingSetLemmas.{set_empty, set_push, set_same}
use Rattle.rr_next.specs.First.{AreFirst}
use Rattle.rr_next.specs.Next.{HasNoneFrom, IsBelow, IsNextAt, IsSoon, IsTaken}
use Rattle.rr_next.specs.Window.{between, from_on, number_from}
use Rattle.rr_next.proofs.WindowLemmas.{before_lesser, from_not_before, lesser_before, not_before_from}

-- what is taken, and lies before a number
pub record IsTakenBefore (s : Sketch) (low : ℤ) (end : Option ℤ) (at u : ℤ) : Type 0 where
  pub taken : IsTaken s low end u
  pub before : u <ℤ at

-- the list has what is taken before the number
abbrev pub IsSoFar : Sketch → ℤ → Option ℤ → ℤ → List ℤ → Type 0
IsSoFar s low end at found = IsSetOf int_lt found (IsTakenBefore s low end at)

below_test : (a b : ℤ) → a <ℤ b → IsTrue (int_lt a b)
below_test a b l = grind (arith, ints)

module _ (s : Sketch) (low : ℤ) (end : Option ℤ) where
  pub none_yet : IsSoFar s low end low []
  none_yet = set_empty int_lt (IsTakenBefore s low end low) (λ u h. (let a = h.taken.from in let b = h.before in omega (arith, ints, a, b)))

  -- one more
  pub one_more : (at t after : ℤ) (found : List ℤ) → IsSoFar s low end at found → low ≤ℤ at → IsNextAt s at t → IsBelow end t → after ≡ t +ℤ pos 1
      → IsSoFar s low end after (found ++ t ∷ [])
  one_more at t after found set from next below e =
      set_same int_lt (λ u. IsTakenBefore s low end at u ⊎ (t ≡ u)) (IsTakenBefore s low end after) (found ++ t ∷ [])
      (set_push int_lt (IsTakenBefore s low end at) found t set (λ u p. below_test u t (let a = p.before in let b = next.not_before in omega (arith, ints, a, b))))
      (λ u. (
        (λ h. elim h [
          | inl p ↦ record { taken = p.taken; before = (let a = p.before in let b = next.not_before in omega (arith, ints, a, b, e)) }
          | inr same ↦ subst (IsTakenBefore s low end after) same (record {
            taken = record { stands = next.stands; from = (let b = next.not_before in omega (arith, ints, b, from)); below = below };
            before = omega (arith, ints, e);
          })
        ]),
        (λ p. by_lt_z {P = IsTakenBefore s low end at u ⊎ (t ≡ u)} u at
            (λ l. inl (record { taken = p.taken; before = l }))
            (λ g. by_lt_z {P = IsTakenBefore s low end at u ⊎ (t ≡ u)} u t
            (λ l. absurd (next.none_earlier u g l p.taken.stands))
            (λ m. inr (let b = p.before in omega (arith, ints, b, m, e))))),
      ))

  -- as many as are asked
  pub enough : (at : ℤ) (n : ℕ) (found : List ℤ) → IsSoFar s low end at found → length found ≡ n → AreFirst (IsTaken s low end) n found
  enough at n found set full = record {
    rises = set.rises;
    few = omega (arith, full);
    occur = λ k d l. ((set.exact (get_or found k d)).0 (Contains-get_or found k d l)).taken;
    first = λ t p. by_lt_z {P = Contains found t ⊎ ((length found ≡ n) × All (λ x. x <ℤ t) found)} t at
        (λ l. inl ((set.exact t).1 (record { taken = p; before = l })))
        (λ g. inr (full, λ k d l. (let b = ((set.exact (get_or found k d)).0 (Contains-get_or found k d l)).before in omega (arith, ints, b, g))));
  }

  -- there are no more
  whole : (at : ℤ) (n : ℕ) (found : List ℤ) → IsSoFar s low end at found → length found ≤ n
      → ((t : ℤ) → at ≤ℤ t → IsTaken s low end t → ⊥) → AreFirst (IsTaken s low end) n found
  whole at n found set few none = record {
    rises = set.rises;
    few = few;
    occur = λ k d l. ((set.exact (get_or found k d)).0 (Contains-get_or found k d l)).taken;
    first = λ t p. by_lt_z {P = Contains found t ⊎ ((length found ≡ n) × All (λ x. x <ℤ t) found)} t at
        (λ l. inl ((set.exact t).1 (record { taken = p; before = l }))) (λ g. absurd (none t g p));
  }

  pub no_more : (at : ℤ) (n : ℕ) (found : List ℤ) → IsSoFar s low end at found → length found ≤ n → HasNoneFrom s end at
      → AreFirst (IsTaken s low end) n found
  no_more at n found set few none = whole at n found set few (λ t g p. none t g p.below p.stands)

  -- the next one is not below the end
  pub no_more_below : (at t : ℤ) (n : ℕ) (found : List ℤ) → IsSoFar s low end at found → length found ≤ n → IsNextAt s at t → (IsBelow end t → ⊥)
      → AreFirst (IsTaken s low end) n found
  no_more_below at t n found set few next above =
      whole at n found set few (λ u g p. by_lt_z {P = ⊥} u t (λ l. next.none_earlier u g l p.stands) (λ m. above (lower end u t p.below m)))
    where
      lower : (end : Option ℤ) (u t : ℤ) → IsBelow end u → t ≤ℤ u → IsBelow end t
      lower None u t b m = tt
      lower (Some e) u t b m = omega (arith, ints, b, m)

  -- what is before a day that is near is near
  pub near_so_far : (at : ℤ) (found : List ℤ) → IsSoFar s low end at found → day_part s.kind at ≤ℤ latest_taken
      → All (λ t. day_part s.kind t ≤ℤ latest_taken) found
  near_so_far at found set near k d l =
      let b = ((set.exact (get_or found k d)).0 (Contains-get_or found k d l)).before in
      let m = day_mono s.kind (get_or found k d) at (omega (arith, ints, b)) in
      omega (arith, ints, m, near)

-- the first of another property that holds of the same
first_same : (P Q : ℤ → Type 0) (n : ℕ) (ts : List ℤ) → ((t : ℤ) → P t → Q t) → ((t : ℤ) → Q t → P t) → AreFirst P n ts → AreFirst Q n ts
first_same P Q n ts to from a = record {
  rises = a.rises;
  few = a.few;
  occur = λ k d l. to (get_or ts k d) (a.occur k d l);
  first = λ t q. a.first t (from t q);
}

-- what is taken from the number of a moment on does not come before it
pub first_from_on : (s : Sketch) (k : Kind) (t low : ℤ) (n : ℕ) (ts : List ℤ) → low ≡ number_from s.kind k t → AreFirst (IsTaken s low None) n ts
    → AreFirst (from_on (StandsIn s) k t s.kind) n ts
first_from_on s k t low n ts e h =
    first_same (IsTaken s low None) (from_on (StandsIn s) k t s.kind) n ts
    (λ u p. (p.stands, not_before_from s.kind u k t (let a = p.from in omega (arith, ints, a, e))))
    (λ u p. record { stands = p.0; from = (let a = from_not_before s.kind u k t p.1 in omega (arith, ints, a, e)); below = tt }) h

pub first_in_between : (s : Sketch) (k : Kind) (t : ℤ) (m : Kind) (v low end : ℤ) (n : ℕ) (ts : List ℤ) → low ≡ number_from s.kind k t
    → end ≡ number_from s.kind m v → AreFirst (IsTaken s low (Some end)) n ts → AreFirst (between (StandsIn s) k t m v s.kind) n ts
first_in_between s k t m v low end n ts e f h =
    first_same (IsTaken s low (Some end)) (between (StandsIn s) k t m v s.kind) n ts
    (λ u p. (
      p.stands,
      not_before_from s.kind u k t (let a = p.from in omega (arith, ints, a, e)),
      before_lesser s.kind u m v (let a = p.below in omega (arith, ints, a, f)),
    ))
    (λ u p. record {
      stands = p.0;
      from = (let a = from_not_before s.kind u k t p.1 in omega (arith, ints, a, e));
      below = (let a = lesser_before s.kind u m v p.2 in omega (arith, ints, a, f));
    }) h

-- ---- how far it goes

-- the day of the next number is the same or the next
day_step : (k : Kind) (t : ℤ) → day_part k (t +ℤ pos 1) ≤ℤ (day_part k t +ℤ pos 1)
day_step Days t = omega (arith, ints)
day_step Moments t =
    let a = floor_whole t 86_400 (omega arith) in
    let b = floor_whole (t +ℤ pos 1) 86_400 (omega arith) in
    let c = floor_mod_below t 86_400 (omega arith) in
    omega (arith, ints, a, b, c)

pub near_after : (s : Sketch) (at t after : ℤ) (n m : ℕ) → s.settled ≤ℤ pos 1_000_000_000 → s.period ≤ 16_777_216
    → IsSoon s (day_part s.kind at +ℤ pos 1) (day_part s.kind t) → after ≡ t +ℤ pos 1 → day_part s.kind at ≤ℤ pos (1_000_000_001 + n * 16_777_218)
    → m ≡ n + 1 → day_part s.kind after ≤ℤ pos (1_000_000_001 + m * 16_777_218)
near_after s at t after n m high few soon e near more =
    let step : day_part s.kind after ≤ℤ (day_part s.kind t +ℤ pos 1) = rw e (day_step s.kind t) in
    elim soon [
      | inl l ↦ omega (arith, ints, step, l, near, more, few)
      | inr l ↦ omega (arith, ints, step, l, high, more, few)
    ]

-- a number whose day is not far is not great
pub number_high : (k : Kind) (t : ℤ) → day_part k t ≤ℤ pos 2_400_000_000_000 → t ≤ℤ pos 300_000_000_000_000_000
number_high Days t h = omega (arith, ints, h)
number_high Moments t h =
    let a = floor_whole t 86_400 (omega arith) in
    let b = floor_mod_below t 86_400 (omega arith) in
    omega (arith, ints, a, b, h)
