-- The first differences of two sequences of two kinds.
use Rattle.std.proofs.Common.{◌≡◌, ◌⊎◌, inl, inr, ℕ, ◌+◌, ◌≤◌, List, [], ◌∷◌, ◌++◌, length, get_or, Option, None, Some, ℤ, pos, ◌+ℤ◌, ◌≤ℤ◌, ◌<ℤ◌, All, Contains, refl, sym, ap, subst, ◌∙◌, arith}
use Rattle.std.specs.Prelude.{IfNone, IfSome}
use Rattle.std.proofs.lemmas.Int.{ints, by_lt_z}
use Rattle.std.proofs.lemmas.List.Elements.{All-push, Contains-append_left, Contains-get_or, Contains-push, Contains-push_cases}
use Rattle.rr_model.specs.Bounds.{earliest_near}
use Rattle.rr_model.specs.Moment.{day_part, moment_at}
use Rattle.rr_model.specs.Sets.Sketch.{IsEmptySketch, IsFirstDay, StandsIn}
use Rattle.rr_model.specs.Sets.Verdict.{HoldsOnlyOf}
use Rattle.rr_model.specs.declared.sketch.Sketch.{Sketch}
use Rattle.rr_model.specs.declared.verdict.Side.{Side}
use Rattle.rr_model.specs.declared.verdict.Side.TheVariants.{A, B, Both}
use Rattle.rr_model.proofs.OrderLemmas.{Before-trans, day_mono}
use Rattle.rr_model.proofs.RisingSetLemmas.{Contains-none}
use Rattle.rr_decide.proofs.StandsLemmas.{nothing_stands}
use Rattle.rr_next.specs.Next.{HasNoneFrom, IsSoon}
use Rattle.rr_next.proofs.TakenLemmas.{number_high}
use Rattle.rr_differ.specs.Apart.{IsLesser, IsNextOf, IsPending, IsPendingAt, IsWithinSteps, difference_in}
use Rattle.rr_differ.specs.Differences.{AreFirstDifferences, AreInOrder, ComesBefore, IsDifference, IsUpToMaxDay}
use Rattle.rr_differ.specs.declared.difference.Difference.{Difference}
use Rattle.rr_differ.proofs.FoundLemmas.{before_of_less, day_step, earlier_day}
use Rattle.rr_differ.proofs.OrderLemmas.{one_difference, order_push}

-- ---- one set

-- the next occurrence from a number on, or that there is none
abbrev pub IsNextOrNone : Sketch → Side → ℤ → Option Difference → Type 0
IsNextOrNone s side at None = HasNoneFrom s None at
IsNextOrNone s side at (Some d) = IsNextOf s side at d

pub next_or_none : (s : Sketch) (side : Side) (at : ℤ) (next : Option Difference) → IfNone next (HasNoneFrom s None at)
    → IfSome next (IsNextOf s side at) → IsNextOrNone s side at next
next_or_none s side at None none some = none
next_or_none s side at (Some d) none some = some

module _ (s : Sketch) (side : Side) where
  pub kind_of : (d : Difference) → d ≡ difference_in s side d.at → d.kind ≡ s.kind
  kind_of d e = ap (λ (x : Difference). x.kind) e

  pub side_of : (d : Difference) → d ≡ difference_in s side d.at → d.side ≡ side
  side_of d e = ap (λ (x : Difference). x.side) e

  -- the first of a set, if none stands before the number from which on it is the next
  pub first_pending : (at : ℤ) (next : Option Difference) → ((t : ℤ) → t <ℤ at → StandsIn s s.kind t → ⊥) → IsNextOrNone s side at next
      → IsPending s side [] next
  first_pending at None early none = λ t h.
      by_lt_z {P = Contains [] (difference_in s side t)} t at (λ l. absurd (early t l h)) (λ g. absurd (none t g tt h))
  first_pending at (Some d) early one = record {
    is = one.is;
    stands = one.next.stands;
    lesser = λ t l h. by_lt_z {P = Contains [] (difference_in s side t)} t at
        (λ m. absurd (early t m h)) (λ g. absurd (one.next.none_earlier t g l h));
    last = λ e c. absurd (Contains-none e c);
  }

  -- the first of a set whose first occupied day this is
  pub first_of_day : (day at : ℤ) (next : Option Difference) → IsFirstDay s (Some day) → at ≡ moment_at s.kind day 0
      → IfNone next (HasNoneFrom s None at) → IfSome next (IsNextOf s side at) → IsPending s side [] next
  first_of_day day at next first e none some =
      first_pending at next
      (λ t l h. nothing_stands s s.kind t (first.1 (day_part s.kind t) (earlier_day s.kind day t at e l)) h)
      (next_or_none s side at next none some)

  -- an empty set has none
  pub none_of_empty : IsEmptySketch s → IsPending s side [] None
  none_of_empty empty t h = absurd (nothing_stands s s.kind t (empty (day_part s.kind t)) h)

  -- those of the set up to the one that is taken were found
  found_up_to : (found : List Difference) (d : Difference) (t : ℤ) → IsPendingAt s side found d → t <ℤ (d.at +ℤ pos 1) → StandsIn s s.kind t
      → Contains (found ++ d ∷ []) (difference_in s side t)
  found_up_to found d t taken l h = by_lt_z {P = Contains (found ++ d ∷ []) (difference_in s side t)} t d.at
      (λ m. Contains-append_left found (d ∷ []) (difference_in s side t) (taken.lesser t m h))
      (λ g.
      let e : d.at ≡ t = omega (arith, ints, l, g) in
      subst (Contains (found ++ d ∷ [])) (taken.is ∙ ap (difference_in s side) e) (Contains-push found d))

  -- the set whose occurrence is taken
  pub pending_after : (found : List Difference) (d : Difference) (after : ℤ) (next : Option Difference) → IsPendingAt s side found d
      → after ≡ d.at +ℤ pos 1 → IsNextOrNone s side after next → IsPending s side (found ++ d ∷ []) next
  pending_after found d after None taken e none = λ t h.
      by_lt_z {P = Contains (found ++ d ∷ []) (difference_in s side t)} t after
      (λ l. found_up_to found d t taken (omega (arith, ints, l, e)) h) (λ g. absurd (none t g tt h))
  pending_after found d after (Some f) taken e one =
      let later : d.at <ℤ f.at = (let a = one.next.not_before in omega (arith, ints, a, e)) in
      let order : ComesBefore d f = rw (kind_of d taken.is, kind_of f one.is) (before_of_less s.kind d.at f.at later) in
      record {
        is = one.is;
        stands = one.next.stands;
        lesser = λ t l h. by_lt_z {P = Contains (found ++ d ∷ []) (difference_in s side t)} t after
            (λ m. found_up_to found d t taken (omega (arith, ints, m, e)) h) (λ g. absurd (one.next.none_earlier t g l h));
        last = λ g c. elim (Contains-push_cases found d g c) [
          | inl there ↦ Before-trans g.kind g.at d.kind d.at f.kind f.at (taken.last g there) order
          | inr is ↦ subst (λ x. ComesBefore x f) is order
        ];
      }

  -- the other set, if what is taken comes before what it has next
  pub pending_still : (found : List Difference) (d : Difference) (next : Option Difference) → IsPending s side found next → IfSome next (ComesBefore d)
      → IsPending s side (found ++ d ∷ []) next
  pending_still found d None all before = λ t h. Contains-append_left found (d ∷ []) (difference_in s side t) (all t h)
  pending_still found d (Some f) one before = record {
    is = one.is;
    stands = one.stands;
    lesser = λ t l h. Contains-append_left found (d ∷ []) (difference_in s side t) (one.lesser t l h);
    last = λ g c. elim (Contains-push_cases found d g c) [
      | inl there ↦ one.last g there
      | inr is ↦ subst (λ x. ComesBefore x f) is before
    ];
  }

  -- an occurrence was found, or all that were found come before it
  pub found_or_later : (found : List Difference) (next : Option Difference) (e : Difference) → IsPending s side found next → e ≡ difference_in s side e.at
      → StandsIn s s.kind e.at → Contains found e ⊎ ((g : Difference) → Contains found g → ComesBefore g e)
  found_or_later found None e all is h = inl (subst (Contains found) (sym is) (all e.at h))
  found_or_later found (Some d) e one is h =
      by_lt_z {P = Contains found e ⊎ ((g : Difference) → Contains found g → ComesBefore g e)} e.at d.at
      (λ l. inl (subst (Contains found) (sym is) (one.lesser e.at l h)))
      (λ m. by_lt_z {P = Contains found e ⊎ ((g : Difference) → Contains found g → ComesBefore g e)} d.at e.at
      (λ l.
      let order : ComesBefore d e = rw (kind_of d one.is, kind_of e is) (before_of_less s.kind d.at e.at l) in
      inr (λ g c. Before-trans g.kind g.at d.kind d.at e.kind e.at (one.last g c) order))
      (λ n.
      let at : d.at ≡ e.at = omega (arith, ints, m, n) in
      let same : d ≡ e = one.is ∙ ap (difference_in s side) at ∙ sym is in
      inr (λ g c. subst (ComesBefore g) same (one.last g c))))

  -- if none is left, all were found
  pub all_found : (found : List Difference) (e : Difference) → IsPending s side found None → e ≡ difference_in s side e.at → StandsIn s s.kind e.at
      → Contains found e
  all_found found e all is h = subst (Contains found) (sym is) (all e.at h)

-- a difference on a side is an occurrence of its set
pub of_set : (s : Sketch) (side : Side) (d : Difference) → d.side ≡ side → StandsIn s d.kind d.at → (d ≡ difference_in s side d.at) × StandsIn s s.kind d.at
of_set s side d e h =
    (one_difference d.kind s.kind d.at d.at d.side side h.kind refl e, subst (λ k. StandsIn s k d.at) h.kind h)

-- ---- both sets

-- what is found so far of two sets
pub record AreFoundApart (s u : Sketch) (found : List Difference) (next_a next_b : Option Difference) : Type 0 where
  pub in_order : AreInOrder found
  pub differ : All (IsDifference (StandsIn s) (StandsIn u)) found
  pub days : All IsUpToMaxDay found
  pub of_a : IsPending s A found next_a
  pub of_b : IsPending u B found next_b

module _ (s u : Sketch) (apart : s.kind ≡ u.kind → ⊥) where
  -- what one has the other has not
  differs_a : (found : List Difference) (d : Difference) → IsPendingAt s A found d → IsDifference (StandsIn s) (StandsIn u) d
  differs_a found d one =
      subst (IsDifference (StandsIn s) (StandsIn u)) (sym one.is) (one.stands, λ h. apart h.kind)

  differs_b : (found : List Difference) (d : Difference) → IsPendingAt u B found d → IsDifference (StandsIn s) (StandsIn u) d
  differs_b found d one =
      subst (IsDifference (StandsIn s) (StandsIn u)) (sym one.is) (one.stands, λ h. apart (sym h.kind))

  pub nothing_found : (next_a next_b : Option Difference) → IsPending s A [] next_a → IsPending u B [] next_b → AreFoundApart s u [] next_a next_b
  nothing_found next_a next_b a b = record {
    in_order = tt;
    differ = λ k e l. absurd (omega arith);
    days = λ k e l. absurd (omega arith);
    of_a = a;
    of_b = b;
  }

  -- what is taken on side A is what comes next in the first set
  pub of_first : (found : List Difference) (d : Difference) (next_a next_b : Option Difference) → AreFoundApart s u found next_a next_b
      → IsLesser next_a next_b (Some d) → d.side ≡ A → (next_a ≡ Some d) × IfSome next_b (ComesBefore d)
  of_first found d next_a next_b h (inl first) side = first
  of_first found d next_a next_b h (inr second) side =
      let one : IsPending u B found (Some d) = subst (IsPending u B found) second.0 h.of_b in
      let other : d.side ≡ B = side_of u B d one.is in
      absurd (cc)

  -- what is not taken on side A is what comes next in the second set
  pub of_second : (found : List Difference) (d : Difference) (next_a next_b : Option Difference) → AreFoundApart s u found next_a next_b
      → IsLesser next_a next_b (Some d) → (d.side ≡ A → ⊥) → (next_b ≡ Some d) × IfSome next_a (ComesBefore d)
  of_second found d next_a next_b h (inr second) other = second
  of_second found d next_a next_b h (inl first) other =
      let one : IsPending s A found (Some d) = subst (IsPending s A found) first.0 h.of_a in
      absurd (other (side_of s A d one.is))

  -- the one of the first set is taken
  pub taken_a : (found : List Difference) (d : Difference) (after : ℤ) (next next_b : Option Difference) → AreFoundApart s u found (Some d) next_b
      → IfSome next_b (ComesBefore d) → IsUpToMaxDay d → after ≡ d.at +ℤ pos 1 → IsNextOrNone s A after next
      → AreFoundApart s u (found ++ d ∷ []) next next_b
  taken_a found d after next next_b h before day e one = record {
    in_order = order_push found d h.in_order h.of_a.last;
    differ = All-push (IsDifference (StandsIn s) (StandsIn u)) found d h.differ (differs_a found d h.of_a);
    days = All-push IsUpToMaxDay found d h.days day;
    of_a = pending_after s A found d after next h.of_a e one;
    of_b = pending_still u B found d next_b h.of_b before;
  }

  -- the one of the second set is taken
  pub taken_b : (found : List Difference) (d : Difference) (after : ℤ) (next next_a : Option Difference) → AreFoundApart s u found next_a (Some d)
      → IfSome next_a (ComesBefore d) → IsUpToMaxDay d → after ≡ d.at +ℤ pos 1 → IsNextOrNone u B after next
      → AreFoundApart s u (found ++ d ∷ []) next_a next
  taken_b found d after next next_a h before day e one = record {
    in_order = order_push found d h.in_order h.of_b.last;
    differ = All-push (IsDifference (StandsIn s) (StandsIn u)) found d h.differ (differs_b found d h.of_b);
    days = All-push IsUpToMaxDay found d h.days day;
    of_a = pending_still s A found d next_a h.of_a before;
    of_b = pending_after u B found d after next h.of_b e one;
  }

  -- as many as are asked for
  pub enough_apart : (n : ℕ) (found : List Difference) (next_a next_b : Option Difference) → AreFoundApart s u found next_a next_b → length found ≡ n
      → AreFirstDifferences (StandsIn s) (StandsIn u) n found
  enough_apart n found next_a next_b h full = record {
    in_order = h.in_order;
    few = omega (arith, full);
    differ = h.differ;
    first = λ (e : Difference) g. elim (placed e e.side refl g) [
      | inl there ↦ inl there
      | inr later ↦ inr (full, λ k d l. later (get_or found k d) (Contains-get_or found k d l))
    ];
  }
    where
      placed : (e : Difference) (side : Side) → e.side ≡ side → IsDifference (StandsIn s) (StandsIn u) e
          → Contains found e ⊎ ((g : Difference) → Contains found g → ComesBefore g e)
      placed e A is g =
          let only = subst (λ x. HoldsOnlyOf x (StandsIn s e.kind e.at) (StandsIn u e.kind e.at)) is g in
          let one = of_set s A e is only.0 in
          found_or_later s A found next_a e h.of_a one.0 one.1
      placed e B is g =
          let only = subst (λ x. HoldsOnlyOf x (StandsIn s e.kind e.at) (StandsIn u e.kind e.at)) is g in
          let one = of_set u B e is only.0 in
          found_or_later u B found next_b e h.of_b one.0 one.1
      placed e Both is g = absurd (subst (λ x. HoldsOnlyOf x (StandsIn s e.kind e.at) (StandsIn u e.kind e.at)) is g)

  -- there are no more
  no_more_apart : (n : ℕ) (found : List Difference) → AreFoundApart s u found None None → length found ≤ n
      → AreFirstDifferences (StandsIn s) (StandsIn u) n found
  no_more_apart n found h few = record {
    in_order = h.in_order;
    few = few;
    differ = h.differ;
    first = λ (e : Difference) g. inl (there e e.side refl g);
  }
    where
      there : (e : Difference) (side : Side) → e.side ≡ side → IsDifference (StandsIn s) (StandsIn u) e → Contains found e
      there e A is g =
          let only = subst (λ x. HoldsOnlyOf x (StandsIn s e.kind e.at) (StandsIn u e.kind e.at)) is g in
          let one = of_set s A e is only.0 in
          all_found s A found e h.of_a one.0 one.1
      there e B is g =
          let only = subst (λ x. HoldsOnlyOf x (StandsIn s e.kind e.at) (StandsIn u e.kind e.at)) is g in
          let one = of_set u B e is only.0 in
          all_found u B found e h.of_b one.0 one.1
      there e Both is g = absurd (subst (λ x. HoldsOnlyOf x (StandsIn s e.kind e.at) (StandsIn u e.kind e.at)) is g)

  -- neither has a next one
  pub none_left : (n : ℕ) (found : List Difference) (next_a next_b : Option Difference) → AreFoundApart s u found next_a next_b
      → IsLesser next_a next_b None → length found ≤ n → AreFirstDifferences (StandsIn s) (StandsIn u) n found
  none_left n found next_a next_b h none few =
      no_more_apart n found
      (subst (λ o. AreFoundApart s u found o None) none.0 (subst (λ o. AreFoundApart s u found next_a o) none.1 h)) few

-- ---- how far it goes

-- the number of what lies within few steps is not great
pub not_great : (n : ℕ) (d : Difference) → IsWithinSteps n d → n ≤ 10_001 → (d.at ≤ℤ pos 300_000_000_000_000_000) × IsUpToMaxDay d
not_great n d near few =
    let high = near.1 in (
      number_high d.kind d.at (omega (arith, ints, high, few)),
      omega (arith, ints, high, few),
    )

pub steps_after : (s : Sketch) (side : Side) (d f : Difference) (after : ℤ) (n m : ℕ) → s.settled ≤ℤ pos 1_000_000_000 → s.period ≤ 16_777_216
    → d ≡ difference_in s side d.at → IsNextOf s side after f → IsWithinSteps n d → after ≡ d.at +ℤ pos 1
    → IsSoon s (day_part s.kind after +ℤ pos 1) (day_part s.kind f.at) → m ≡ n + 1 → IsWithinSteps m f
steps_after s side d f after n m high few is one near e soon more =
    let step : day_part s.kind after ≤ℤ (day_part s.kind d.at +ℤ pos 1) = rw e (day_step s.kind d.at) in
    let low = day_mono s.kind d.at f.at (let a = one.next.not_before in omega (arith, ints, a, e)) in
    let of_d : day_part d.kind d.at ≡ day_part s.kind d.at = ap (λ k. day_part k d.at) (kind_of s side d is) in
    let of_f : day_part f.kind f.at ≡ day_part s.kind f.at = ap (λ k. day_part k f.at) (kind_of s side f one.is) in
    let early = near.0 in
    let late = near.1 in (
      omega (arith, ints, of_d, of_f, low, early),
      elim soon [
        | inl l ↦ omega (arith, ints, of_d, of_f, step, l, late, more, few)
        | inr l ↦ omega (arith, ints, of_f, l, high, more, few)
      ],
    )

-- the first step
one_step : (s : Sketch) (side : Side) (d : Difference) (at : ℤ) → s.settled ≤ℤ pos 1_000_000_000 → s.period ≤ 16_777_216
    → earliest_near ≤ℤ day_part s.kind at → day_part s.kind at ≤ℤ pos 1_000_000_000 → IsNextOf s side at d
    → IsSoon s (day_part s.kind at +ℤ pos 1) (day_part s.kind d.at) → IsWithinSteps 1 d
one_step s side d at high few early late one soon =
    let low = day_mono s.kind at d.at one.next.not_before in
    let of_d : day_part d.kind d.at ≡ day_part s.kind d.at = ap (λ k. day_part k d.at) (kind_of s side d one.is) in (
      omega (arith, ints, of_d, low, early),
      elim soon [
        | inl l ↦ omega (arith, ints, of_d, l, late, few)
        | inr l ↦ omega (arith, ints, of_d, l, high, few)
      ],
    )

pub first_step : (s : Sketch) (side : Side) (next : Option Difference) (at : ℤ) → s.settled ≤ℤ pos 1_000_000_000 → s.period ≤ 16_777_216
    → earliest_near ≤ℤ day_part s.kind at → day_part s.kind at ≤ℤ pos 1_000_000_000 → IfSome next (IsNextOf s side at)
    → IfSome next (λ d. IsSoon s (day_part s.kind at +ℤ pos 1) (day_part s.kind d.at)) → IfSome next (IsWithinSteps 1)
first_step s side None at high few early late one soon = tt
first_step s side (Some d) at high few early late one soon = one_step s side d at high few early late one soon

-- one step more, if there is a next one
pub step_after : (s : Sketch) (side : Side) (d : Difference) (next : Option Difference) (after : ℤ) (n m : ℕ) → s.settled ≤ℤ pos 1_000_000_000
    → s.period ≤ 16_777_216 → d ≡ difference_in s side d.at → IfSome next (IsNextOf s side after) → IsWithinSteps n d → after ≡ d.at +ℤ pos 1
    → IfSome next (λ f. IsSoon s (day_part s.kind after +ℤ pos 1) (day_part s.kind f.at)) → m ≡ n + 1 → IfSome next (IsWithinSteps m)
step_after s side d None after n m high few is one near e soon more = tt
step_after s side d (Some f) after n m high few is one near e soon more = steps_after s side d f after n m high few is one near e soon more

-- steps more
pub more_steps : (n m : ℕ) (next : Option Difference) → n ≤ m → IfSome next (IsWithinSteps n) → IfSome next (IsWithinSteps m)
more_steps n m None l h = tt
more_steps n m (Some d) l h = (let low = h.0 in low, let high = h.1 in omega (arith, ints, high, l))
