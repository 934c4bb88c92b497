-- The first differences of two sequences of one kind, one after the other.
use Rattle.std.proofs.Common.{◌≡◌, ◌⊎◌, inl, inr, ℕ, ◌+◌, ◌*◌, ◌≤◌, List, [], ◌∷◌, ◌++◌, length, get_or, ℤ, pos, ◌+ℤ◌, ◌≤ℤ◌, ◌<ℤ◌, All, Contains, sym, subst, ◌∙◌, arith}
use Rattle.std.proofs.lemmas.Int.{ints, by_lt_z}
use Rattle.std.proofs.lemmas.List.Elements.{Contains-append_left, Contains-get_or, Contains-push, Contains-push_cases}
use Rattle.rr_model.specs.Moment.{Before, day_part, moment_at}
use Rattle.rr_model.specs.Sets.Sketch.{IsEmptySketch, IsValidSketch, StandsIn}
use Rattle.rr_model.specs.declared.kind.Kind.{Kind}
use Rattle.rr_model.specs.declared.kind.Kind.TheVariants.{Days, Moments}
use Rattle.rr_model.specs.declared.sketch.Sketch.{Sketch}
use Rattle.rr_model.proofs.OrderLemmas.{day_mono}
use Rattle.rr_model.proofs.RisingSetLemmas.{Contains-none}
use Rattle.rr_model.proofs.WholeLemmas.{floor_mod_below, floor_whole}
use Rattle.rr_decide.specs.Question.{HasNoneBefore}
use Rattle.rr_decide.proofs.StandsLemmas.{nothing_stands}
use Rattle.rr_differ.specs.Differences.{AreFirstDifferences, AreInOrder, ComesBefore, IsDifference, IsUpToMaxDay}
use Rattle.rr_differ.specs.Next.{HaveNoneBefore, HaveNoneFrom, IsNextDifference, IsSoonAfter}
use Rattle.rr_differ.specs.declared.difference.Difference.{Difference}
use Rattle.rr_differ.proofs.NextLemmas.{kind_of_one}
use Rattle.rr_differ.proofs.OrderLemmas.{one_difference, order_push}
use Rattle.rr_differ.proofs.SideLemmas.{one_side, only_some}

pub before_of_less : (k : Kind) (t u : ℤ) → t <ℤ u → Before k t k u
before_of_less Days t u l = inl (omega (arith, ints, l))
before_of_less Moments t u l = inl l

-- a difference with a lesser number than another one
pub record IsFoundBefore (s u : Sketch) (at : ℤ) (d : Difference) : Type 0 where
  pub differs : IsDifference (StandsIn s) (StandsIn u) d
  pub before : d.at <ℤ at

-- the list is in order, and has the differences whose numbers are lesser
pub record AreSoFar (s u : Sketch) (at : ℤ) (found : List Difference) : Type 0 where
  pub in_order : AreInOrder found
  pub to : (d : Difference) → Contains found d → IsFoundBefore s u at d
  pub from : (d : Difference) → IsFoundBefore s u at d → Contains found d

pub none_yet : (s u : Sketch) (low : ℤ) → HaveNoneBefore s u low → AreSoFar s u low []
none_yet s u low none = record {
  in_order = tt;
  to = λ d c. absurd (Contains-none d c);
  from = λ d h. absurd (none d h.before h.differs);
}

module _ (s u : Sketch) (vs : IsValidSketch s) (vu : IsValidSketch u) (same : s.kind ≡ u.kind) where
  -- one with a lesser number comes before
  pub comes_before : (d e : Difference) → IsDifference (StandsIn s) (StandsIn u) d → IsDifference (StandsIn s) (StandsIn u) e → d.at <ℤ e.at
      → ComesBefore d e
  comes_before d e h g l =
      let one = kind_of_one s u vs vu same d h in
      let other = kind_of_one s u vs vu same e g in
      rw (one, other) (before_of_less s.kind d.at e.at l)

  -- differences with one number are one
  one_at : (d e : Difference) → IsDifference (StandsIn s) (StandsIn u) d → IsDifference (StandsIn s) (StandsIn u) e → d.at ≡ e.at → d ≡ e
  one_at d e h g at =
      let kind : d.kind ≡ e.kind = kind_of_one s u vs vu same d h ∙ sym (kind_of_one s u vs vu same e g) in
      let moved : IsDifference (StandsIn s) (StandsIn u) (record { kind = d.kind; at = d.at; side = e.side }) =
      subst (λ k. IsDifference (StandsIn s) (StandsIn u) (record { kind = k; at = d.at; side = e.side })) (sym kind)
      (subst (λ t. IsDifference (StandsIn s) (StandsIn u) (record { kind = e.kind; at = t; side = e.side })) (sym at) g) in
      one_difference d.kind e.kind d.at e.at d.side e.side kind at
      (one_side d.side e.side (StandsIn s d.kind d.at) (StandsIn u d.kind d.at) h moved)

  -- one more
  pub one_more : (at after : ℤ) (d : Difference) (found : List Difference) → AreSoFar s u at found → IsNextDifference s u at d → after ≡ d.at +ℤ pos 1
      → AreSoFar s u after (found ++ d ∷ [])
  one_more at after d found set next e = record {
    in_order = order_push found d set.in_order (λ f c.
        let h = set.to f c in
        comes_before f d h.differs next.differs (let a = h.before in let b = next.not_before in omega (arith, ints, a, b)));
    to = λ f c. elim (Contains-push_cases found d f c) [
      | inl there ↦
          let h = set.to f there in
          record { differs = h.differs; before = (let a = h.before in let b = next.not_before in omega (arith, ints, a, b, e)) }
      | inr is ↦ subst (IsFoundBefore s u after) is (record { differs = next.differs; before = omega (arith, ints, e) })
    ];
    from = λ f h. by_lt_z {P = Contains (found ++ d ∷ []) f} f.at at
        (λ l. Contains-append_left found (d ∷ []) f (set.from f (record { differs = h.differs; before = l })))
        (λ g. by_lt_z {P = Contains (found ++ d ∷ []) f} f.at d.at
        (λ l. absurd (next.none_earlier f g l h.differs))
        (λ m.
        let there : d.at ≡ f.at = (let b = h.before in omega (arith, ints, b, m, e)) in
        subst (Contains (found ++ d ∷ [])) (one_at d f next.differs h.differs there) (Contains-push found d)));
  }

  -- as many as are asked for
  pub enough : (at : ℤ) (n : ℕ) (found : List Difference) → AreSoFar s u at found → length found ≡ n
      → AreFirstDifferences (StandsIn s) (StandsIn u) n found
  enough at n found set full = record {
    in_order = set.in_order;
    few = omega (arith, full);
    differ = λ k e l. (set.to (get_or found k e) (Contains-get_or found k e l)).differs;
    first = λ d h. by_lt_z {P = Contains found d ⊎ ((length found ≡ n) × All (λ e. ComesBefore e d) found)} d.at at
        (λ l. inl (set.from d (record { differs = h; before = l })))
        (λ g. inr (
          full,
          λ k e l.
              let f = set.to (get_or found k e) (Contains-get_or found k e l) in
              comes_before (get_or found k e) d f.differs h (let a = f.before in omega (arith, ints, a, g)),
        ));
  }

-- there are no more
pub no_more : (s u : Sketch) (at : ℤ) (n : ℕ) (found : List Difference) → AreSoFar s u at found → length found ≤ n → HaveNoneFrom s u at
    → AreFirstDifferences (StandsIn s) (StandsIn u) n found
no_more s u at n found set few none = record {
  in_order = set.in_order;
  few = few;
  differ = λ k e l. (set.to (get_or found k e) (Contains-get_or found k e l)).differs;
  first = λ d h. by_lt_z {P = Contains found d ⊎ ((length found ≡ n) × All (λ e. ComesBefore e d) found)} d.at at
      (λ l. inl (set.from d (record { differs = h; before = l })))
      (λ g. absurd (none d g h));
}

-- if neither has an occurrence, there is no difference
pub none_at_all : (s u : Sketch) (n : ℕ) → IsEmptySketch s → IsEmptySketch u → AreFirstDifferences (StandsIn s) (StandsIn u) n []
none_at_all s u n es eu = record {
  in_order = tt;
  few = omega arith;
  differ = λ k e l. absurd (omega arith);
  first = λ d h. absurd (elim (only_some d.side (StandsIn s d.kind d.at) (StandsIn u d.kind d.at) h) [
    | inl g ↦ nothing_stands s d.kind d.at (es (day_part d.kind d.at)) g
    | inr g ↦ nothing_stands u d.kind d.at (eu (day_part d.kind d.at)) g
  ]);
}

-- ---- where it begins, and how far it goes

-- what has a lesser number than the first second of a day lies on an earlier one
pub earlier_day : (k : Kind) (day t low : ℤ) → low ≡ moment_at k day 0 → t <ℤ low → day_part k t <ℤ day
earlier_day Days day t low e l = omega (arith, ints, e, l)
earlier_day Moments day t low e l =
    let a = floor_whole t 86_400 (omega arith) in
    omega (arith, ints, a, e, l)

-- no difference has a lesser number than the first second of a day before which nothing is
pub none_before_day : (s u : Sketch) (day low : ℤ) → IsValidSketch s → IsValidSketch u → s.kind ≡ u.kind → HasNoneBefore s day → HasNoneBefore u day
    → low ≡ moment_at s.kind day 0 → HaveNoneBefore s u low
none_before_day s u day low vs vu same ns nu e d l h =
    let kind = kind_of_one s u vs vu same d h in
    let early : day_part d.kind d.at <ℤ day = rw kind (earlier_day s.kind day d.at low e l) in
    elim (only_some d.side (StandsIn s d.kind d.at) (StandsIn u d.kind d.at) h) [
      | inl g ↦ nothing_stands s d.kind d.at (ns (day_part d.kind d.at) early) g
      | inr g ↦ nothing_stands u d.kind d.at (nu (day_part d.kind d.at) early) g
    ]

-- the day of the next number is the same or the next
pub day_step : (k : Kind) (t : ℤ) → day_part k (t +ℤ pos 1) ≤ℤ (day_part k t +ℤ pos 1)
day_step Days t = omega (arith, ints)
day_step Moments t =
    let a = floor_whole t 86_400 (omega arith) in
    let b = floor_whole (t +ℤ pos 1) 86_400 (omega arith) in
    let c = floor_mod_below t 86_400 (omega arith) in
    omega (arith, ints, a, b, c)

pub near_after : (s u : Sketch) (at t after : ℤ) (n m : ℕ) → s.settled ≤ℤ pos 1_000_000_000 → u.settled ≤ℤ pos 1_000_000_000
    → s.period ≤ 16_777_216 → u.period ≤ 16_777_216 → IsSoonAfter s u (day_part s.kind at +ℤ pos 1) (day_part s.kind t) → after ≡ t +ℤ pos 1
    → day_part s.kind at ≤ℤ pos (1_000_000_001 + n * 33_554_434) → m ≡ n + 1 → day_part s.kind after ≤ℤ pos (1_000_000_001 + m * 33_554_434)
near_after s u at t after n m hs hu fs fu soon e near more =
    let step : day_part s.kind after ≤ℤ (day_part s.kind t +ℤ pos 1) = rw e (day_step s.kind t) in
    let day = soon (pos (1_000_000_002 + n * 33_554_434)) (omega (arith, ints, near)) (omega (arith, ints, hs)) (omega (arith, ints, hu)) in
    omega (arith, ints, step, day, more, fs, fu)

-- what has a lesser number lies on no greater day
day_up_to : (s : Sketch) (at : ℤ) (d : Difference) → d.kind ≡ s.kind → d.at <ℤ at → day_part s.kind at ≤ℤ pos 3_000_000_000_000 → IsUpToMaxDay d
day_up_to s at d kind l near = let a = day_mono s.kind d.at at (omega (arith, ints, l)) in rw kind (omega (arith, ints, a, near))

pub days_so_far : (s u : Sketch) (at : ℤ) (found : List Difference) → IsValidSketch s → IsValidSketch u → s.kind ≡ u.kind → AreSoFar s u at found
    → day_part s.kind at ≤ℤ pos 3_000_000_000_000 → All IsUpToMaxDay found
days_so_far s u at found vs vu same set near k e l =
    let h = set.to (get_or found k e) (Contains-get_or found k e l) in
    day_up_to s at (get_or found k e) (kind_of_one s u vs vu same (get_or found k e) h.differs) h.before near
