-- What a walk over days shows.
use Rattle.std.proofs.Common.{◌≡◌, ◌↔◌, inl, inr, Bool, true, false, not, List, Contains, Option, None, Some, ℤ, pos, neg_ℤ, ◌+ℤ◌, ◌*ℤ◌, ◌≤ℤ◌, ◌<ℤ◌, sym, subst, arith}
use Rattle.std.specs.Prelude.{IsTrue}
use Rattle.std.specs.Option.{is_some}
use Rattle.std.proofs.lemmas.Bool.{false≢true}
use Rattle.std.proofs.lemmas.Int.{ints, by_lt_z}
use Rattle.rr_model.specs.Moment.{Before, Occurrences, day_part, second_part}
use Rattle.rr_model.specs.Sets.Sketch.{StandsIn}
use Rattle.rr_model.specs.Sets.Verdict.{HaveEqualOccurrences, HoldsOnlyOf, IsEqualVerdict}
use Rattle.rr_model.specs.declared.kind.Kind.{Kind}
use Rattle.rr_model.specs.declared.kind.Kind.TheVariants.{Days, Moments}
use Rattle.rr_model.specs.declared.sketch.Sketch.{Sketch}
use Rattle.rr_model.specs.declared.verdict.Side.{Side}
use Rattle.rr_model.specs.declared.verdict.Side.TheVariants.{A, B, Both}
use Rattle.rr_model.proofs.DaysAndTimesLemmas.{moment_is, second_part-below}
use Rattle.rr_true.specs.Occurrences.{TrueOf}
use Rattle.rr_utc.specs.Between.{AgreeBefore, AgreeBetween, IsFirstBetween, IsFirstOnly}
use Rattle.rr_utc.specs.Days.{AreTrueOn}
use Rattle.rr_utc.specs.Walks.{LastsFrom, NamesNear, verdict_of}
use Rattle.rr_utc.specs.declared.only.Only.{Only}

-- ---- one day

-- a moment between two midnights lies on the day
on_day : (u day : ℤ) → (day *ℤ pos 86_400) ≤ℤ u → u <ℤ ((day +ℤ pos 1) *ℤ pos 86_400) → day_part Moments u ≡ day
on_day u day low high =
    let is : u ≡ (day_part Moments u *ℤ pos 86_400) +ℤ pos (second_part Moments u) = moment_is Moments u in
    let below = second_part-below Moments u in
    omega (arith, ints, is, below, low, high)

day_low : (u day : ℤ) → day_part Moments u ≡ day → (day *ℤ pos 86_400) ≤ℤ u
day_low u day e =
    let is : u ≡ (day_part Moments u *ℤ pos 86_400) +ℤ pos (second_part Moments u) = moment_is Moments u in
    omega (arith, ints, is, e)

day_high : (u day : ℤ) → day_part Moments u ≡ day → u <ℤ ((day +ℤ pos 1) *ℤ pos 86_400)
day_high u day e =
    let is : u ≡ (day_part Moments u *ℤ pos 86_400) +ℤ pos (second_part Moments u) = moment_is Moments u in
    let below = second_part-below Moments u in
    omega (arith, ints, is, below, e)

module _ (s u : Sketch) (f g : ℤ → ℤ) (day : ℤ) (xs ys : List ℤ) (of_a : AreTrueOn f s day xs) (of_b : AreTrueOn g u day ys) where
  P : Occurrences
  P = TrueOf f (StandsIn s)

  Q : Occurrences
  Q = TrueOf g (StandsIn u)

  has_a : (v : ℤ) → day_part Moments v ≡ day → Contains xs v ↔ TrueOf f (StandsIn s) Moments v
  has_a v on = (λ c. ((of_a v).0 c).1, λ r. (of_a v).1 (on, r))

  has_b : (v : ℤ) → day_part Moments v ≡ day → Contains ys v ↔ TrueOf g (StandsIn u) Moments v
  has_b v on = (λ c. ((of_b v).0 c).1, λ r. (of_b v).1 (on, r))

  same_at : (v : ℤ) → day_part Moments v ≡ day → Contains xs v ↔ Contains ys v → TrueOf f (StandsIn s) Moments v ↔ TrueOf g (StandsIn u) Moments v
  same_at v on same = (λ r. (has_b v on).0 (same.0 ((has_a v on).1 r)), λ r. (has_a v on).0 (same.1 ((has_b v on).1 r)))

  pub day_shows : (only : Option Only) → IsFirstOnly xs ys only
      → IsFirstBetween (TrueOf f (StandsIn s)) (TrueOf g (StandsIn u)) (day *ℤ pos 86_400) ((day +ℤ pos 1) *ℤ pos 86_400) only
  day_shows None same =
      λ v low high. same_at v (on_day v day low high) (subst (λ (l : List ℤ). Contains xs v ↔ Contains l v) same ((λ c. c), (λ c. c)))
  day_shows (Some only) (alone, less) =
      let on : day_part Moments only.at ≡ day = lies only.side alone in (
        day_low only.at day on,
        day_high only.at day on,
        holds only.side on alone,
        λ v low high. (let l = day_high only.at day on in same_at v (on_day v day low (omega (arith, ints, high, l))) (less v high)),
      )
    where
      lies : (side : Side) → HoldsOnlyOf side (Contains xs only.at) (Contains ys only.at) → day_part Moments only.at ≡ day
      lies A (has, lacks) = ((of_a only.at).0 has).0
      lies B (has, lacks) = ((of_b only.at).0 has).0
      lies Both none = absurd none

      holds : (side : Side) → day_part Moments only.at ≡ day → HoldsOnlyOf side (Contains xs only.at) (Contains ys only.at)
          → HoldsOnlyOf side (TrueOf f (StandsIn s) Moments only.at) (TrueOf g (StandsIn u) Moments only.at)
      holds A on (has, lacks) = ((has_a only.at on).0 has, λ r. lacks ((has_b only.at on).1 r))
      holds B on (has, lacks) = ((has_b only.at on).0 has, λ r. lacks ((has_a only.at on).1 r))
      holds Both on none = none

-- ---- one day after another

pub joined : (P Q : Occurrences) (from mid end : ℤ) → AgreeBetween P Q from mid → AgreeBetween P Q mid end → AgreeBetween P Q from end
joined P Q from mid end first second t low high =
    by_lt_z {P = P Moments t ↔ Q Moments t} t mid (λ l. first t low l) (λ l. second t l high)

-- the same within a shorter time
pub agree_sooner : (P Q : Occurrences) (from start mid end : ℤ) → start ≤ℤ from → end ≤ℤ mid → AgreeBetween P Q start mid → AgreeBetween P Q from end
agree_sooner P Q from start mid end l m same t low high = same t (omega (arith, ints, low, l)) (omega (arith, ints, high, m))

-- what is found after moments at which the two agree is what is found from the first of them on
pub found_later : (P Q : Occurrences) (from mid next end : ℤ) (only : Only) → from ≤ℤ mid → next ≤ℤ end → AgreeBetween P Q from mid
    → IsFirstBetween P Q mid next (Some only) → IsFirstBetween P Q from end (Some only)
found_later P Q from mid next end only l m same (low, high, alone, less) =
    (omega (arith, ints, l, low), omega (arith, ints, m, high), alone, joined P Q from mid only.at same less)

-- ---- the verdict

no_days : Moments ≡ Days → ⊥
no_days e = subst (λ k. elim k as (λ k. Type 0) [ Days ↦ ⊥ | Moments ↦ Unit {0} ]) e tt

before_moment : (v at : ℤ) → Before Moments v Moments at → v <ℤ at
before_moment v at (inl l) = l
before_moment v at (inr e) = absurd (no_days e.1)

agree_before : (P Q : Occurrences) (from end : ℤ) → AgreeBefore P Q from → AgreeBetween P Q from end → AgreeBefore P Q end
agree_before P Q from end first second t l =
    by_lt_z {P = P Moments t ↔ Q Moments t} t from (λ m. first t m) (λ m. second t m l)

-- what is known of a moment is known of it under its kind
under : (P Q : Occurrences) (k : Kind) (v : ℤ) → k ≡ Moments → (P Moments v → Q Moments v) → P k v → Q k v
under P Q k v e m r = subst (λ l. Q l v) (sym e) (m (subst (λ l. P l v) e r))

-- of sets without dates a walk shows the verdict: before it the two agree, and what agrees up to its end agrees for ever
decides : (P Q : Occurrences) → ((k : Kind) (v : ℤ) → P k v → k ≡ Moments) → ((k : Kind) (v : ℤ) → Q k v → k ≡ Moments) → (from end : ℤ)
    → AgreeBefore P Q from → LastsFrom P Q end → (shown : Option Only) → IsFirstBetween P Q from end shown → IsEqualVerdict P Q (verdict_of shown)
decides P Q kp kq from end before lasts None same = lasts (agree_before P Q from end before same)
decides P Q kp kq from end before lasts (Some only) (low, high, alone, less) = (
  alone,
  λ k v b.
      let sooner : (k ≡ Moments) → P Moments v ↔ Q Moments v =
      λ e. agree_before P Q from only.at before less v (before_moment v only.at (subst (λ l. Before l v Moments only.at) e b)) in
      ((λ r. under P Q k v (kp k v r) (sooner (kp k v r)).0 r), (λ r. under Q P k v (kq k v r) (sooner (kq k v r)).1 r)),
)

-- what is named between two days is near
pub near_named : (P Q : Occurrences) (from end : ℤ) → neg_ℤ (pos 2_000_000_000) ≤ℤ from → end ≤ℤ pos 2_000_000_000 → (found : Option Only)
    → IsFirstBetween P Q (from *ℤ pos 86_400) (end *ℤ pos 86_400) found → NamesNear (verdict_of found)
near_named P Q from end low high None h = tt
near_named P Q from end low high (Some only) (a, b, alone, same) = (omega (arith, ints, low, a), omega (arith, ints, high, b))

-- the same of a walk over the days of true moments of two series, as its days are stored
pub walk_decides : (s u : Sketch) (f g : ℤ → ℤ) (from end day stop : ℤ) → day ≡ from → stop ≡ end
    → AgreeBefore (TrueOf f (StandsIn s)) (TrueOf g (StandsIn u)) (from *ℤ pos 86_400)
    → LastsFrom (TrueOf f (StandsIn s)) (TrueOf g (StandsIn u)) (end *ℤ pos 86_400) → (shown : Option Only)
    → IsFirstBetween (TrueOf f (StandsIn s)) (TrueOf g (StandsIn u)) (day *ℤ pos 86_400) (stop *ℤ pos 86_400) shown
    → IsEqualVerdict (TrueOf f (StandsIn s)) (TrueOf g (StandsIn u)) (verdict_of shown)
walk_decides s u f g from end day stop ed es before lasts shown found =
    let P = TrueOf f (StandsIn s) in
    let Q = TrueOf g (StandsIn u) in
    decides P Q (λ k v r. r.kind) (λ k v r. r.kind) (day *ℤ pos 86_400) (stop *ℤ pos 86_400)
    (subst (λ z. AgreeBefore P Q (z *ℤ pos 86_400)) (sym ed) before) (subst (λ z. LastsFrom P Q (z *ℤ pos 86_400)) (sym es) lasts) shown found

-- if nothing is found the true moments are equal
pub walk_equal : (s u : Sketch) (f g : ℤ → ℤ) (from end day stop : ℤ) → day ≡ from → stop ≡ end
    → AgreeBefore (TrueOf f (StandsIn s)) (TrueOf g (StandsIn u)) (from *ℤ pos 86_400)
    → LastsFrom (TrueOf f (StandsIn s)) (TrueOf g (StandsIn u)) (end *ℤ pos 86_400) → (found : Option Only) (none : Bool) → is_some found ≡ not none → IsTrue none
    → IsFirstBetween (TrueOf f (StandsIn s)) (TrueOf g (StandsIn u)) (day *ℤ pos 86_400) (stop *ℤ pos 86_400) found
    → HaveEqualOccurrences (TrueOf f (StandsIn s)) (TrueOf g (StandsIn u))
walk_equal s u f g from end day stop ed es before lasts None none e test shown =
    walk_decides s u f g from end day stop ed es before lasts None shown
walk_equal s u f g from end day stop ed es before lasts (Some only) true e test shown = absurd (false≢true (sym e))
walk_equal s u f g from end day stop ed es before lasts (Some only) false e test shown = absurd (false≢true test)
