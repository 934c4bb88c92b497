-- Rules of whole days, walked unit by unit.
use Rattle.std.proofs.Common.{◌≡◌, ℕ, zero, suc, ◌+◌, ◌<◌, ◌≤◌, true, false, ◌&&◌, List, ℤ, pos, negsuc, nat_abs, ◌+ℤ◌, ◌-ℤ◌, ◌≤ℤ◌, ◌<ℤ◌, Contains, refl}
use Rattle.std.proofs.Common.{sym, ap, subst, ◌∙◌, inl, inr, arith}
use Rattle.std.specs.Prelude.{Option, Some, None, IsTrue, nat_lt, nat_le, int_le, int_lt}
use Rattle.std.proofs.lemmas.Int.{ints, by_lt_z}
use Rattle.std.proofs.lemmas.Bool.{cases_lt, false≢true, and_parts}
use Rattle.std.proofs.lemmas.Bool.Decides.{nat_tests}
use Rattle.rr_model.specs.Bounds.{first_day_of_all}
use Rattle.rr_lazy.specs.DayTimes.{DayTimes}
use Rattle.rr_model.specs.Whole.{divides, floor_div, floor_mod}
use Rattle.rr_model.specs.Calendar.{IsDayWithin, first_day_of_year}
use Rattle.rr_model.specs.Moment.{day_part, moment_at}
use Rattle.rr_model.specs.Moment.Units.{unit_number, unit_start}
use Rattle.rr_model.specs.Rising.Sets.{IsSetOf}
use Rattle.rr_model.specs.Moment.Years.{IsInYears}
use Rattle.rr_model.specs.Rule.Chosen.{is_chosen}
use Rattle.rr_model.specs.declared.kind.Kind.{Kind}
use Rattle.rr_model.specs.declared.kind.Kind.TheVariants.{Days}
use Rattle.rr_model.specs.declared.rule.Freq.{Freq}
use Rattle.rr_model.specs.declared.rule.Freq.TheVariants.{Secondly, Minutely, Hourly, Daily, Weekly, Monthly, Yearly}
use Rattle.rr_model.specs.declared.rule.Rule.{Rule}
use Rattle.rr_model.proofs.CalendarLemmas.{days_in_year_bounds, days_in_month_bounds, first_day_of_year-next}
use Rattle.rr_cal.proofs.StretchLemmas.{units_are_stretches}
use Rattle.rr_model.proofs.RisingSetLemmas.{set_same}
use Rattle.rr_model.specs.Moment.Units.{is_whole_days}
use Rattle.rr_model.specs.Rule.DaysAndTimes.{seconds_of, day_holds, IsCandidateDay}
use Rattle.rr_expand.specs.Expansion.{IsUnitNear}
use Rattle.rr_model.proofs.DaysAndTimesLemmas.{candidates_are_days_and_times}
use Rattle.rr_setpos.proofs.PositionLemmas.{chosen_no_candidate}
use Rattle.rr_cal.proofs.DayUnitLemmas.{week_next, month_next, unit_length}
use Rattle.rr_expand.proofs.UnitLemmas.{unit_start_near}
use Rattle.rr_expand.proofs.FitLemmas.{fits_at, first_fits, none_before, next_fits, none_between}
use Rattle.rr_model.specs.Sets.Tree.{Tree, chosen_of, stands_at}
use Rattle.rr_model.proofs.TestLemmas.{has_second_is, has_second_not}
use Rattle.rr_lazy.specs.Next.{IsFirstOccupied}
use Rattle.rr_lazy.proofs.TreeLemmas.{stands_below}
use Rattle.rr_walk.specs.Walk.{IsFirstSecond, HasNoneOf, IsFirstIn, IsFirstOf, IsFirstUpTo, IsWalked}

-- the start's day is near
pub start_near : (kind : Kind) (start day : ℤ) → day ≡ day_part kind start → IsInYears kind start → (first_day_of_all ≤ℤ day) × (day ≤ℤ pos 2_932_896)
unfolding first_day_of_year
start_near kind start day e y = (omega (arith, ints, e, y.0), omega (arith, ints, e, y.1))

-- ---- units

-- each unit of days has a day
pub unit_some : (freq : Freq) (w : ℕ) (u : ℤ) → is_whole_days freq ≡ true → unit_start freq w Days u <ℤ unit_start freq w Days (u +ℤ pos 1)
unit_some Secondly w u coarse = absurd (false≢true coarse)
unit_some Minutely w u coarse = absurd (false≢true coarse)
unit_some Hourly w u coarse = absurd (false≢true coarse)
unit_some Daily w u coarse = omega (arith, ints)
unit_some Weekly w u coarse = omega (arith, ints, week_next u w)
unit_some Monthly w u coarse = omega (arith, ints, month_next u, (days_in_month_bounds (floor_div u 12) (floor_mod u 12 + 1)).0)
unit_some Yearly w u coarse = omega (arith, ints, first_day_of_year-next u, (days_in_year_bounds u).0)

module _ (freq : Freq) (w : ℕ) (coarse : is_whole_days freq ≡ true) where
  abbrev begin : ℤ → ℤ
  begin u = unit_start freq w Days u

  abbrev unit : ℤ → ℤ
  unit d = unit_number freq w Days d

  begin_rises : (u : ℤ) (n : ℕ) → (begin u +ℤ pos n) ≤ℤ begin (u +ℤ pos n)
  begin_rises u zero = let e : u +ℤ pos 0 ≡ u = omega (arith, ints) in rw e (omega (arith, ints))
  begin_rises u (suc n) =
      let e : u +ℤ pos (suc n) ≡ (u +ℤ pos n) +ℤ pos 1 = omega (arith, ints) in
      rw e (omega (arith, ints, begin_rises u n, unit_some freq w (u +ℤ pos n) coarse))

  begin_mono : (u v : ℤ) → u ≤ℤ v → begin u ≤ℤ begin v
  begin_mono u v l = let e : v ≡ u +ℤ pos (nat_abs (v -ℤ u)) = omega (arith, ints) in rw e (omega (arith, ints, begin_rises u (nat_abs (v -ℤ u))))

  -- a unit that is not after a day's begins not after the day
  pub begun : (u d : ℤ) → u ≤ℤ unit d → begin u ≤ℤ d
  begun u d l = omega (arith, ints, begin_mono u (unit d) l, ((units_are_stretches freq w Days d (unit d)).0 refl).0)

  -- a unit that is after a day's begins after the day
  pub later : (u d : ℤ) → unit d <ℤ u → d <ℤ begin u
  later u d l = omega (arith, ints, begin_mono (unit d +ℤ pos 1) u (omega (arith, ints)), ((units_are_stretches freq w Days d (unit d)).0 refl).1)

  -- later days lie in later units, or in the same
  pub unit_mono : (d e : ℤ) → d ≤ℤ e → unit d ≤ℤ unit e
  unit_mono d e l = let P : Type 0 = unit d ≤ℤ unit e in
      by_lt_z {P = P} (unit e) (unit d) (λ m. absurd (omega (arith, ints, later (unit d) e m, begun (unit d) d (omega (arith, ints))))) (λ g. g)

  -- a day's unit is near, as the day is
  pub unit_bounds : (d : ℤ) → w ≤ 255 → IsDayWithin 1000 d → (negsuc 7_000_000_000_000 ≤ℤ unit d) × (unit d ≤ℤ pos 7_000_000_000_000)
  unit_bounds d low near = (below, above)
    where
      zero_near : IsDayWithin 1000 (begin (pos 0))
      zero_near = unit_start_near freq w (pos 0) coarse low (omega (arith, ints), omega (arith, ints))

      s : (begin (unit d) ≤ℤ d) × (d <ℤ begin (unit d +ℤ pos 1))
      s = (units_are_stretches freq w Days d (unit d)).0 refl

      above : unit d ≤ℤ pos 7_000_000_000_000
      above = let P : Type 0 = unit d ≤ℤ pos 7_000_000_000_000 in by_lt_z {P = P} (pos 0) (unit d)
          (λ l. (let e : pos 0 +ℤ pos (nat_abs (unit d)) ≡ unit d = omega (arith, ints) in
          let r : (begin (pos 0) +ℤ pos (nat_abs (unit d))) ≤ℤ begin (unit d) =
          subst (λ x. (begin (pos 0) +ℤ pos (nat_abs (unit d))) ≤ℤ begin x) e (begin_rises (pos 0) (nat_abs (unit d))) in
          omega (arith, ints, r, zero_near.0, near.1, s.0)))
          (λ g. omega (arith, ints))

      below : negsuc 7_000_000_000_000 ≤ℤ unit d
      below = let P : Type 0 = negsuc 7_000_000_000_000 ≤ℤ unit d in by_lt_z {P = P} (unit d) (pos 0)
          (λ l. (let n : ℕ = nat_abs (unit d +ℤ pos 1) in let e : (unit d +ℤ pos 1) +ℤ pos n ≡ pos 0 = omega (arith, ints) in
          let r : (begin (unit d +ℤ pos 1) +ℤ pos n) ≤ℤ begin (pos 0) =
          subst (λ x. (begin (unit d +ℤ pos 1) +ℤ pos n) ≤ℤ begin x) e (begin_rises (unit d +ℤ pos 1) n) in
          omega (arith, ints, r, zero_near.1, near.0, s.1)))
          (λ g. omega (arith, ints))

  -- a unit that holds a day of the calls begins and ends near
  day_unit_near : (d : ℤ) → IsDayWithin 0 d → IsDayWithin 400 (begin (unit d)) × IsDayWithin 400 (begin (unit d +ℤ pos 1))
  day_unit_near d near =
      let n = unit_length freq w (unit d) coarse in
      let s = (units_are_stretches freq w Days d (unit d)).0 refl in (
        (omega (arith, ints, near.0, s.1, n.1, n.2), omega (arith, ints, near.1, s.0)),
        (omega (arith, ints, near.0, s.1), omega (arith, ints, near.1, s.0, n.1, n.2)),
      )

  -- a unit between those of two days begins and ends near
  pub between_near : (u d e : ℤ) → unit d ≤ℤ u → u ≤ℤ unit e → IsDayWithin 0 d → IsDayWithin 0 e
      → IsDayWithin 400 (begin u) × IsDayWithin 400 (begin (u +ℤ pos 1))
  between_near u d e l h near_d near_e =
      let a = (day_unit_near d near_d).0 in
      let b = (day_unit_near e near_e).1 in
      let m = begin_mono (unit d) u l in
      let n = begin_mono (u +ℤ pos 1) (unit e +ℤ pos 1) (omega (arith, ints, h)) in
      let o = begin_mono u (u +ℤ pos 1) (omega (arith, ints)) in
      ((omega (arith, ints, a.0, m), omega (arith, ints, b.1, n, o)), (omega (arith, ints, a.0, m, o), omega (arith, ints, b.1, n)))

-- a unit of a day is near
pub unit_near_is : (freq : Freq) (w : ℕ) (d u d' : ℤ) → is_whole_days freq ≡ true → w ≤ 255 → IsDayWithin 1000 d → d' ≡ d → u ≡ unit_number freq w Days d'
    → IsUnitNear u
unit_near_is freq w d u d' coarse low near e f = let b = unit_bounds freq w coarse d low near in let g : u ≡ unit_number freq w Days d =
    f ∙ ap (unit_number freq w Days) e in (omega (arith, ints, g, b.0), omega (arith, ints, g, b.1))

-- ---- what stands on a day

module _ (rule : Rule) (kind : Kind) (start : ℤ) (coarse : is_whole_days rule.freq ≡ true) where
  abbrev tree : Tree
  tree = chosen_of rule kind start

  stands_is : (d : ℤ) (s : ℕ) → s < seconds_of kind → stands_at tree d s ≡ (is_chosen rule kind start (moment_at kind d s) && int_le start (moment_at kind d s))
  stands_is d s l = rw (has_second_is kind s l) refl

  not_chosen : (d : ℤ) (s : ℕ) → s < seconds_of kind → day_holds rule (day_part kind start) d ≡ false → is_chosen rule kind start (moment_at kind d s) ≡ false
  not_chosen d s l e = chosen_no_candidate rule kind start (moment_at kind d s) (candidates_are_days_and_times rule kind start d s coarse l ∙ rw e refl)

  -- a day of which no second is chosen is not occupied
  pub none_chosen : (d : ℤ) (s : ℕ) → ((t : ℕ) → t < seconds_of kind → is_chosen rule kind start (moment_at kind d t) ≡ false) → stands_at tree d s ≡ false
  none_chosen d s none =
      elim (cases_lt s (seconds_of kind)) [ inl l ↦ stands_is d s l ∙ (rw (none s l) refl) | inr g ↦ (rw (has_second_not kind s g) refl) ]

  -- a day that is no candidate is not occupied
  pub no_candidate : (d : ℤ) (s : ℕ) → day_holds rule (day_part kind start) d ≡ false → stands_at tree d s ≡ false
  no_candidate d s e = none_chosen d s (λ t l. not_chosen d t l e)

  -- the chosen seconds of a day from the start on
  pub seconds_of_day : (d : ℤ) (from : ℕ) (all times : List ℕ) → IsFirstSecond kind start d from
      → IsSetOf nat_lt all (λ s. (s < seconds_of kind) × IsTrue (is_chosen rule kind start (moment_at kind d s)))
      → IsSetOf nat_lt times (λ s. Contains all s × (from ≤ s) × (s < 86_400)) → IsSetOf nat_lt times (λ s. IsTrue (stands_at tree d s))
  seconds_of_day d from all times first set cut =
      set_same nat_lt (λ s. Contains all s × (from ≤ s) × (s < 86_400)) (λ s. IsTrue (stands_at tree d s)) times cut (λ s. (to s, back s))
    where
      at : (s : ℕ) → s < seconds_of kind → stands_at tree d s ≡ (is_chosen rule kind start (moment_at kind d s) && nat_le from s)
      at s l = stands_is d s l ∙ (rw (first s l) refl)

      to : (s : ℕ) → Contains all s × (from ≤ s) × (s < 86_400) → IsTrue (stands_at tree d s)
      to s h = let c = (set.exact s).0 h.0 in at s c.0 ∙ (rw c.1 (let l : from ≤ s = h.1 in grind (arith, nat_tests)))

      back : (s : ℕ) → IsTrue (stands_at tree d s) → Contains all s × (from ≤ s) × (s < 86_400)
      back s h = elim (cases_lt s (seconds_of kind)) [
        | inl l ↦ (let e = sym (at s l) ∙ h in
            let chosen : is_chosen rule kind start (moment_at kind d s) ≡ true = (and_parts _ _ e).0 in
            let late : nat_le from s ≡ true = (and_parts (is_chosen rule kind start (moment_at kind d s)) (nat_le from s) e).1 in
            ((set.exact s).1 (l, chosen), grind (arith, nat_tests), stands_below tree d s h))
        | inr g ↦ absurd (false≢true (sym (rw (has_second_not kind s g) refl) ∙ h))
      ]

  -- ---- the days of a unit

  -- the seconds and the days of an iterator's answer
  pub none_in : (days : List ℤ) (unit from : ℤ) → IsSetOf int_lt days (IsCandidateDay rule (day_part kind start) unit) → HasNoneOf tree days from
      → (d : ℤ) (s : ℕ) → from ≤ℤ d → unit_number rule.freq rule.week_start Days d ≡ unit → stands_at tree d s ≡ false
  none_in days unit from set none d s l e =
      elim (day_holds rule (day_part kind start) d) as (λ b. day_holds rule (day_part kind start) d ≡ b → stands_at tree d s ≡ false) [
        | true ↦ λ h. none d s ((set.exact d).1 (e, h)) l
        | false ↦ λ h. no_candidate d s h
      ] refl

  -- units that do not fit the interval hold nothing
  pub none_unfit : (d : ℤ) (s : ℕ)
      → divides rule.interval (unit_number rule.freq rule.week_start Days d -ℤ unit_number rule.freq rule.week_start Days (day_part kind start)) ≡ false
      → stands_at tree d s ≡ false
  none_unfit d s e = no_candidate d s (rw e refl)

  -- ---- the walk

  abbrev unit_of : ℤ → ℤ
  unit_of d = unit_number rule.freq rule.week_start Days d

  abbrev own : ℤ
  own = unit_of (day_part kind start)

  module _ (some : 1 ≤ rule.interval) (from : ℤ) where
    -- from the first unit that fits
    pub walked_first : (k : ℕ) → k ≡ floor_mod (own -ℤ unit_of from) rule.interval → IsWalked rule tree (day_part kind start) from (unit_of from +ℤ pos k)
    walked_first k e = rw e (record {
      begun = omega (arith, ints);
      fits = first_fits rule.interval some (unit_of from) own;
      none = λ d s l h. none_unfit d s (
          let m = unit_mono rule.freq rule.week_start coarse from d l in
          let j : ℕ = nat_abs (unit_of d -ℤ unit_of from) in
          let f : unit_of d ≡ unit_of from +ℤ pos j = omega (arith, ints, m) in
          rw f (none_before rule.interval some (unit_of from) own j (omega (arith, ints, f, h))));
    })

    -- to the next
    pub walked_more : (u v : ℤ) → v ≡ u +ℤ pos rule.interval → IsWalked rule tree (day_part kind start) from u → IsFirstIn tree rule u from None
        → IsWalked rule tree (day_part kind start) from v
    walked_more u v e w none = rw e (record {
      begun = omega (arith, ints, w.begun);
      fits = subst (λ x. divides rule.interval (x -ℤ own) ≡ true) next (next_fits rule.interval some u own 0 here);
      none = λ d s l h. by_lt_z {P = stands_at tree d s ≡ false} (unit_of d) u (λ m. w.none d s l m)
          (λ g. by_lt_z {P = stands_at tree d s ≡ false} u (unit_of d)
          (λ m. none_unfit d s (
          let j : ℕ = nat_abs (unit_of d -ℤ u) in
          let f : unit_of d ≡ u +ℤ pos j = omega (arith, ints, m) in
          rw f (none_between rule.interval some u own 0 j here (omega (arith, ints, m)) (omega (arith, ints, m, h)))))
          (λ n. none d s (omega (arith, ints, g, n)) l));
    })
      where
        next : u +ℤ pos (0 + rule.interval) ≡ u +ℤ pos rule.interval
        next = omega (arith, ints)

        same : u +ℤ pos 0 ≡ u
        same = omega (arith, ints)

        here : fits_at rule.interval u own 0 ≡ true
        here = subst (λ x. divides rule.interval (x -ℤ own) ≡ true) (sym same) w.fits

    -- at the first occupied day of a unit
    pub walked_found : (u : ℤ) (found : DayTimes) → IsWalked rule tree (day_part kind start) from u → IsFirstIn tree rule u from (Some found)
        → IsFirstOccupied tree from found.day found.times
    walked_found u found w f = record {
      late = f.1;
      before = λ d s l h. by_lt_z {P = stands_at tree d s ≡ false} (unit_of d) u (λ m. w.none d s l m)
          (λ g. f.4 d s (omega (arith, ints, g, unit_mono rule.freq rule.week_start coarse d found.day (omega (arith, ints, h)), f.0)) l h);
      some = f.2;
      all = f.3;
    }

    -- if it comes too late
    pub walked_past : (u to : ℤ) (found : DayTimes) → IsWalked rule tree (day_part kind start) from u → IsFirstIn tree rule u from (Some found)
        → to <ℤ found.day → IsFirstUpTo tree from to None
    walked_past u to found w f l d s g h = (walked_found u found w f).before d s g (omega (arith, ints, h, l))

    -- at the end
    pub walked_all : (u to : ℤ) → IsWalked rule tree (day_part kind start) from u → unit_of to <ℤ u → IsFirstUpTo tree from to None
    walked_all u to w l d s g h = w.none d s g (omega (arith, ints, l, unit_mono rule.freq rule.week_start coarse d to (omega (arith, ints, h))))

  -- ---- the days of a unit

  pub first_of_unit : (days : List ℤ) (unit from : ℤ) (r : Option DayTimes) → IsSetOf int_lt days (IsCandidateDay rule (day_part kind start) unit)
      → IsFirstOf tree days from r → IsFirstIn tree rule unit from r
  first_of_unit days unit from None set none = λ d s e l. none_in days unit from set none d s l e
  first_of_unit days unit from (Some found) set f = (
    ((set.exact found.day).0 f.0).0,
    f.1,
    f.2,
    f.3,
    λ d s e l h. elim (day_holds rule (day_part kind start) d) as (λ b. day_holds rule (day_part kind start) d ≡ b → stands_at tree d s ≡ false) [
      | true ↦ λ g. f.4 d s ((set.exact d).1 (e, g)) l h
      | false ↦ λ g. no_candidate d s g
    ] refl,
  )
