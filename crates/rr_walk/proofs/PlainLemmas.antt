-- Rules of whole days without set positions, walked over their candidate days.
use Rattle.std.proofs.Common.{◌≡◌, ◌⊎◌, ℕ, ◌+◌, ◌<◌, ◌≤◌, Bool, true, false, ◌&&◌, List, [], ◌∷◌, length, get_or, Contains, refl}
use Rattle.std.proofs.Common.{ℤ, pos, nat_abs, ◌+ℤ◌, ◌-ℤ◌, ◌≤ℤ◌, ◌<ℤ◌}
use Rattle.std.proofs.Common.{sym, ap, subst, ◌∙◌, inl, inr, arith}
use Rattle.std.specs.Prelude.{Option, Some, None, IsTrue, nat_lt, slice_get}
use Rattle.std.proofs.Math.Seq.{take-length}
use Rattle.std.proofs.lemmas.Int.{ints, by_lt_z}
use Rattle.std.proofs.lemmas.Option.{get_or_from_slice_get, slice_get_within}
use Rattle.rr_model.specs.Whole.{divides, floor_mod}
use Rattle.rr_model.specs.Moment.{day_part}
use Rattle.rr_model.specs.Moment.Units.{is_whole_days, unit_number, unit_start}
use Rattle.rr_model.specs.Rising.Sets.{IsSetOf}
use Rattle.rr_model.specs.Rule.Candidate.{date_parts_hold, interval_holds}
use Rattle.rr_model.specs.Rule.DaysAndTimes.{IsCandidateTime, day_holds, seconds_of}
use Rattle.rr_model.specs.Rule.Filled.{filled_rule}
use Rattle.rr_model.specs.Sets.Tree.{Tree, chosen_of, stands_at}
use Rattle.rr_model.specs.declared.kind.Kind.{Kind}
use Rattle.rr_model.specs.declared.kind.Kind.TheVariants.{Days, Moments}
use Rattle.rr_model.specs.declared.rule.Rule.{Rule}
use Rattle.rr_model.proofs.RisingSetLemmas.{one_list_of_seconds, set_itself, set_same}
use Rattle.rr_model.proofs.DividesLemmas.{one_divides}
use Rattle.rr_cal.proofs.StretchLemmas.{units_are_stretches}
use Rattle.rr_expand.specs.Years.{Filling, IsFirstAllowed}
use Rattle.rr_expand.proofs.FitLemmas.{fits_at, next_fits, none_before, none_between}
use Rattle.rr_lazy.specs.Next.{HasNone, IsFirstOccupied, with_set}
use Rattle.rr_lazy.specs.declared.occupied_day.OccupiedDay.{OccupiedDay}
use Rattle.rr_shapes.specs.declared.ids.SetId.{SetId}
use Rattle.rr_walk.specs.Ruling.{IsFirstCandidate, IsFirstCandidateIn, IsFittingUnit, IsPassed, IsSameRuling, KeepsAt, KnowsTimes, Ruling}
use Rattle.rr_walk.specs.Walk.{IsFirstSecond, IsFirstUpTo, IsFirstUpToIn, IsOnDay, IsOnDayIn}
use Rattle.rr_walk.proofs.DayListLemmas.{nothing_in}
use Rattle.rr_walk.proofs.SetPositionLemmas.{chosen_plain}
use Rattle.rr_walk.proofs.WalkLemmas.{no_candidate, seconds_of_day, unit_mono}

-- ---- the seconds of a candidate day

pub few_seconds : (kind : Kind) → seconds_of kind ≤ 86_400
few_seconds Days = omega arith
few_seconds Moments = omega arith

module _ (rule : Rule) (kind : Kind) (start d : ℤ) (coarse : is_whole_days rule.freq ≡ true) (plain : rule.by_set_pos ≡ [])
    (candidate : day_holds rule (day_part kind start) d ≡ true) (times : List ℕ) (set : IsSetOf nat_lt times (IsCandidateTime rule kind start)) where
  abbrev tree : Tree
  tree = chosen_of rule kind start

  -- the seconds of a candidate day from the start on
  pub plain_seconds : (from : ℕ) (cut : List ℕ) → IsFirstSecond kind start d from → IsSetOf nat_lt cut (λ s. Contains times s × (from ≤ s) × (s < 86_400))
      → IsSetOf nat_lt cut (λ s. IsTrue (stands_at tree d s))
  plain_seconds from cut first at =
      seconds_of_day rule kind start coarse d from times cut first (chosen_plain rule kind start d coarse candidate times plain set) at

  -- all of them, if none is before the start
  pub all_seconds : IsFirstSecond kind start d 0 → IsSetOf nat_lt times (λ s. IsTrue (stands_at tree d s))
  all_seconds l = plain_seconds 0 times l (
      set_same nat_lt (Contains times) (λ s. Contains times s × (0 ≤ s) × (s < 86_400)) times (set_itself nat_lt times set.rises)
      (λ s. ((λ c. (c, omega arith, omega (arith, ((set.exact s).0 c).0, few_seconds kind))), (λ c. c.0))))

  -- a day whose seconds have the number of a set
  pub plain_on : (sets : List (List ℕ)) (f : OccupiedDay) → f.day ≡ d → IsFirstSecond kind start d 0 → f.count ≡ length times → (f.count ≡ 0 → ⊥)
      → f.number.index < length sets → IsSetOf nat_lt (get_or sets f.number.index []) (IsCandidateTime rule kind start) → IsOnDayIn sets tree d (Some f)
  plain_on sets f same l all some within kept =
      let one : get_or sets f.number.index [] ≡ times = one_list_of_seconds (IsCandidateTime rule kind start) (get_or sets f.number.index []) times kept set in
      let is : (with_set sets f).times ≡ times = rw (one, all) (take-length times) in (
        (within, rw one (omega (arith, all))),
        (same, (λ e. some (all ∙ ap length (sym is ∙ e))), subst (λ xs. IsSetOf nat_lt xs (λ s. IsTrue (stands_at tree d s))) (sym is) (all_seconds l)),
      )

  -- no seconds, no day
  pub plain_none : IsFirstSecond kind start d 0 → times ≡ [] → IsOnDay tree d None
  plain_none l e = nothing_in (stands_at tree d) times (all_seconds l) e

-- one number is kept
pub keeps_one : (sets : List (List ℕ)) (rule : Rule) (kind : Kind) (start : ℤ) (n : SetId) (P : ℕ → Type 0)
    → n.index < length sets → IsSetOf nat_lt (get_or sets n.index []) P
    → KeepsAt sets (record { rule = rule; kind = kind; start = start; kept = Some n ∷ [] }) 0 P
keeps_one sets rule kind start n P l set m e = let same : n ≡ m = cc in rw (sym same) (l, set)

-- a set that was put into a table has its number
pub placed_number : (sets : List (List ℕ)) (times shown placed : List ℕ) (n : ℕ) (P : ℕ → Type 0) → slice_get sets n ≡ Some placed
    → placed ≡ shown → shown ≡ times → IsSetOf nat_lt times P → (n < length sets) × IsSetOf nat_lt (get_or sets n []) P
placed_number sets times shown placed n P at e f set =
    (slice_get_within sets n placed at, rw (get_or_from_slice_get sets n placed [] at, e, f) set)

-- what is known of the same rule
pub knows_same : (new old : Ruling) (sets : List (List ℕ)) → new ≡ old → KnowsTimes old sets → KnowsTimes new sets
knows_same new old sets e k = rw e k

-- the first candidate day of the same rule
pub same_candidate : (new old : Ruling) (from to : ℤ) (found : Option ℤ) → IsSameRuling new old → IsFirstCandidate new from to found
    → IsFirstCandidate old from to found
same_candidate new old from to None same f = λ d g h. rw (sym same.rule, sym same.kind, sym same.start) (f d g h)
same_candidate new old from to (Some day) same f =
    (f.0, f.1, rw (sym same.rule, sym same.kind, sym same.start) f.2, λ d g h. rw (sym same.rule, sym same.kind, sym same.start) (f.3 d g h))

-- ---- the next candidate day

-- no candidate day from one on and not after another lies in a unit before this one, which fits the interval
pub record IsLookedUpTo (r : Ruling) (from to u : ℤ) : Type 0 where
  pub begun : unit_number r.rule.freq r.rule.week_start Days from ≤ℤ u
  pub fitting : divides r.rule.interval (u -ℤ unit_number r.rule.freq r.rule.week_start Days (day_part r.kind r.start)) ≡ true
  pub none : (d : ℤ) → from ≤ℤ d → d ≤ℤ to → unit_number r.rule.freq r.rule.week_start Days d <ℤ u → day_holds r.rule (day_part r.kind r.start) d ≡ false

module _ (r : Ruling) where
  abbrev filling : Filling
  filling = record { rule = r.rule; start_day = day_part r.kind r.start }

  abbrev holds : ℤ → Bool
  holds d = day_holds r.rule (day_part r.kind r.start) d

  abbrev fits : ℤ → Bool
  fits d = interval_holds r.rule Days (day_part r.kind r.start) d

  abbrev allows : ℤ → Bool
  allows d = date_parts_hold (filled_rule r.rule Days (day_part r.kind r.start)) d

  abbrev unit : ℤ → ℤ
  unit d = unit_number r.rule.freq r.rule.week_start Days d

  not_allowed : (d : ℤ) → allows d ≡ false → holds d ≡ false
  not_allowed d e = rw e (elim (fits d) as (λ b. (b && false) ≡ false) [ true ↦ refl | false ↦ refl ])

  unfit : (d : ℤ) → fits d ≡ false → holds d ≡ false
  unfit d e = rw e refl

  both : (d : ℤ) → fits d ≡ true → allows d ≡ true → holds d ≡ true
  both d e f = rw (e, f) refl

  -- if no unit is left out
  pub first_of_each : (from to end : ℤ) (found : Option ℤ) → r.rule.interval ≡ 1 → end ≡ to +ℤ pos 1 → IsFirstAllowed filling from end found
      → IsFirstCandidate r from to found
  first_of_each from to end None one e none = λ d g h. not_allowed d (none d g (omega (arith, ints, e, h)))
  first_of_each from to end (Some day) one e f = (
    f.0,
    omega (arith, ints, e, f.1),
    both day (subst (λ n. divides n (unit day -ℤ unit (day_part r.kind r.start)) ≡ true) (sym one) (one_divides (unit day -ℤ unit (day_part r.kind r.start)))) f.2,
    λ d g h. not_allowed d (f.3 d g h),
  )

  -- days before the first unit that fits
  pub passed_first : (coarse : is_whole_days r.rule.freq ≡ true) (some : 1 ≤ r.rule.interval) (from : ℤ) (k : ℕ)
      → k ≡ floor_mod (unit (day_part r.kind r.start) -ℤ unit from) r.rule.interval → IsPassed r from (unit from +ℤ pos k)
  passed_first coarse some from k e d l h =
      let m = unit_mono r.rule.freq r.rule.week_start coarse from d l in
      let j : ℕ = nat_abs (unit d -ℤ unit from) in
      let f : unit d ≡ unit from +ℤ pos j = omega (arith, ints, m) in
      unfit d (rw f (none_before r.rule.interval some (unit from) (unit (day_part r.kind r.start)) j (omega (arith, ints, f, h, e))))

  module _ (from to u begin next low high : ℤ) (starts : begin ≡ unit_start r.rule.freq r.rule.week_start Days u)
      (ends : next ≡ unit_start r.rule.freq r.rule.week_start Days (u +ℤ pos 1)) (of_low : (begin ≤ℤ low) × (from ≤ℤ low) × ((low ≡ begin) ⊎ (low ≡ from)))
      (of_high : (high ≤ℤ next) × (high ≤ℤ (to +ℤ pos 1)) × ((high ≡ next) ⊎ (high ≡ to +ℤ pos 1))) where
    in_unit : (d : ℤ) → low ≤ℤ d → d <ℤ high → unit d ≡ u
    in_unit d l h =
        (units_are_stretches r.rule.freq r.rule.week_start Days d u).1 (omega (arith, ints, starts, of_low.0, l), omega (arith, ints, ends, of_high.0, h))

    -- a day of the unit, from the one on and not after the other, lies between
    lies : (d : ℤ) → unit d ≡ u → from ≤ℤ d → d ≤ℤ to → (low ≤ℤ d) × (d <ℤ high)
    lies d e g h =
        let s = (units_are_stretches r.rule.freq r.rule.week_start Days d u).0 e in (
          elim of_low.2 [ inl i ↦ omega (arith, ints, i, starts, s.0) | inr i ↦ omega (arith, ints, i, g) ],
          elim of_high.2 [ inl i ↦ omega (arith, ints, i, ends, s.1) | inr i ↦ omega (arith, ints, i, h) ],
        )

    -- the first allowed day of a unit that fits
    pub candidate_of_unit : (found : Option ℤ) → IsFittingUnit r u → IsFirstAllowed filling low high found → IsFirstCandidateIn r u from to found
    candidate_of_unit None fitting none = λ d e g h. (let i = lies d e g h in not_allowed d (none d i.0 i.1))
    candidate_of_unit (Some day) fitting f =
        let at = in_unit day f.0 f.1 in (
          at,
          omega (arith, ints, of_low.1, f.0),
          omega (arith, ints, of_high.1, f.1),
          both day (subst (λ x. divides r.rule.interval (x -ℤ unit (day_part r.kind r.start)) ≡ true) (sym at) fitting) f.2,
          λ d e g h. not_allowed d (f.3 d (lies d e g (omega (arith, ints, h, of_high.1, f.1))).0 h),
        )

  -- the first candidate day of a unit is the first
  pub looked_found : (coarse : is_whole_days r.rule.freq ≡ true) (from to u day : ℤ) → IsLookedUpTo r from to u → IsFirstCandidateIn r u from to (Some day)
      → IsFirstCandidate r from to (Some day)
  looked_found coarse from to u day at f = (
    f.1,
    f.2,
    f.3,
    λ d g h. (let m = unit_mono r.rule.freq r.rule.week_start coarse d day (omega (arith, ints, h)) in
        by_lt_z {P = holds d ≡ false} (unit d) u (λ n. at.none d g (omega (arith, ints, h, f.2)) n) (λ n. f.4 d (omega (arith, ints, m, n, f.0)) g h)),
  )

  -- on to the next unit that fits
  pub looked_more : (some : 1 ≤ r.rule.interval) (from to u v : ℤ) → v ≡ u +ℤ pos r.rule.interval → IsLookedUpTo r from to u
      → IsFirstCandidateIn r u from to None → IsLookedUpTo r from to v
  looked_more some from to u v e at none = rw e (record {
    begun = omega (arith, ints, at.begun);
    fitting = subst (λ x. divides r.rule.interval (x -ℤ own) ≡ true) step (next_fits r.rule.interval some u own 0 here);
    none = λ d g h l. by_lt_z {P = holds d ≡ false} (unit d) u (λ m. at.none d g h m)
        (λ n. by_lt_z {P = holds d ≡ false} u (unit d)
        (λ m. unfit d (
        let j : ℕ = nat_abs (unit d -ℤ u) in
        let f : unit d ≡ u +ℤ pos j = omega (arith, ints, m) in
        rw f (none_between r.rule.interval some u own 0 j here (omega (arith, ints, m)) (omega (arith, ints, m, l)))))
        (λ o. none d (omega (arith, ints, n, o)) g h));
  })
    where
      own : ℤ
      own = unit (day_part r.kind r.start)

      step : u +ℤ pos (0 + r.rule.interval) ≡ u +ℤ pos r.rule.interval
      step = omega (arith, ints)

      same : u +ℤ pos 0 ≡ u
      same = omega (arith, ints)

      here : fits_at r.rule.interval u own 0 ≡ true
      here = subst (λ x. divides r.rule.interval (x -ℤ own) ≡ true) (sym same) at.fitting

  -- past the last unit
  pub looked_all : (coarse : is_whole_days r.rule.freq ≡ true) (from to u : ℤ) → IsLookedUpTo r from to u → unit to <ℤ u → IsFirstCandidate r from to None
  looked_all coarse from to u at l d g h =
      at.none d g h (omega (arith, ints, l, unit_mono r.rule.freq r.rule.week_start coarse d to h))

  -- ---- the first occupied day, if none comes before a day

  module _ (coarse : is_whole_days r.rule.freq ≡ true) (from day to : ℤ) (late : from ≤ℤ day) (none : HasNone (chosen_of r.rule r.kind r.start) from day) where
    before_candidate : (c d : ℤ) (s : ℕ) → ((e : ℤ) → day ≤ℤ e → e <ℤ c → holds e ≡ false) → from ≤ℤ d → d <ℤ c
        → stands_at (chosen_of r.rule r.kind r.start) d s ≡ false
    before_candidate c d s empty g h =
        by_lt_z {P = stands_at (chosen_of r.rule r.kind r.start) d s ≡ false} d day (λ m. none d s g m)
        (λ m. no_candidate r.rule r.kind r.start coarse d s (empty d m h))

    -- no candidate day is left
    pub none_at_all : IsFirstCandidate r day to None → IsFirstUpTo (chosen_of r.rule r.kind r.start) from to None
    none_at_all c d s g h = before_candidate (to +ℤ pos 1) d s (λ e m n. c e m (omega (arith, ints, n))) g h

    -- the next candidate day is not occupied
    pub none_so_far : (c next : ℤ) → next ≡ c +ℤ pos 1 → IsFirstCandidate r day to (Some c) → IsOnDay (chosen_of r.rule r.kind r.start) c None
        → HasNone (chosen_of r.rule r.kind r.start) from next
    none_so_far c next e f empty d s g h =
        by_lt_z {P = stands_at (chosen_of r.rule r.kind r.start) d s ≡ false} d c (λ m. before_candidate c d s f.3 g m)
        (λ m. (let same : d ≡ c = omega (arith, ints, m, h, e) in rw same (empty s)))

    -- the next candidate day is occupied
    pub first_is : (sets : List (List ℕ)) (c : ℤ) (f : OccupiedDay) → IsFirstCandidate r day to (Some c)
        → IsOnDayIn sets (chosen_of r.rule r.kind r.start) c (Some f) → IsFirstUpToIn sets (chosen_of r.rule r.kind r.start) from to (Some f)
    first_is sets c f at on =
        let found : IsFirstOccupied (chosen_of r.rule r.kind r.start) from f.day (with_set sets f).times = record {
          late = omega (arith, ints, late, at.0, on.1.0);
          before = λ d s g h. before_candidate c d s at.3 g (omega (arith, ints, h, on.1.0));
          some = on.1.1;
          all = rw on.1.0 on.1.2;
        } in (on.0, (found, omega (arith, ints, at.1, on.1.0)))
