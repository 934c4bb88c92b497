-- How the first moment that a rule chooses after its start is found.
use Rattle.std.proofs.Common.{◌≡◌, ◌≢◌, ℕ, zero, suc, ◌<◌, ◌≤◌, true, false, ◌&&◌, Ok, Err, Option, Result, Some, None, List, [], ◌∷◌, length}
use Rattle.std.proofs.Common.{get_or, take, ℤ, pos, ◌≤ℤ◌, ◌<ℤ◌, w64, to_z, of_z, refl, sym, ap, subst, ◌∙◌, inl, inr, arith}
use Rattle.std.specs.Prelude.{IfOk, int_le, nat_lt, slice_get}
use Rattle.std.proofs.lemmas.Bool.{and_from, and_parts, false≢true}
use Rattle.std.proofs.lemmas.Int.{ints, by_lt_z}
use Rattle.std.proofs.lemmas.List.{get_or_default}
use Rattle.std.proofs.lemmas.List.Elements.{Contains-get_or}
use Rattle.std.proofs.lemmas.Option.{get_or_from_slice_get}
use Rattle.rr_model.specs.Moment.{day_part, is_same_kind, moment_at, second_part}
use Rattle.rr_model.specs.Moment.Years.{IsFromYearOne, IsInYears}
use Rattle.rr_model.specs.Rising.{Rises}
use Rattle.rr_model.specs.Rule.Chosen.{is_chosen}
use Rattle.rr_model.specs.Series.Validity.{IsValidSeries}
use Rattle.rr_model.specs.Sets.Tree.{Tree, chosen_of, has_second, stands_at}
use Rattle.rr_model.specs.declared.kind.Kind.{Kind}
use Rattle.rr_model.specs.declared.kind.Kind.TheVariants.{Days, Moments}
use Rattle.rr_model.specs.declared.refusal.NoMemory.{NoMemory}
use Rattle.rr_model.specs.declared.rule.End.TheVariants.{Never, Until}
use Rattle.rr_model.specs.declared.rule.Rule.{Rule}
use Rattle.rr_model.specs.declared.rule.Series.{Series}
use Rattle.rr_model.proofs.MomentLemmas.{day_part-moment_at}
use Rattle.rr_model.proofs.OrderLemmas.{day_mono}
use Rattle.rr_model.proofs.RisingSetLemmas.{rising_at}
use Rattle.rr_model.proofs.WholeLemmas.{floor_mod_below, floor_whole}
use Rattle.rr_model.proofs.YearLemmas.{four_digit_bounds, year_1, year_10000}
use Rattle.rr_lazy.specs.DayTimes.{DayTimes}
use Rattle.rr_lazy.specs.Next.{IsNext, IsNextIn, IsUnasked, with_set}
use Rattle.rr_lazy.specs.declared.occupied_day.OccupiedDay.{OccupiedDay}
use Rattle.rr_lazy.proofs.AgreeLemmas.{moment_is}
use Rattle.rr_lazy.proofs.TreeLemmas.{has_second_below}
use Rattle.rr_start.specs.Search.{IsFirstOfOff, IsFirstSecond, IsFirstUpTo, IsLastOfEnd, IsNotAfter, IsOpen}
use Rattle.rr_start.specs.Start.{IsFirstChosen, IsStartOff, ReachesUncounted}
use Rattle.rr_start.specs.declared.first_second.SecondOfDay.{SecondOfDay}
use Rattle.rr_start.proofs.RereadLemmas.{after_start, one_first}

-- ---- the first second of the first day

-- the first of some first values of a list
pub first_taken : (count : ℕ) (all : List ℕ) → take count all ≢ [] → (0 < length all) × (get_or all 0 0 ≡ get_or (take count all) 0 0)
first_taken zero all h = absurd (h refl)
first_taken (suc count) [] h = absurd (h refl)
first_taken (suc count) (x ∷ xs) h = (omega arith, refl)

-- the first value of a rising list is not after another
first_least : (xs : List ℕ) (i s : ℕ) → Rises nat_lt xs → i < length xs → get_or xs i s ≡ s → get_or xs 0 0 ≤ s
first_least [] i s r l e = absurd (omega (arith, l))
first_least (x ∷ xs) zero s r l e = omega (arith, e)
first_least (x ∷ xs) (suc i) s r l e =
    let below = rising_at (x ∷ xs) r 0 (suc i) (omega arith) l in
    omega (arith, below, get_or_default (x ∷ xs) (suc i) 0 s l, e)

nonempty : (xs : List ℕ) → xs ≢ [] → 0 < length xs
nonempty [] h = absurd (h refl)
nonempty (x ∷ xs) h = omega arith

module _ (tree : Tree) (old to new : ℤ) (unasked : IsUnasked old) where
  module _ (found : DayTimes) (n : IsNext tree old to (Ok (Some found)) new) where
    first_stands : stands_at tree found.day (get_or found.times 0 0) ≡ true
    first_stands = (n.0.all.exact (get_or found.times 0 0)).0 (Contains-get_or found.times 0 0 (nonempty found.times n.0.some))

    first_not_after : (day : ℤ) (second : ℕ) → IsFromYearOne day → stands_at tree day second ≡ true
        → IsNotAfter found.day (get_or found.times 0 0) day second
    first_not_after day second from stands =
        let P : Type 0 = IsNotAfter found.day (get_or found.times 0 0) day second in
        by_lt_z {P = P} day found.day
        (λ l. absurd (false≢true (sym (n.0.before day second (omega (arith, ints, from, unasked)) l) ∙ stands)))
        (λ g. by_lt_z {P = P} found.day day (λ l. inl l) (λ h. (
        let same : day ≡ found.day = omega (arith, ints, g, h) in
        let c = (n.0.all.exact second).1 (subst (λ (d : ℤ). stands_at tree d second ≡ true) same stands) in
        inr (sym same, first_least found.times c.0 second n.0.all.rises c.1 c.2))))

    -- the first second of the day that was found
    pub first_of_day : (place : SecondOfDay) → place.day ≡ found.day → place.second ≡ get_or found.times 0 0 → IsFirstSecond tree to (Some place)
    first_of_day place d s = (
      omega (arith, ints, n.1, d),
      omega (arith, ints, unasked, n.0.late, d),
      rw (d, s) first_stands,
      rw (d, s) first_not_after,
    )

  -- the same by a number in a table of sets, and the slice of all seconds of the set
  module _ (sets : List (List ℕ)) (found : OccupiedDay) (all slice : List ℕ) (n : IsNextIn sets tree old to (Ok (Some found)) new)
      (e : slice_get sets found.number.index ≡ Some all) (f : slice ≡ all) where
    taken : take found.count slice ≡ (with_set sets found).times
    taken = ap (take found.count) (f ∙ sym (get_or_from_slice_get sets found.number.index all [] e))

    first_of_slice : (0 < length slice) × (get_or slice 0 0 ≡ get_or (with_set sets found).times 0 0)
    first_of_slice =
        let p = first_taken found.count slice (λ none. n.1.0.some (sym taken ∙ none)) in
        (p.0, p.1 ∙ ap (λ (l : List ℕ). get_or l 0 0) taken)

    pub slice_some : 0 < length slice
    slice_some = first_of_slice.0

    pub first_in_slice : IsFirstSecond tree to (Some (record { day = found.day; second = get_or slice 0 0 }))
    first_in_slice = first_of_day (with_set sets found) n.1 (record { day = found.day; second = get_or slice 0 0 }) refl first_of_slice.1

  pub none_of_days : IsNext tree old to (Ok None) new → IsFirstSecond tree to None
  none_of_days n day second from stands = by_lt_z {P = to <ℤ day} to day (λ l. l) (λ g.
      absurd (false≢true (sym (n.0 day second (omega (arith, ints, from, unasked)) (omega (arith, ints, g, n.2))) ∙ stands)))

-- ---- the first moment of a rule

-- a second of a day that is not after that of t comes as its moment does
not_after : (kind : Kind) (t e : ℤ) (r : ℕ) → r < 86_400 → IsNotAfter e r (day_part kind t) (second_part kind t) → moment_at kind e r ≤ℤ t
not_after Days t e r m (inl l) = omega (arith, ints, l)
not_after Days t e r m (inr h) = omega (arith, ints, h.0)
not_after Moments t e r m (inl l) = omega (arith, ints, l, m, floor_whole t 86_400 (omega arith))
not_after Moments t e r m (inr h) = omega (arith, ints, h.0, h.1, floor_whole t 86_400 (omega arith))

module _ (rule : Rule) (kind : Kind) (start last : ℤ) (off : is_chosen rule kind start start ≡ false) (years : IsInYears kind start) where
  stands_is : (t : ℤ) → stands_at (chosen_of rule kind start) (day_part kind t) (second_part kind t) ≡ (is_chosen rule kind start t && int_le start t)
  stands_is t = let m = moment_is kind t in rw (m.0, m.1) refl

  -- a moment that is chosen, and not before the start, stands on its day, which is from the year 1 on
  standing : (t : ℤ) → start ≤ℤ t → is_chosen rule kind start t ≡ true
      → IsFromYearOne (day_part kind t) × (stands_at (chosen_of rule kind start) (day_part kind t) (second_part kind t) ≡ true)
  standing t l c =
      let late : int_le start t ≡ true = grind (arith, ints, l) in
      (omega (arith, ints, years.0, day_mono kind start t l), stands_is t ∙ and_from (is_chosen rule kind start t) (int_le start t) c late)

  first_is : (found : SecondOfDay) (t : ℤ) → t ≡ moment_at kind found.day found.second
      → IsFirstSecond (chosen_of rule kind start) (day_part kind last) (Some found) → IsFirstChosen rule kind start t
  first_is found t e f =
      let at = moment_at kind found.day found.second in
      let p = and_parts (has_second kind found.second) (is_chosen rule kind start at && int_le start at) f.2 in
      let q = and_parts (is_chosen rule kind start at) (int_le start at) p.1 in
      let late : int_le start at ≡ true = q.1 in
      let chosen : is_chosen rule kind start t ≡ true = ap (is_chosen rule kind start) e ∙ q.0 in
      record {
        later = after_start rule kind start t off (omega (arith, ints, late, e)) chosen;
        chosen = chosen;
        least = λ u l c. (
            let s = standing u (omega (arith, ints, l)) c in
            let order = f.3 (day_part kind u) (second_part kind u) s.0 s.1 in
            let n = not_after kind u found.day found.second (has_second_below kind found.second p.0) order in
            omega (arith, ints, n, e));
      }

  -- the same of what the code has: the tree, the last day, and the moment of the day that was found
  pub first_found : (tree : Tree) (to : ℤ) (found : SecondOfDay) (t : ℤ) → IsInYears kind last → tree ≡ chosen_of rule kind start → to ≡ day_part kind last
      → IsFirstSecond tree to (Some found) → t ≡ moment_at kind (to_z w64 (of_z w64 found.day)) found.second → IsFirstChosen rule kind start t
  first_found tree to found t near e d f h =
      let b = four_digit_bounds (day_part kind last) near in
      let day : to_z w64 (of_z w64 found.day) ≡ found.day = omega (arith, ints, b.1, d, f.0, f.1, year_1) in
      first_is found t (rw day at h) (rw (e, d) at f)

  none_up_to : IsFirstSecond (chosen_of rule kind start) (day_part kind last) None → IsFirstUpTo rule kind start last None
  none_up_to f u first = by_lt_z {P = last <ℤ u} last u (λ l. l) (λ g. (
      let s = standing u (omega (arith, ints, first.later)) first.chosen in
      absurd (omega (arith, ints, f (day_part kind u) (second_part kind u) s.0 s.1, day_mono kind u last g))))

  pub none_found : (tree : Tree) (to : ℤ) → tree ≡ chosen_of rule kind start → to ≡ day_part kind last → IsFirstSecond tree to None
      → IsFirstUpTo rule kind start last None
  none_found tree to e d f = none_up_to (rw (e, d) at f)

  pub late_up_to : (t : ℤ) → IsFirstChosen rule kind start t → last <ℤ t → IsFirstUpTo rule kind start last None
  late_up_to t f l u g = omega (arith, ints, l, one_first rule kind start t u f g)

-- ---- the last moment

last_in_years : (kind : Kind) → IsInYears kind (moment_at kind (pos 2_932_896) 86_399)
last_in_years Days = (omega (arith, ints, year_1), omega (arith, ints, year_10000))
last_in_years Moments =
    let e = day_part-moment_at (pos 2_932_896) 86_399 (omega arith) in
    (omega (arith, ints, year_1, e), omega (arith, ints, year_10000, e))

up_to_last : (kind : Kind) (t : ℤ) → IsInYears kind t → t ≤ℤ moment_at kind (pos 2_932_896) 86_399
up_to_last Days t y = omega (arith, ints, y.1, year_10000)
up_to_last Moments t y = omega (arith, ints, y.1, year_10000, floor_whole t 86_400 (omega arith), floor_mod_below t 86_400 (omega arith))

-- a rule without end is looked at up to the end of the year 9999
pub last_of_never : (kind : Kind) (last : ℤ) → last ≡ moment_at kind (pos 2_932_896) 86_399 → IsLastOfEnd kind Never (Some last)
last_of_never kind last e = rw e (last_in_years kind, λ t l. tt, λ t y r. up_to_last kind t y)

pub last_of_until : (kind other : Kind) (at : ℤ) → is_same_kind kind other ≡ true → IsInYears other at → IsLastOfEnd kind (Until other at) (Some at)
last_of_until Days Days at s y = (y, λ t l. (refl, l), λ t z r. r.1)
last_of_until Moments Moments at s y = (y, λ t l. (refl, l), λ t z r. r.1)
last_of_until Days Moments at s y = absurd (false≢true s)
last_of_until Moments Days at s y = absurd (false≢true s)

pub no_last : (kind other : Kind) (at : ℤ) → is_same_kind kind other ≡ false → IsLastOfEnd kind (Until other at) None
no_last Days Days at s t r = absurd (false≢true (sym s))
no_last Moments Moments at s t r = absurd (false≢true (sym s))
no_last Days Moments at s t r = absurd (cc)
no_last Moments Days at s t r = absurd (cc)

-- ---- the whole search

-- what is open is a part of being off
pub open_of : (series : Series) (first : ℤ) → IsStartOff series first → IsOpen series
open_of series first off = record { counts = off.counts; one_rule = ap length off.one_rule; no_excluded = off.no_excluded; room = off.room }

-- the one rule of a list
pub only_rule : (rules : List Rule) (rule : Rule) → length rules ≡ 1 → rule ≡ get_or rules 0 rule → rules ≡ rule ∷ []
only_rule [] rule l e = absurd (omega (arith, l))
only_rule (x ∷ []) rule l e = ap (λ r. r ∷ []) (sym e)
only_rule (x ∷ y ∷ ys) rule l e = absurd (omega (arith, l))

module _ (series : Series) (rule : Rule) (only : series.rules ≡ rule ∷ []) where
  same_rule : (first : ℤ) (off : IsStartOff series first) → off.rule ≡ rule
  same_rule first off = cc (off.one_rule, only)

  pub chosen_none : is_chosen rule series.kind series.start series.start ≡ true → IsFirstOfOff series None
  chosen_none c first off =
      let not : is_chosen rule series.kind series.start series.start ≡ false =
      subst (λ (r : Rule). is_chosen r series.kind series.start series.start ≡ false) (same_rule first off) off.not_chosen in
      absurd (false≢true (sym not ∙ c))

  pub counted_none : IsLastOfEnd series.kind rule.end None → IsFirstOfOff series None
  counted_none none first off = none first (subst (λ (r : Rule). ReachesUncounted series.kind first r.end) (same_rule first off) off.reaches)

  module _ (valid : IsValidSeries series) (open_now : IsOpen series) (not : is_chosen rule series.kind series.start series.start ≡ false) where
    pub found_first : (last : ℤ) (result : Option ℤ) → IsLastOfEnd series.kind rule.end (Some last)
        → IsFirstUpTo rule series.kind series.start last result → IsFirstOfOff series result
    found_first last None l none = λ first off. (
        let kind = series.kind in
        let f = subst (λ (r : Rule). IsFirstChosen r kind series.start first) (same_rule first off) off.first_chosen in
        let reaches = subst (λ (r : Rule). ReachesUncounted kind first r.end) (same_rule first off) off.reaches in
        absurd (omega (arith, ints, none first f, l.2 first off.in_years reaches)))
    found_first last (Some first) l f = record {
      counts = open_now.counts;
      rule = rule;
      one_rule = only;
      no_excluded = open_now.no_excluded;
      not_chosen = not;
      first_chosen = f.0;
      reaches = l.1 first f.1;
      in_years = (
        omega (arith, ints, valid.start.0, day_mono series.kind series.start first (omega (arith, ints, f.0.later))),
        omega (arith, ints, l.0.1, day_mono series.kind first last f.1),
      );
      room = open_now.room;
    }

    pub found_result : (last : ℤ) (result : Result (Option ℤ) NoMemory) → IsLastOfEnd series.kind rule.end (Some last)
        → IfOk result (IsFirstUpTo rule series.kind series.start last) → IfOk result (IsFirstOfOff series)
    found_result last (Ok found) l f = found_first last found l f
    found_result last (Err e) l f = tt
