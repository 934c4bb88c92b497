-- The candidate at a position of its unit.
use Rattle.std.proofs.Common.{◌≡◌, ℕ, suc, ◌+◌, ◌-◌, ◌*◌, ◌<◌, ◌≤◌, Bool, true, false, Some, None, inl, inr, ℤ, pos, neg_ℤ, nat_abs, ◌+ℤ◌, ◌-ℤ◌, ◌<ℤ◌, refl}
use Rattle.std.proofs.Common.{sym, ap, ◌∙◌, arith}
use Rattle.std.proofs.lemmas.Int.{ints}
use Rattle.std.proofs.lemmas.Bool.{cases_lt, false≢true}
use Rattle.rr_model.specs.Whole.{divides}
use Rattle.rr_model.specs.Whole.Count.{count_from}
use Rattle.rr_model.specs.Moment.{day_part, second_part, moment_at}
use Rattle.rr_model.specs.Moment.Units.{unit_number, unit_start, is_whole_days, unit_seconds}
use Rattle.rr_model.specs.Rule.Filled.{filled_rule}
use Rattle.rr_model.specs.Rule.Candidate.{interval_holds, date_parts_hold, is_candidate}
use Rattle.rr_model.specs.Rule.Chosen.{unit_end}
use Rattle.rr_model.specs.declared.kind.Kind.{Kind}
use Rattle.rr_model.specs.declared.kind.Kind.TheVariants.{Days, Moments}
use Rattle.rr_model.specs.declared.rule.Freq.{Freq}
use Rattle.rr_model.specs.declared.rule.Freq.TheVariants.{Secondly, Minutely, Hourly, Daily, Weekly, Monthly, Yearly}
use Rattle.rr_model.specs.declared.rule.Rule.{Rule}
use Rattle.rr_cal.proofs.StretchLemmas.{units_are_stretches}
use Rattle.rr_model.proofs.CountLemmas.{one, count_from-first, count_seconds-mono, below_more}
use Rattle.rr_model.specs.Rule.DaysAndTimes.{seconds_of, time_holds}
use Rattle.rr_model.proofs.DaysAndTimesLemmas.{time_parts_hold-at, and_true, candidates_are_days_and_times}
use Rattle.rr_model.proofs.DaysAndTimesLemmas.{day_at, second_at, unit_of_day, second_part-below, moment_is}
use Rattle.rr_model.proofs.MomentLemmas.{second_part-moment_at, day_part-moment_at}
use Rattle.rr_setpos.specs.Ranks.{times_before, days_among, first_of_unit, next_of_unit, rank_in_unit, size_of_unit, begin_in_day}
use Rattle.rr_setpos.specs.Nth.{IsPositionOf, IsRankOf, IsNthOfUnit}
use Rattle.rr_setpos.proofs.PositionLemmas.{positions_are_ranks, within_unit, coarse_rank}
use Rattle.rr_setpos.proofs.PositionLemmas.{coarse_size, candidate_parts, of_moments, fine_begin, fine_next, begin_bounds}

-- ---- ranks and positions

some_from : (p : ℤ → Bool) (t end : ℤ) → t <ℤ end → p t ≡ true → 1 ≤ count_from p t (nat_abs (end -ℤ t))
some_from p t end low passes =
    let n : ℕ = nat_abs (end -ℤ t) - 1 in
    let e : nat_abs (end -ℤ t) ≡ suc n = omega (arith, ints, low) in
    rw e (omega (arith, count_from-first p t n, ap one passes))

module _ (rule : Rule) (kind : Kind) (start : ℤ) where
  -- the rank of a candidate is below the size of its unit
  pub rank_below : (t : ℤ) → is_candidate rule kind start t ≡ true → rank_in_unit rule kind start t < size_of_unit rule kind start t
  rank_below t passes = omega (
    arith,
    (positions_are_ranks rule kind start t passes).1,
    some_from (is_candidate rule kind start) t
        (unit_end rule kind t) (within_unit rule kind t).1 passes,
  )

  module _ (unit position : ℤ) where
    pub nth_some : (t : ℤ) (rank size : ℕ) → unit_number rule.freq rule.week_start kind t ≡ unit → is_candidate rule kind start t ≡ true
        → rank_in_unit rule kind start t ≡ rank → size_of_unit rule kind start t ≡ size → IsPositionOf position size rank
        → IsNthOfUnit rule kind start unit position (Some t)
    nth_some t rank size in_it passes same_rank same_size is_position =
        let p = positions_are_ranks rule kind start t passes in (
          in_it,
          passes,
          elim is_position [
            | inl e ↦ inl (e ∙ ap pos (ap (λ n. n + 1) (sym same_rank) ∙ sym p.0))
            | inr e ↦ inr (e ∙ ap (λ n. neg_ℤ (pos n)) (omega (arith, same_rank, same_size, p.1)))
          ],
        )

    pub nth_none : (size : ℕ) → ((t : ℤ) → unit_number rule.freq rule.week_start kind t ≡ unit → is_candidate rule kind start t ≡ true
        → size_of_unit rule kind start t ≡ size)
        → IsRankOf position size None → IsNthOfUnit rule kind start unit position None
    nth_none size sizes none = λ t in_it passes has.
        let p = positions_are_ranks rule kind start t passes in
        let e = sizes t in_it passes in
        none (rank_in_unit rule kind start t) (omega (arith, rank_below t passes, e)) (elim has [
          | inl f ↦ inl (f ∙ ap pos p.0)
          | inr f ↦ inr (f ∙ ap (λ n. neg_ℤ (pos n)) (omega (arith, e, p.1)))
        ])

    -- a unit that does not fit the interval has no candidate
    pub none_unfit : divides rule.interval (unit -ℤ unit_number rule.freq rule.week_start kind start) ≡ false → IsNthOfUnit rule kind start unit position None
    none_unfit unfit = λ t in_it passes has.
        false≢true (sym unfit ∙ ap (λ u. divides rule.interval (u -ℤ unit_number rule.freq rule.week_start kind start)) (sym in_it)
        ∙ (candidate_parts rule kind start t passes).0)

-- ---- units of whole days

module _ (rule : Rule) (kind : Kind) (start unit : ℤ) (coarse : is_whole_days rule.freq ≡ true) where
  -- the first day of the unit
  abbrev pub first : ℤ
  first = unit_start rule.freq rule.week_start Days unit

  pub own_unit : (t : ℤ) → unit_number rule.freq rule.week_start kind t ≡ unit → unit_number rule.freq rule.week_start Days (day_part kind t) ≡ unit
  own_unit t in_it = sym (unit_of_day rule.freq rule.week_start kind t coarse) ∙ in_it

  module _ (count : ℕ) (length : unit_start rule.freq rule.week_start Days (unit +ℤ pos 1) ≡ unit_start rule.freq rule.week_start Days unit +ℤ pos count) where
    pub size_by_days : (t : ℤ) → unit_number rule.freq rule.week_start kind t ≡ unit → is_candidate rule kind start t ≡ true
        → size_of_unit rule kind start t ≡ days_among rule (day_part kind start) first count * times_before rule kind start (seconds_of kind)
    size_by_days t in_it passes =
        let own = day_part kind t in
        let begins : first_of_unit rule own ≡ first = ap (unit_start rule.freq rule.week_start Days) (own_unit t in_it) in
        let ends : next_of_unit rule own ≡ first +ℤ pos count = ap (λ u. unit_start rule.freq rule.week_start Days (u +ℤ pos 1)) (own_unit t in_it) ∙ length in
        let many : nat_abs (next_of_unit rule own -ℤ first_of_unit rule own) ≡ count = omega (arith, ints, begins, ends) in
        coarse_size rule kind start coarse t passes ∙ rw (many, begins) refl

    module _ (k s : ℕ) (within : k < count) (low : s < seconds_of kind)
        (fits : divides rule.interval (unit -ℤ unit_number rule.freq rule.week_start kind start) ≡ true)
        (dates : date_parts_hold (filled_rule rule Days (day_part kind start)) (unit_start rule.freq rule.week_start Days unit +ℤ pos k) ≡ true)
        (times : time_holds rule kind start s ≡ true) where
      abbrev pub there : ℤ
      there = moment_at kind (first +ℤ pos k) s

      day_there : day_part kind (moment_at kind (first +ℤ pos k) s) ≡ first +ℤ pos k
      day_there = day_at kind (first +ℤ pos k) s low

      unit_of_it : unit_number rule.freq rule.week_start Days (first +ℤ pos k) ≡ unit
      unit_of_it = (units_are_stretches rule.freq rule.week_start Days (first +ℤ pos k) unit).1 (omega (arith, ints), omega (arith, ints, length, within))

      pub in_unit_there : unit_number rule.freq rule.week_start kind (moment_at kind (first +ℤ pos k) s) ≡ unit
      in_unit_there = unit_of_day rule.freq rule.week_start kind there coarse ∙ ap (unit_number rule.freq rule.week_start Days) day_there ∙ unit_of_it

      pub candidate_there : is_candidate rule kind start (moment_at kind (first +ℤ pos k) s) ≡ true
      candidate_there =
          let own : unit_number rule.freq rule.week_start kind start ≡ unit_number rule.freq rule.week_start Days (day_part kind start) =
          unit_of_day rule.freq rule.week_start kind start coarse in
          let fit : interval_holds rule Days (day_part kind start) (first +ℤ pos k) ≡ true =
          ap (λ u. divides rule.interval (u -ℤ unit_number rule.freq rule.week_start Days (day_part kind start))) unit_of_it
          ∙ ap (λ u. divides rule.interval (unit -ℤ u)) (sym own) ∙ fits in
          candidates_are_days_and_times rule kind start (first +ℤ pos k) s coarse low ∙ rw (fit, dates, times) refl

      pub rank_there : rank_in_unit rule kind start (moment_at kind (first +ℤ pos k) s)
          ≡ days_among rule (day_part kind start) first k * times_before rule kind start (seconds_of kind) + times_before rule kind start s
      rank_there =
          let begins : first_of_unit rule (first +ℤ pos k) ≡ first = ap (unit_start rule.freq rule.week_start Days) unit_of_it in
          let far : nat_abs ((first +ℤ pos k) -ℤ first_of_unit rule (first +ℤ pos k)) ≡ k = omega (arith, ints, begins) in
          coarse_rank rule kind start coarse there candidate_there ∙ rw (day_there, second_at kind (first +ℤ pos k) s low, far, begins) refl

-- ---- units shorter than a day

module _ (rule : Rule) (start unit : ℤ) (fine : is_whole_days rule.freq ≡ false) where
  abbrev pub begin : ℤ
  begin = unit_start rule.freq rule.week_start Moments unit

  -- a moment of the unit lies on the unit's day, and the unit begins there
  pub begin_on_day : (t : ℤ) → unit_number rule.freq rule.week_start Moments t ≡ unit
      → (day_part Moments (unit_start rule.freq rule.week_start Moments unit) ≡ day_part Moments t)
      × (second_part Moments (unit_start rule.freq rule.week_start Moments unit) ≡ begin_in_day rule (second_part Moments t))
  begin_on_day t in_it =
      let d = day_part Moments t in
      let s = second_part Moments t in
      let bounds = begin_bounds rule.freq s (second_part-below Moments t) in
      let low : begin_in_day rule s < 86_400 = omega (arith, bounds.0, second_part-below Moments t) in
      let at : unit_start rule.freq rule.week_start Moments unit ≡ moment_at Moments d (begin_in_day rule s) =
      ap (unit_start rule.freq rule.week_start Moments) (sym in_it ∙ ap (unit_number rule.freq rule.week_start Moments) (moment_is Moments t))
      ∙ fine_begin rule.freq rule.week_start d s fine in (
        ap (day_part Moments) at ∙ day_part-moment_at d (begin_in_day rule s) low,
        ap (second_part Moments) at
            ∙ second_part-moment_at d (begin_in_day rule s) low,
      )

  begin_in_unit : unit_number rule.freq rule.week_start Moments (unit_start rule.freq rule.week_start Moments unit) ≡ unit
  begin_in_unit = (units_are_stretches rule.freq rule.week_start Moments begin unit).1
      (omega (arith, ints), omega (arith, ints, fine_next rule.freq rule.week_start unit fine, begin_bounds rule.freq 0 (omega arith)))

  -- the unit ends on its day
  pub unit_within : second_part Moments (unit_start rule.freq rule.week_start Moments unit) + unit_seconds rule.freq ≤ 86_400
  unit_within = omega (arith, (begin_on_day begin begin_in_unit).1, (begin_bounds rule.freq (second_part Moments begin) (second_part-below Moments begin)).2)

  pub none_on_day : (position : ℤ) → date_parts_hold (filled_rule rule Days (day_part Moments start))
      (day_part Moments (unit_start rule.freq rule.week_start Moments unit)) ≡ false → IsNthOfUnit rule Moments start unit position None
  none_on_day position fails = λ t in_it passes has.
      false≢true (sym fails ∙ ap (date_parts_hold (filled_rule rule Moments start)) (begin_on_day t in_it).0 ∙ (candidate_parts rule Moments start t passes).1)

  pub size_in_day : (t : ℤ) → unit_number rule.freq rule.week_start Moments t ≡ unit → is_candidate rule Moments start t ≡ true
      → size_of_unit rule Moments start t ≡ times_before rule Moments start
      (second_part Moments (unit_start rule.freq rule.week_start Moments unit) + unit_seconds rule.freq) - times_before rule Moments start
      (second_part Moments (unit_start rule.freq rule.week_start Moments unit))
  size_in_day t in_it passes = (of_moments rule start t fine passes).1 ∙ rw (begin_on_day t in_it).1 refl

  before_all : (m n : ℕ) → m ≤ n → times_before rule Moments start m ≤ times_before rule Moments start n
  before_all m n l =
      let e : m + (n - m) ≡ n = omega (arith, l) in
      omega (arith, count_seconds-mono (λ s. time_holds rule Moments start s) m (n - m), ap (times_before rule Moments start) e)

  -- a rank below the unit's end is one of the day
  pub rank_in_day : (rank : ℕ) → rank < times_before rule Moments start
      (second_part Moments (unit_start rule.freq rule.week_start Moments unit) + unit_seconds rule.freq) - times_before rule Moments start
      (second_part Moments (unit_start rule.freq rule.week_start Moments unit))
      → times_before rule Moments start (second_part Moments (unit_start rule.freq rule.week_start Moments unit))
      + rank < times_before rule Moments start 86_400
  rank_in_day rank low = omega (arith, low, before_all (second_part Moments begin + unit_seconds rule.freq) 86_400 unit_within)

  module _ (s rank : ℕ) (low : s < 86_400) (fits : divides rule.interval (unit -ℤ unit_number rule.freq rule.week_start Moments start) ≡ true)
      (dates : date_parts_hold (filled_rule rule Days (day_part Moments start)) (day_part Moments (unit_start rule.freq rule.week_start Moments unit))
      ≡ true) (times : time_holds rule Moments start s ≡ true)
      (few : rank < times_before rule Moments start
      (second_part Moments (unit_start rule.freq rule.week_start Moments unit) + unit_seconds rule.freq) - times_before rule Moments start
      (second_part Moments (unit_start rule.freq rule.week_start Moments unit)))
      (at_rank : times_before rule Moments start s ≡ times_before rule Moments start
      (second_part Moments (unit_start rule.freq rule.week_start Moments unit)) + rank) where
    abbrev d : ℤ
    d = day_part Moments (unit_start rule.freq rule.week_start Moments unit)

    after : second_part Moments (unit_start rule.freq rule.week_start Moments unit) ≤ s
    after = elim (cases_lt s (second_part Moments begin)) [
      | inl l ↦ absurd (omega (
        arith,
        before_all (s + 1) (second_part Moments begin) (omega (arith, l)),
        below_more
            (λ k. time_holds rule Moments start k) s times,
        at_rank,
      ))
      | inr g ↦ g
    ]

    before : s < second_part Moments (unit_start rule.freq rule.week_start Moments unit) + unit_seconds rule.freq
    before = elim (cases_lt s (second_part Moments begin + unit_seconds rule.freq)) [
      | inl l ↦ l
      | inr g ↦ absurd (omega (arith, before_all (second_part Moments begin + unit_seconds rule.freq) s g, at_rank, few))
    ]

    pub in_fine_unit : unit_number rule.freq rule.week_start Moments
        (moment_at Moments (day_part Moments (unit_start rule.freq rule.week_start Moments unit)) s) ≡ unit
    in_fine_unit =
        let at = moment_is Moments begin in
        (units_are_stretches rule.freq rule.week_start Moments (moment_at Moments (day_part Moments begin) s) unit).1
        (omega (arith, ints, at, after), omega (arith, ints, at, before, fine_next rule.freq rule.week_start unit fine))

    pub candidate_in_fine : is_candidate rule Moments start (moment_at Moments (day_part Moments (unit_start rule.freq rule.week_start Moments unit)) s) ≡ true
    unfolding is_candidate
    candidate_in_fine =
        and_true _ _ _
        (ap (λ u. divides rule.interval (u -ℤ unit_number rule.freq rule.week_start Moments start)) in_fine_unit ∙ fits)
        (ap (date_parts_hold (filled_rule rule Moments start)) (day_part-moment_at (day_part Moments begin) s low) ∙ dates)
        (time_parts_hold-at (filled_rule rule Moments start) (day_part Moments begin) s low
        ∙ sym (time_parts_hold-at (filled_rule rule Moments start) (pos 0) s low) ∙ times)

    pub rank_in_fine : rank_in_unit rule Moments start (moment_at Moments (day_part Moments (unit_start rule.freq rule.week_start Moments unit)) s) ≡ rank
    rank_in_fine =
        let t = moment_at Moments (day_part Moments begin) s in
        let begun = (begin_on_day t in_fine_unit).1 in
        (of_moments rule start t fine candidate_in_fine).0 ∙ rw (sym begun, second_part-moment_at (day_part Moments begin) s low) (omega (arith, at_rank))

some_seconds : (kind : Kind) → 0 < seconds_of kind
some_seconds Days = omega arith
some_seconds Moments = omega arith

-- where units shorter than a day begin does not depend on the week
pub fine_start : (freq : Freq) (w : ℕ) (u : ℤ) → is_whole_days freq ≡ false → unit_start freq 0 Moments u ≡ unit_start freq w Moments u
fine_start Secondly w u fine = refl
fine_start Minutely w u fine = refl
fine_start Hourly w u fine = refl
fine_start Daily w u fine = absurd (cc)
fine_start Weekly w u fine = absurd (cc)
fine_start Monthly w u fine = absurd (cc)
fine_start Yearly w u fine = absurd (cc)

-- a unit of whole days begins on its first day
pub begin_day : (freq : Freq) (w : ℕ) (kind : Kind) (u : ℤ) → is_whole_days freq ≡ true → day_part kind (unit_start freq w kind u) ≡ unit_start freq w Days u
begin_day Secondly w kind u coarse = absurd (cc)
begin_day Minutely w kind u coarse = absurd (cc)
begin_day Hourly w kind u coarse = absurd (cc)
begin_day Daily w kind u coarse = day_at kind _ 0 (some_seconds kind)
begin_day Weekly w kind u coarse = day_at kind _ 0 (some_seconds kind)
begin_day Monthly w kind u coarse = day_at kind _ 0 (some_seconds kind)
begin_day Yearly w kind u coarse = day_at kind _ 0 (some_seconds kind)

-- where a unit shorter than a day begins, and on which day
pub unit_begins : (rule : Rule) (kind : Kind) (unit made at day : ℤ) → is_whole_days rule.freq ≡ false → made ≡ unit_start rule.freq 0 Moments unit
    → at ≡ made → kind ≡ Moments → day ≡ day_part kind at
    → (at ≡ unit_start rule.freq rule.week_start Moments unit) × (day ≡ day_part Moments (unit_start rule.freq rule.week_start Moments unit))
unit_begins rule kind unit made at day fine is same moments of_day =
    let there = same ∙ is ∙ fine_start rule.freq rule.week_start unit fine in
    (there, of_day ∙ ap (λ k. day_part k at) moments ∙ ap (day_part Moments) there)
