-- The positions of a candidate among those of its unit, counted over days and times.
use Rattle.std.proofs.Common.{◌≡◌, ℕ, zero, suc, ◌+◌, ◌-◌, ◌*◌, ◌/◌, ◌%◌, ◌<◌, ◌≤◌, Bool, true, false, cond, ℤ, pos, nat_abs, ◌+ℤ◌, ◌-ℤ◌, ◌*ℤ◌, ◌≤ℤ◌}
use Rattle.std.proofs.Common.{◌<ℤ◌, refl, sym, ap, ◌∙◌, arith}
use Rattle.std.specs.Prelude.{IsTrue}
use Rattle.std.proofs.lemmas.Int.{ints}
use Rattle.std.proofs.lemmas.Bool.{and_parts}
use Rattle.rr_model.specs.Whole.{divides}
use Rattle.rr_model.specs.Whole.Count.{count_from}
use Rattle.rr_model.specs.Moment.{day_part, second_part, moment_at}
use Rattle.rr_model.specs.Moment.Units.{unit_number, unit_start, is_whole_days, unit_seconds}
use Rattle.rr_model.specs.Rule.Validity.{takes_start}
use Rattle.rr_model.specs.Rule.Filled.{filled_rule}
use Rattle.rr_model.specs.Rule.Candidate.{interval_holds, date_parts_hold, time_parts_hold, is_candidate}
use Rattle.rr_model.specs.Rule.Chosen.{unit_begin, unit_end, position_from_front, position_from_back, is_chosen}
use Rattle.rr_model.specs.declared.kind.Kind.{Kind}
use Rattle.rr_model.specs.declared.kind.Kind.TheVariants.{Days, Moments}
use Rattle.rr_model.specs.declared.rule.Freq.{Freq}
use Rattle.rr_model.specs.declared.rule.Freq.TheVariants.{Secondly, Minutely, Hourly, Daily, Weekly, Monthly, Yearly}
use Rattle.rr_model.specs.declared.rule.Rule.{Rule}
use Rattle.rr_model.proofs.WholeLemmas.{floor_only, floor_whole}
use Rattle.rr_cal.proofs.StretchLemmas.{units_are_stretches}
use Rattle.rr_model.proofs.CountLemmas.{count_from-zero, count_from-suc}
use Rattle.rr_model.proofs.CountLemmas.{count_from-split, count_from-same, count_seconds-zero, count_seconds-suc, count_seconds-split}
use Rattle.rr_model.specs.Rule.DaysAndTimes.{seconds_of, time_holds, day_holds}
use Rattle.rr_model.proofs.DaysAndTimesLemmas.{time_parts_hold-at, and_parts as all_parts, candidates_are_days_and_times}
use Rattle.rr_model.proofs.DaysAndTimesLemmas.{second_part-below, moment_is, unit_of_day, only_moments}
use Rattle.rr_model.proofs.MomentLemmas.{day_part-moment_at}
use Rattle.rr_model.specs.Sets.Counting.{count_seconds}
use Rattle.rr_setpos.specs.Ranks.{times_before, days_among, first_of_unit, next_of_unit, days_before, days_of_unit, rank_in_unit, size_of_unit}
use Rattle.rr_setpos.specs.Ranks.{begin_in_day, rank_by_parts, size_by_parts, is_rank_listed, PositionsAreByParts, SetPositionsAreByParts}
use Rattle.rr_setpos.proofs.ProductLemmas.{IsProduct, count_product}

-- ---- positions are ranks: from the front one more, from the back what is left

module _ (p : ℤ → Bool) (begin t : ℤ) where
  front_is : begin ≤ℤ t → p t ≡ true → count_from p begin (nat_abs ((t -ℤ begin) +ℤ pos 1)) ≡ count_from p begin (nat_abs (t -ℤ begin)) + 1
  front_is low passes =
      let n : ℕ = nat_abs (t -ℤ begin) in
      let e : nat_abs ((t -ℤ begin) +ℤ pos 1) ≡ suc n = omega (arith, ints, low) in
      let f : begin +ℤ pos n ≡ t = omega (arith, ints, low) in
      ap (count_from p begin) e ∙ count_from-suc p begin n ∙ rw (f, passes) refl

  back_is : (end : ℤ) → begin ≤ℤ t → t ≤ℤ end → count_from p t (nat_abs (end -ℤ t))
      ≡ count_from p begin (nat_abs (end -ℤ begin)) - count_from p begin (nat_abs (t -ℤ begin))
  back_is end low high =
      let n : ℕ = nat_abs (t -ℤ begin) in
      let m : ℕ = nat_abs (end -ℤ t) in
      let e : nat_abs (end -ℤ begin) ≡ n + m = omega (arith, ints, low, high) in
      let f : begin +ℤ pos n ≡ t = omega (arith, ints, low) in
      omega (arith, ap (count_from p begin) e, count_from-split p begin n m, ap (λ z. count_from p z m) f)

pub within_unit : (rule : Rule) (kind : Kind) (t : ℤ) → (unit_begin rule kind t ≤ℤ t) × (t <ℤ unit_end rule kind t)
within_unit rule kind t = (units_are_stretches rule.freq rule.week_start kind t (unit_number rule.freq rule.week_start kind t)).0 refl

pub positions_are_ranks : (rule : Rule) (kind : Kind) (start t : ℤ) → is_candidate rule kind start t ≡ true
    → (position_from_front rule kind start t ≡ rank_in_unit rule kind start t + 1)
    × (position_from_back rule kind start t ≡ size_of_unit rule kind start t - rank_in_unit rule kind start t)
positions_are_ranks rule kind start t passes =
    let within = within_unit rule kind t in (
      front_is (is_candidate rule kind start) (unit_begin rule kind t) t within.0 passes,
      back_is (is_candidate rule kind start) (unit_begin rule kind t) t (unit_end rule kind t) within.0 (omega (arith, ints, within.1)),
    )

-- ---- units of whole days

midnight : (kind : Kind) (d : ℤ) → moment_at kind d 0 ≡ d *ℤ pos (seconds_of kind)
midnight Days d = omega (arith, ints)
midnight Moments d = omega (arith, ints)

-- it begins at the midnight of its first day
pub start_of_days : (freq : Freq) (w : ℕ) (kind : Kind) (u : ℤ) → is_whole_days freq ≡ true
    → unit_start freq w kind u ≡ unit_start freq w Days u *ℤ pos (seconds_of kind)
start_of_days Secondly w kind u e = absurd (cc)
start_of_days Minutely w kind u e = absurd (cc)
start_of_days Hourly w kind u e = absurd (cc)
start_of_days Daily w kind u e = midnight kind _
start_of_days Weekly w kind u e = midnight kind _
start_of_days Monthly w kind u e = midnight kind _
start_of_days Yearly w kind u e = midnight kind _

at_second : (kind : Kind) (d : ℤ) (s : ℕ) → s < seconds_of kind → moment_at kind d s ≡ (d *ℤ pos (seconds_of kind)) +ℤ pos s
at_second Days d s low = omega (arith, ints, low)
at_second Moments d s low = refl

-- how far a moment lies from the midnight of a day
offset_in_days : (kind : Kind) (t first : ℤ) → first ≤ℤ day_part kind t
    → nat_abs (t -ℤ (first *ℤ pos (seconds_of kind))) ≡ nat_abs (day_part kind t -ℤ first) * seconds_of kind + second_part kind t
offset_in_days Days t first low = omega (arith, ints, low)
offset_in_days Moments t first low = omega (arith, ints, low, floor_whole t 86_400 (omega arith))

days_between : (kind : Kind) (first next : ℤ) → first ≤ℤ next → nat_abs ((next *ℤ pos (seconds_of kind)) -ℤ (first *ℤ pos (seconds_of kind)))
    ≡ nat_abs (next -ℤ first) * seconds_of kind + 0
days_between Days first next low = omega (arith, ints, low)
days_between Moments first next low = omega (arith, ints, low)

-- of nothing
pub some_zero : (b : Bool) (n : ℕ) → n ≡ 0 → cond b n 0 ≡ 0
some_zero true n e = e
some_zero false n e = refl

module _ (rule : Rule) (kind : Kind) (start : ℤ) (coarse : is_whole_days rule.freq ≡ true) where
  -- the candidates are days and times
  abbrev pub day : ℤ → Bool
  day = day_holds rule (day_part kind start)

  abbrev pub time : ℕ → Bool
  time s = time_holds rule kind start s

  product : IsProduct (seconds_of kind) (is_candidate rule kind start) day time
  product d s low = ap (is_candidate rule kind start) (sym (at_second kind d s low)) ∙ candidates_are_days_and_times rule kind start d s coarse low

  module _ (t : ℤ) (passes : is_candidate rule kind start t ≡ true) where
    abbrev own : ℤ
    own = day_part kind t

    abbrev first : ℤ
    first = first_of_unit rule own

    abbrev next : ℤ
    next = next_of_unit rule own

    in_days : (first_of_unit rule own ≤ℤ own) × (own <ℤ next_of_unit rule own)
    in_days = (units_are_stretches rule.freq rule.week_start Days own (unit_number rule.freq rule.week_start Days own)).0 refl

    -- its own day holds
    pub own_day : day_holds rule (day_part kind start) own ≡ true
    own_day =
        (and_parts (day own) (time (second_part kind t))
        (sym (candidates_are_days_and_times rule kind start own (second_part kind t) coarse (second_part-below kind t))
        ∙ ap (is_candidate rule kind start) (sym (moment_is kind t)) ∙ passes)).0

    -- on its unit's days the date parts decide
    day_of_unit : (d : ℤ) → first ≤ℤ d → d <ℤ next → day d ≡ date_parts_hold (filled_rule rule Days (day_part kind start)) d
    day_of_unit d low high =
        let same : unit_number rule.freq rule.week_start Days d ≡ unit_number rule.freq rule.week_start Days own =
        (units_are_stretches rule.freq rule.week_start Days d _).1 (low, high) in
        let fits : interval_holds rule Days (day_part kind start) own ≡ true = (and_parts _ _ own_day).0 in
        let here : interval_holds rule Days (day_part kind start) d ≡ true =
        ap (λ u. divides rule.interval (u -ℤ unit_number rule.freq rule.week_start Days (day_part kind start))) same ∙ fits in
        rw here refl

    begin_is : unit_begin rule kind t ≡ first *ℤ pos (seconds_of kind)
    begin_is = ap (unit_start rule.freq rule.week_start kind) (unit_of_day rule.freq rule.week_start kind t coarse)
        ∙ start_of_days rule.freq rule.week_start kind _ coarse

    end_is : unit_end rule kind t ≡ next *ℤ pos (seconds_of kind)
    end_is = ap (λ u. unit_start rule.freq rule.week_start kind (u +ℤ pos 1)) (unit_of_day rule.freq rule.week_start kind t coarse)
        ∙ start_of_days rule.freq rule.week_start kind _ coarse

    counted : (n s : ℕ) → n ≤ nat_abs (next -ℤ first) → s ≤ seconds_of kind
        → count_from (is_candidate rule kind start) (first *ℤ pos (seconds_of kind)) (n * seconds_of kind + s)
        ≡ days_among rule (day_part kind start) first n * times_before rule kind start (seconds_of kind)
        + cond (day (first +ℤ pos n)) (times_before rule kind start s) 0
    counted n s few low =
        count_product (seconds_of kind) (is_candidate rule kind start) day time product first n s low
        ∙ rw (count_from-same day (λ d. date_parts_hold (filled_rule rule Days (day_part kind start)) d) first n
        (λ d a b. day_of_unit d a (omega (arith, ints, a, b, few, in_days.0, in_days.1)))) refl

    pub coarse_rank : rank_in_unit rule kind start t ≡ days_before rule (day_part kind start) own * times_before rule kind start (seconds_of kind)
        + times_before rule kind start (second_part kind t)
    coarse_rank =
        let n : ℕ = nat_abs (own -ℤ first) in
        let at : first +ℤ pos n ≡ own = omega (arith, ints, in_days.0) in
        let low = second_part-below kind t in
        let offset : nat_abs (t -ℤ unit_begin rule kind t) ≡ n * seconds_of kind + second_part kind t = ap (λ z. nat_abs (t -ℤ z)) begin_is
        ∙ offset_in_days kind t first in_days.0 in
        ap (λ z. count_from (is_candidate rule kind start) z (nat_abs (t -ℤ unit_begin rule kind t))) begin_is
        ∙ ap (count_from (is_candidate rule kind start) (first *ℤ pos (seconds_of kind))) offset
        ∙ counted n (second_part kind t) (omega (arith, ints, in_days.0, in_days.1)) (omega (arith, low))
        ∙ rw (at, own_day) refl

    pub coarse_size : size_of_unit rule kind start t ≡ days_of_unit rule (day_part kind start) own * times_before rule kind start (seconds_of kind)
    coarse_size =
        let n : ℕ = nat_abs (next -ℤ first) in
        let offset : nat_abs (unit_end rule kind t -ℤ unit_begin rule kind t) ≡ n * seconds_of kind + 0 =
        rw (begin_is, end_is) (days_between kind first next (omega (arith, ints, in_days.0, in_days.1))) in
        ap (λ z. count_from (is_candidate rule kind start) z (nat_abs (unit_end rule kind t -ℤ unit_begin rule kind t))) begin_is
        ∙ ap (count_from (is_candidate rule kind start) (first *ℤ pos (seconds_of kind))) offset
        ∙ counted n 0 (omega arith) (omega arith)
        ∙ omega (arith, some_zero (day (first +ℤ pos n)) (times_before rule kind start 0) (count_seconds-zero time))

-- ---- units shorter than a day

below_is : (p : ℤ → Bool) (f : ℕ → Bool) (q : ℤ) (n : ℕ) → ((j : ℕ) → j < n → p (q +ℤ pos j) ≡ f j) → count_from p q n ≡ count_seconds f n
below_is p f q zero same = count_from-zero p q ∙ sym (count_seconds-zero f)
below_is p f q (suc n) same = count_from-suc p q n ∙ (rw (same n (omega arith), below_is p f q n (λ j l. same j (omega arith))) (sym (count_seconds-suc f n)))

-- where the unit of a second of a day begins and ends
pub fine_begin : (freq : Freq) (w : ℕ) (d : ℤ) (s : ℕ) → is_whole_days freq ≡ false
    → unit_start freq w Moments (unit_number freq w Moments (moment_at Moments d s)) ≡ moment_at Moments d (s / unit_seconds freq * unit_seconds freq)
fine_begin Secondly w d s fine = omega (arith, ints)
fine_begin Minutely w d s fine =
    let a = (floor_only ((d *ℤ pos 86_400) +ℤ pos s) ((d *ℤ pos 1_440) +ℤ pos (s / 60)) 60 (s % 60) (omega arith) (omega (arith, ints))).0 in
    omega (arith, ints, a)
fine_begin Hourly w d s fine =
    let a = (floor_only ((d *ℤ pos 86_400) +ℤ pos s) ((d *ℤ pos 24) +ℤ pos (s / 3_600)) 3_600 (s % 3_600) (omega arith) (omega (arith, ints))).0 in
    omega (arith, ints, a)
fine_begin Daily w d s fine = absurd (cc)
fine_begin Weekly w d s fine = absurd (cc)
fine_begin Monthly w d s fine = absurd (cc)
fine_begin Yearly w d s fine = absurd (cc)

pub fine_next : (freq : Freq) (w : ℕ) (u : ℤ) → is_whole_days freq ≡ false
    → unit_start freq w Moments (u +ℤ pos 1) ≡ unit_start freq w Moments u +ℤ pos (unit_seconds freq)
fine_next Secondly w u fine = refl
fine_next Minutely w u fine = omega (arith, ints)
fine_next Hourly w u fine = omega (arith, ints)
fine_next Daily w u fine = absurd (cc)
fine_next Weekly w u fine = absurd (cc)
fine_next Monthly w u fine = absurd (cc)
fine_next Yearly w u fine = absurd (cc)

-- a unit lies in one day
pub begin_bounds : (freq : Freq) (s : ℕ) → s < 86_400 → (s / unit_seconds freq * unit_seconds freq ≤ s)
    × (s < s / unit_seconds freq * unit_seconds freq + unit_seconds freq) × (s / unit_seconds freq * unit_seconds freq + unit_seconds freq ≤ 86_400)
begin_bounds Hourly s low = (omega (arith, low), omega (arith, low), omega (arith, low))
begin_bounds Minutely s low = (omega (arith, low), omega (arith, low), omega (arith, low))
begin_bounds Secondly s low = (omega (arith, low), omega (arith, low), omega (arith, low))
begin_bounds Daily s low = (omega (arith, low), omega (arith, low), omega (arith, low))
begin_bounds Weekly s low = (omega (arith, low), omega (arith, low), omega (arith, low))
begin_bounds Monthly s low = (omega (arith, low), omega (arith, low), omega (arith, low))
begin_bounds Yearly s low = (omega (arith, low), omega (arith, low), omega (arith, low))

pub candidate_parts : (rule : Rule) (kind : Kind) (start t : ℤ) → is_candidate rule kind start t ≡ true → (interval_holds rule kind start t ≡ true)
    × (date_parts_hold (filled_rule rule kind start) (day_part kind t) ≡ true) × (time_parts_hold (filled_rule rule kind start) kind t ≡ true)
unfolding is_candidate
candidate_parts rule kind start t e = all_parts _ _ _ e

-- in its unit the time parts decide
candidate_beside : (rule : Rule) (start d : ℤ) (s r : ℕ) → s < 86_400 → r < 86_400 → is_candidate rule Moments start (moment_at Moments d s) ≡ true
    → unit_number rule.freq rule.week_start Moments (moment_at Moments d r) ≡ unit_number rule.freq rule.week_start Moments (moment_at Moments d s)
    → is_candidate rule Moments start (moment_at Moments d r) ≡ time_holds rule Moments start r
unfolding is_candidate
candidate_beside rule start d s r low few passes same =
    let parts = candidate_parts rule Moments start (moment_at Moments d s) passes in
    let fits : interval_holds rule Moments start (moment_at Moments d r) ≡ true =
    ap (λ u. divides rule.interval (u -ℤ unit_number rule.freq rule.week_start Moments start)) same ∙ parts.0 in
    let dates : date_parts_hold (filled_rule rule Moments start) (day_part Moments (moment_at Moments d r)) ≡ true =
    ap (date_parts_hold (filled_rule rule Moments start)) (day_part-moment_at d r few ∙ sym (day_part-moment_at d s low)) ∙ parts.1 in
    rw (fits, dates) (time_parts_hold-at (filled_rule rule Moments start) d r few ∙ sym (time_parts_hold-at (filled_rule rule Moments start) (pos 0) r few))

module _ (rule : Rule) (start d : ℤ) (s : ℕ) (fine : is_whole_days rule.freq ≡ false) (low : s < 86_400)
    (passes : is_candidate rule Moments start (moment_at Moments d s) ≡ true) where
  at_begin : unit_begin rule Moments (moment_at Moments d s) ≡ moment_at Moments d (begin_in_day rule s)
  at_begin = fine_begin rule.freq rule.week_start d s fine

  at_end : unit_end rule Moments (moment_at Moments d s) ≡ moment_at Moments d (begin_in_day rule s + unit_seconds rule.freq)
  at_end = fine_next rule.freq rule.week_start (unit_number rule.freq rule.week_start Moments (moment_at Moments d s)) fine ∙ omega (arith, ints, at_begin)

  beside : (r : ℕ) → begin_in_day rule s ≤ r → r < begin_in_day rule s + unit_seconds rule.freq
      → is_candidate rule Moments start (moment_at Moments d r) ≡ time_holds rule Moments start r
  beside r after before =
      let bounds = begin_bounds rule.freq s low in
      let same = (units_are_stretches rule.freq rule.week_start Moments (moment_at Moments d r)
      (unit_number rule.freq rule.week_start Moments (moment_at Moments d s))).1
      (omega (arith, ints, after, at_begin), omega (arith, ints, before, at_end)) in
      candidate_beside rule start d s r low (omega (arith, before, bounds.2)) passes same

  -- of the unit's first n seconds
  first_of_it : (n : ℕ) → n ≤ unit_seconds rule.freq → count_from (is_candidate rule Moments start)
      (unit_begin rule Moments (moment_at Moments d s)) n ≡ times_before rule Moments start
      (begin_in_day rule s + n) - times_before rule Moments start (begin_in_day rule s)
  first_of_it n few =
      let counted = below_is (is_candidate rule Moments start) (λ j. time_holds rule Moments start (begin_in_day rule s + j))
      (moment_at Moments d (begin_in_day rule s)) n
      (λ j l. (let at : moment_at Moments d (begin_in_day rule s) +ℤ pos j ≡ moment_at Moments d (begin_in_day rule s + j) = omega (arith, ints) in
      ap (is_candidate rule Moments start) at ∙ beside (begin_in_day rule s + j) (omega arith) (omega (arith, l, few)))) in
      ap (λ z. count_from (is_candidate rule Moments start) z n) at_begin ∙ counted
      ∙ omega (arith, count_seconds-split (λ k. time_holds rule Moments start k) (begin_in_day rule s) n)

  pub fine_rank : rank_in_unit rule Moments start (moment_at Moments d s)
      ≡ times_before rule Moments start s - times_before rule Moments start (begin_in_day rule s)
  fine_rank =
      let bounds = begin_bounds rule.freq s low in
      let n : ℕ = s - begin_in_day rule s in
      let offset : nat_abs (moment_at Moments d s -ℤ unit_begin rule Moments (moment_at Moments d s)) ≡ n = omega (arith, ints, at_begin, bounds.0) in
      let back : begin_in_day rule s + n ≡ s = omega (arith, bounds.0) in
      ap (count_from (is_candidate rule Moments start) (unit_begin rule Moments (moment_at Moments d s))) offset
      ∙ first_of_it n (omega (arith, bounds.1)) ∙ ap (λ z. times_before rule Moments start z - times_before rule Moments start (begin_in_day rule s)) back

  pub fine_size : size_of_unit rule Moments start (moment_at Moments d s)
      ≡ times_before rule Moments start (begin_in_day rule s + unit_seconds rule.freq) - times_before rule Moments start (begin_in_day rule s)
  fine_size =
      let n : ℕ = unit_seconds rule.freq in
      let offset : nat_abs (unit_end rule Moments (moment_at Moments d s) -ℤ unit_begin rule Moments (moment_at Moments d s)) ≡ n =
      omega (arith, ints, at_begin, at_end) in
      ap (count_from (is_candidate rule Moments start) (unit_begin rule Moments (moment_at Moments d s))) offset ∙ first_of_it n (omega arith)

-- ---- all frequencies

pub of_moments : (rule : Rule) (start t : ℤ) → is_whole_days rule.freq ≡ false → is_candidate rule Moments start t ≡ true
    → (rank_in_unit rule Moments start t ≡ times_before rule Moments start (second_part Moments t) - times_before rule Moments start
    (begin_in_day rule (second_part Moments t)))
    × (size_of_unit rule Moments start t ≡ times_before rule Moments start
    (begin_in_day rule (second_part Moments t) + unit_seconds rule.freq) - times_before rule Moments start (begin_in_day rule (second_part Moments t)))
of_moments rule start t fine passes =
    let low = second_part-below Moments t in
    let at = moment_is Moments t in
    let here = ap (is_candidate rule Moments start) (sym at) ∙ passes in
    let d = day_part Moments t in
    let s = second_part Moments t in (
      ap (rank_in_unit rule Moments start) at ∙ fine_rank rule start d s fine low here,
      ap (size_of_unit rule Moments start) at ∙ fine_size rule start d s fine low here,
    )

of_kind : (rule : Rule) (kind : Kind) (start t : ℤ) → kind ≡ Moments → is_whole_days rule.freq ≡ false → is_candidate rule kind start t ≡ true
    → (rank_in_unit rule kind start t ≡ times_before rule kind start (second_part kind t) - times_before rule kind start
    (begin_in_day rule (second_part kind t)))
    × (size_of_unit rule kind start t ≡ times_before rule kind start
    (begin_in_day rule (second_part kind t) + unit_seconds rule.freq) - times_before rule kind start (begin_in_day rule (second_part kind t)))
of_kind rule Days start t e fine passes = absurd (cc)
of_kind rule Moments start t e fine passes = of_moments rule start t fine passes

cases_of : (c : Bool) (x m n : ℕ) → (c ≡ true → x ≡ m) → (c ≡ false → x ≡ n) → x ≡ cond c m n
cases_of true x m n whole short = whole refl
cases_of false x m n whole short = short refl

pub ranks_are_by_parts : (rule : Rule) (kind : Kind) (start t : ℤ) → IsTrue (takes_start rule.freq kind) → is_candidate rule kind start t ≡ true
    → (rank_in_unit rule kind start t ≡ rank_by_parts rule kind start t) × (size_of_unit rule kind start t ≡ size_by_parts rule kind start t)
ranks_are_by_parts rule kind start t taken passes = (
  cases_of (is_whole_days rule.freq) _ _ _ (λ e. coarse_rank rule kind start e t passes)
      (λ e. (of_kind rule kind start t (only_moments rule.freq kind taken e) e passes).0),
  cases_of (is_whole_days rule.freq) _ _ _ (λ e. coarse_size rule kind start e t passes)
      (λ e. (of_kind rule kind start t (only_moments rule.freq kind taken e) e passes).1),
)

pub positions_are_by_parts : PositionsAreByParts
positions_are_by_parts rule kind start t taken passes =
    let p = positions_are_ranks rule kind start t passes in
    let r = ranks_are_by_parts rule kind start t taken passes in
    (p.0 ∙ ap (λ n. n + 1) r.0, p.1 ∙ omega (arith, r.0, r.1))

pub set_positions_are_by_parts : SetPositionsAreByParts
set_positions_are_by_parts rule kind start t taken passes = let p = positions_are_by_parts rule kind start t taken passes in rw (p.0, p.1) refl

-- ---- chosen moments

pub chosen_candidate : (rule : Rule) (kind : Kind) (start t : ℤ) → IsTrue (takes_start rule.freq kind) → is_candidate rule kind start t ≡ true
    → is_chosen rule kind start t ≡ is_rank_listed rule (rank_by_parts rule kind start t) (size_by_parts rule kind start t)
unfolding is_chosen
chosen_candidate rule kind start t taken passes = rw passes (set_positions_are_by_parts rule kind start t taken passes)

pub chosen_no_candidate : (rule : Rule) (kind : Kind) (start t : ℤ) → is_candidate rule kind start t ≡ false → is_chosen rule kind start t ≡ false
unfolding is_chosen
chosen_no_candidate rule kind start t fails = rw fails refl
