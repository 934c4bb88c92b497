-- In units shorter than a day the positions are counted from the unit's begin: the same in each unit.
use Rattle.std.proofs.Common.{◌≡◌, ℕ, ◌+◌, ◌*◌, ◌/◌, ◌%◌, ◌<◌, ◌≤◌, Bool, true, false, cond, ◌&&◌, List, [], ◌∷◌, ◌++◌, length, get_or, Contains, is_ok}
use Rattle.std.proofs.Common.{nat_cmp, inl, inr, ℤ, refl, sym, ap, subst, ◌∙◌, arith}
use Rattle.std.specs.Prelude.{◌⊎◌, ◌↔◌, IsTrue, Result, Ok, Err, nat_lt}
use Rattle.std.specs.List.Sorted.{IsBinarySearchResult}
use Rattle.std.proofs.lemmas.Bool.{cases_lt, and_parts}
use Rattle.std.proofs.lemmas.Bool.Decides.{nat_tests}
use Rattle.std.proofs.lemmas.List.{get_or_default}
use Rattle.std.proofs.lemmas.List.Elements.{All-contains, Contains-get_or}
use Rattle.std.proofs.lemmas.List.Sorted.{searched}
use Rattle.rr_model.specs.Rising.{Rises}
use Rattle.std.proofs.lemmas.Bool.{false≢true}
use Rattle.std.proofs.lemmas.Nat.{mod_below}
use Rattle.rr_model.specs.Moment.{second_part, moment_at}
use Rattle.rr_model.specs.Moment.Units.{is_whole_days, unit_seconds}
use Rattle.rr_model.specs.Rising.Sets.{IsSetOf, IsSecondsOfDay}
use Rattle.rr_model.specs.Rule.Filled.{hour_of, minute_of, second_of, wants_hour, wants_minute, wants_second}
use Rattle.rr_model.specs.Rule.Validity.{is_absent, takes_start}
use Rattle.rr_model.specs.Rule.Candidate.{is_candidate}
use Rattle.rr_model.specs.Rule.Chosen.{is_chosen}
use Rattle.rr_model.specs.Sets.Counting.{count_seconds}
use Rattle.rr_model.specs.declared.kind.Kind.TheVariants.{Moments}
use Rattle.rr_model.specs.declared.rule.Freq.{Freq}
use Rattle.rr_model.specs.declared.rule.Freq.TheVariants.{Secondly, Minutely, Hourly, Daily, Weekly, Monthly, Yearly}
use Rattle.rr_model.specs.declared.rule.Rule.{Rule}
use Rattle.rr_model.proofs.MomentLemmas.{second_part-moment_at}
use Rattle.rr_model.proofs.RisingSetLemmas.{rising_at, set_empty, set_push, set_same}
use Rattle.rr_model.proofs.CountLemmas.{count_seconds-same, count_seconds-zero, below_more}
use Rattle.rr_model.proofs.DaysAndTimesLemmas.{second_part-below, unit_some}
use Rattle.rr_times.proofs.SplitLemmas.{rising_le}
use Rattle.rr_parts.specs.Numbers.{number_allowed}
use Rattle.rr_setpos.specs.Ranks.{times_before, hour_second_allowed, day_second_allowed, begin_in_day, rank_by_parts, size_by_parts}
use Rattle.rr_model.proofs.ChoiceLemmas.{is_chosen-plain}
use Rattle.rr_setpos.proofs.ProductLemmas.{count_turns}
use Rattle.rr_setpos.proofs.TimeCountLemmas.{times_of_day, and_assoc}
use Rattle.rr_setpos.proofs.PositionLemmas.{candidate_parts, chosen_candidate, chosen_no_candidate}
use Rattle.rr_expand.specs.Expansion.{IsCandidateSecond}
use Rattle.rr_walk.specs.SetPositions.{IsAtOffset, IsAtSome, IsChosenOffset, offset_allowed, offset_holds}
use Rattle.rr_walk.proofs.SetPositionLemmas.{at_some_is, count_is_length}

last_two : (a b c : Bool) → (a && b && c) ≡ true → (b && c) ≡ true
last_two true true true e = refl
last_two true true false e = absurd (false≢true e)
last_two true false c e = absurd (false≢true e)
last_two false b c e = absurd (false≢true e)

last_holds : (a b c : Bool) → (a && b && c) ≡ true → c ≡ true
last_holds true true c e = e
last_holds true false c e = absurd (false≢true e)
last_holds false b c e = absurd (false≢true e)

-- a moment as the start takes each frequency
pub fine_taken : (freq : Freq) → IsTrue (takes_start freq Moments)
fine_taken Secondly = refl
fine_taken Minutely = refl
fine_taken Hourly = refl
fine_taken Daily = refl
fine_taken Weekly = refl
fine_taken Monthly = refl
fine_taken Yearly = refl

pub if_not : (c : Bool) (m n : ℕ) → c ≡ false → cond c m n ≡ n
if_not true m n e = absurd (false≢true (sym e))
if_not false m n e = refl

module _ (rule : Rule) (start t : ℤ) (passes : is_candidate rule Moments start t ≡ true) where
  abbrev pub hours : ℕ → Bool
  hours k = number_allowed (wants_hour rule.freq) rule.by_hour (hour_of Moments start) k

  abbrev pub minutes : ℕ → Bool
  minutes k = number_allowed (wants_minute rule.freq) rule.by_minute (minute_of Moments start) k

  abbrev pub seconds : ℕ → Bool
  seconds k = number_allowed (wants_second rule.freq) rule.by_second (second_of Moments start) k

  abbrev pub in_hour : ℕ → Bool
  in_hour s = hour_second_allowed rule (minute_of Moments start) (second_of Moments start) s

  abbrev pub in_day : ℕ → Bool
  in_day s = day_second_allowed rule (hour_of Moments start) (minute_of Moments start) (second_of Moments start) s

  abbrev pub own : ℕ
  own = second_part Moments t

  allowed : day_second_allowed rule (hour_of Moments start) (minute_of Moments start) (second_of Moments start) (second_part Moments t) ≡ true
  allowed = (candidate_parts rule Moments start t passes).2

  -- its hour, and its minute of the day
  hour_allowed : hours (second_part Moments t / 3_600) ≡ true
  hour_allowed = (and_parts _ (minutes (own / 60 % 60)) (and_parts _ (seconds (own % 60)) allowed).0).0

  minute_allowed : (hours (second_part Moments t / 3_600) && minutes (second_part Moments t / 60 % 60)) ≡ true
  minute_allowed = (and_parts _ (seconds (own % 60)) allowed).0

  -- the day in hours, and in minutes
  in_its_hour : (s : ℕ) → s ≤ 3_600 → count_seconds in_day (own / 3_600 * 3_600 + s)
      ≡ count_seconds hours (own / 3_600) * count_seconds in_hour 3_600 + count_seconds in_hour s
  in_its_hour s few =
      count_turns 3_600 in_day hours in_hour
      (λ x r low. (let a : (x * 3_600 + r) / 3_600 ≡ x = omega (arith, low) in let b : (x * 3_600 + r) / 60 % 60 ≡ r / 60 = omega (arith, low) in
      let d : (x * 3_600 + r) % 60 ≡ r % 60 = omega (arith, low) in rw (a, b, d) (and_assoc (hours x) (minutes (r / 60)) (seconds (r % 60)))))
      (own / 3_600) s few ∙ rw hour_allowed refl

  in_its_minute : (s : ℕ) → s ≤ 60 → count_seconds in_day (own / 60 * 60 + s)
      ≡ count_seconds (λ k. hours (k / 60) && minutes (k % 60)) (own / 60) * count_seconds seconds 60 + count_seconds seconds s
  in_its_minute s few =
      let here : (hours (own / 60 / 60) && minutes (own / 60 % 60)) ≡ true = (let e : own / 60 / 60 ≡ own / 3_600 = omega arith in rw e minute_allowed) in
      count_turns 60 in_day (λ k. hours (k / 60) && minutes (k % 60)) seconds
      (λ x r low. (let a : (x * 60 + r) / 3_600 ≡ x / 60 = omega (arith, low) in let b : (x * 60 + r) / 60 % 60 ≡ x % 60 = omega (arith, low) in
      let d : (x * 60 + r) % 60 ≡ r = omega (arith, low) in rw (a, b, d) refl))
      (own / 60) s few ∙ rw here refl

  low : second_part Moments t < 86_400
  low = second_part-below Moments t

  counts : (n : ℕ) → n ≤ 86_400 → times_before rule Moments start n ≡ count_seconds in_day n
  counts n few = times_of_day rule start n few

  -- HOURLY: the rank among the minutes and seconds of the hour
  pub rank_within_hour : rule.freq ≡ Hourly → (rank_by_parts rule Moments start t ≡ count_seconds in_hour (second_part Moments t % 3_600))
      × (size_by_parts rule Moments start t ≡ count_seconds in_hour 3_600)
  rank_within_hour e =
      let n : unit_seconds rule.freq ≡ 3_600 = ap unit_seconds e in
      let fine : is_whole_days rule.freq ≡ false = ap is_whole_days e in
      let b : begin_in_day rule own ≡ own / 3_600 * 3_600 + 0 = ap (λ k. own / k * k) n ∙ omega arith in
      let s : own ≡ own / 3_600 * 3_600 + own % 3_600 = omega arith in
      let l : begin_in_day rule own + unit_seconds rule.freq ≡ own / 3_600 * 3_600 + 3_600 = omega (arith, b, n) in
      let at_begin = counts (begin_in_day rule own) (omega (arith, b, low)) ∙ ap (count_seconds in_day) b ∙ in_its_hour 0 (omega arith) in
      let at_own = counts own (omega (arith, low)) ∙ ap (count_seconds in_day) s ∙ in_its_hour (own % 3_600) (omega arith) in
      let at_end = counts (begin_in_day rule own + unit_seconds rule.freq) (omega (arith, l, low)) ∙ ap (count_seconds in_day) l
      ∙ in_its_hour 3_600 (omega arith) in (
        if_not (is_whole_days rule.freq) _ _ fine ∙ (omega (arith, at_begin, at_own, count_seconds-zero in_hour)),
        if_not
            (is_whole_days rule.freq) _ _ fine ∙ (omega (arith, at_begin, at_end, count_seconds-zero in_hour)),
      )

  -- MINUTELY: the rank among the seconds of the minute
  pub rank_within_minute : rule.freq ≡ Minutely → (rank_by_parts rule Moments start t ≡ count_seconds seconds (second_part Moments t % 60))
      × (size_by_parts rule Moments start t ≡ count_seconds seconds 60)
  rank_within_minute e =
      let n : unit_seconds rule.freq ≡ 60 = ap unit_seconds e in
      let fine : is_whole_days rule.freq ≡ false = ap is_whole_days e in
      let b : begin_in_day rule own ≡ own / 60 * 60 + 0 = ap (λ k. own / k * k) n ∙ omega arith in
      let s : own ≡ own / 60 * 60 + own % 60 = omega arith in
      let l : begin_in_day rule own + unit_seconds rule.freq ≡ own / 60 * 60 + 60 = omega (arith, b, n) in
      let at_begin = counts (begin_in_day rule own) (omega (arith, b, low)) ∙ ap (count_seconds in_day) b ∙ in_its_minute 0 (omega arith) in
      let at_own = counts own (omega (arith, low)) ∙ ap (count_seconds in_day) s ∙ in_its_minute (own % 60) (omega arith) in
      let at_end = counts (begin_in_day rule own + unit_seconds rule.freq) (omega (arith, l, low)) ∙ ap (count_seconds in_day) l
      ∙ in_its_minute 60 (omega arith) in (
        if_not (is_whole_days rule.freq) _ _ fine ∙ (omega (arith, at_begin, at_own, count_seconds-zero seconds)),
        if_not
            (is_whole_days rule.freq) _ _ fine ∙ (omega (arith, at_begin, at_end, count_seconds-zero seconds)),
      )

  -- SECONDLY: the only one
  pub rank_within_second : rule.freq ≡ Secondly → (rank_by_parts rule Moments start t ≡ 0) × (size_by_parts rule Moments start t ≡ 1)
  rank_within_second e =
      let n : unit_seconds rule.freq ≡ 1 = ap unit_seconds e in
      let fine : is_whole_days rule.freq ≡ false = ap is_whole_days e in
      let b : begin_in_day rule own ≡ own = ap (λ k. own / k * k) n ∙ omega arith in
      let l : begin_in_day rule own + unit_seconds rule.freq ≡ own + 1 = omega (arith, b, n) in
      let at_begin = ap (times_before rule Moments start) b in
      let at_own = counts own (omega (arith, low)) in
      let at_end = ap (times_before rule Moments start) l ∙ counts (own + 1) (omega (arith, low)) ∙ below_more in_day own allowed in (
        if_not (is_whole_days rule.freq) _ _ fine ∙ (omega (arith, at_begin)),
        if_not (is_whole_days rule.freq) _ _ fine
            ∙ (omega (arith, at_begin, at_own, at_end)),
      )

  -- its own offset in its unit is allowed
  offset_in_hour : rule.freq ≡ Hourly → hour_second_allowed rule (minute_of Moments start) (second_of Moments start) (second_part Moments t % 3_600) ≡ true
  offset_in_hour e =
      let a : own % 3_600 / 60 ≡ own / 60 % 60 = omega arith in
      let b : own % 3_600 % 60 ≡ own % 60 = omega arith in
      rw (a, b) (last_two (hours (own / 3_600)) (minutes (own / 60 % 60)) (seconds (own % 60)) allowed)

  offset_in_minute : number_allowed (wants_second rule.freq) rule.by_second (second_of Moments start) (second_part Moments t % 60) ≡ true
  offset_in_minute = last_holds (hours (own / 3_600)) (minutes (own / 60 % 60)) (seconds (own % 60)) allowed

  -- in each unit shorter than a day: the rank among the seconds from the unit's begin
  pub rank_within_unit : (freq : Freq) → rule.freq ≡ freq → is_whole_days freq ≡ false
      → (rank_by_parts rule Moments start t ≡ count_seconds (offset_holds rule start) (second_part Moments t % unit_seconds rule.freq))
      × (size_by_parts rule Moments start t ≡ count_seconds (offset_holds rule start) (unit_seconds rule.freq))
      × (offset_holds rule start (second_part Moments t % unit_seconds rule.freq) ≡ true)
  rank_within_unit Hourly e fine =
      let p = rank_within_hour e in
      let same : (o : ℕ) → offset_holds rule start o ≡ in_hour o = λ o. ap
      (λ f. offset_allowed f rule (minute_of Moments start) (second_of Moments start) o) e in
      let u : unit_seconds rule.freq ≡ 3_600 = ap unit_seconds e in (
        p.0 ∙ rw u (sym (count_seconds-same (offset_holds rule start) in_hour (own % 3_600) (λ o l. same o))),
        p.1 ∙ rw u (sym (count_seconds-same (offset_holds rule start) in_hour 3_600 (λ o l. same o))),
        same (own % unit_seconds rule.freq) ∙ ap (λ n. in_hour (own % n)) u ∙ offset_in_hour e,
      )
  rank_within_unit Minutely e fine =
      let p = rank_within_minute e in
      let same : (o : ℕ) → offset_holds rule start o ≡ seconds o = λ o. ap
      (λ f. offset_allowed f rule (minute_of Moments start) (second_of Moments start) o) e in
      let u : unit_seconds rule.freq ≡ 60 = ap unit_seconds e in (
        p.0 ∙ rw u (sym (count_seconds-same (offset_holds rule start) seconds (own % 60) (λ o l. same o))),
        p.1 ∙ rw u (sym (count_seconds-same (offset_holds rule start) seconds 60 (λ o l. same o))),
        same (own % unit_seconds rule.freq) ∙ ap (λ n. seconds (own % n)) u ∙ offset_in_minute,
      )
  rank_within_unit Secondly e fine =
      let p = rank_within_second e in
      let same : (o : ℕ) → offset_holds rule start o ≡ true = λ o. ap (λ f. offset_allowed f rule (minute_of Moments start) (second_of Moments start) o) e in
      let u : unit_seconds rule.freq ≡ 1 = ap unit_seconds e in
      let none : own % 1 ≡ 0 = omega arith in
      let all : count_seconds (offset_holds rule start) 1 ≡ 1 = below_more (offset_holds rule start) 0 (same 0)
      ∙ omega (arith, count_seconds-zero (offset_holds rule start)) in (
        p.0 ∙ rw (u, none) (sym (count_seconds-zero (offset_holds rule start))),
        p.1 ∙ rw u (sym all),
        same (own % unit_seconds rule.freq),
      )
  rank_within_unit Daily e fine = absurd (cc)
  rank_within_unit Weekly e fine = absurd (cc)
  rank_within_unit Monthly e fine = absurd (cc)
  rank_within_unit Yearly e fine = absurd (cc)

-- ---- the chosen seconds of a day

module _ (rule : Rule) (start d : ℤ) (fine : is_whole_days rule.freq ≡ false) where
  -- a candidate is chosen exactly if its offset in its unit is
  chosen_is_offset : (s : ℕ) → s < 86_400 → is_candidate rule Moments start (moment_at Moments d s) ≡ true
      → IsChosenOffset rule start (s % unit_seconds rule.freq) ↔ IsTrue (is_chosen rule Moments start (moment_at Moments d s))
  chosen_is_offset s low passes =
      let at : second_part Moments (moment_at Moments d s) ≡ s = second_part-moment_at d s low in
      let p = rank_within_unit rule start (moment_at Moments d s) passes rule.freq refl fine in
      let chosen = chosen_candidate rule Moments start (moment_at Moments d s) (fine_taken rule.freq) passes in
      let rank = p.0 ∙ ap (λ n. count_seconds (offset_holds rule start) (n % unit_seconds rule.freq)) at in
      let holds = ap (λ n. offset_holds rule start (n % unit_seconds rule.freq)) (sym at) ∙ p.2 in (
        λ h. chosen ∙ rw (rank, p.1) h.2,
        λ h. (mod_below s (unit_seconds rule.freq) (unit_some rule.freq), holds, rw (rank, p.1) at (sym chosen ∙ h)),
      )

  pub chosen_at_offsets : (seconds offsets chosen : List ℕ) → IsSetOf nat_lt seconds (IsCandidateSecond rule start d)
      → IsSetOf nat_lt offsets (IsChosenOffset rule start)
      → IsSetOf nat_lt chosen (IsAtOffset (unit_seconds rule.freq) offsets seconds)
      → IsSetOf nat_lt chosen (λ s. (s < 86_400) × IsTrue (is_chosen rule Moments start (moment_at Moments d s)))
  chosen_at_offsets seconds offsets chosen set of kept =
      set_same nat_lt (IsAtOffset (unit_seconds rule.freq) offsets seconds)
      (λ s. (s < 86_400) × IsTrue (is_chosen rule Moments start (moment_at Moments d s))) chosen kept
      (λ s. (
        (λ h. (let c = (set.exact s).0 h.0 in (c.0, (chosen_is_offset s c.0 c.1).0 ((of.exact (s % unit_seconds rule.freq)).0 h.1)))),
        (λ h. elim (is_candidate rule Moments start (moment_at Moments d s)) as
            (λ b. is_candidate rule Moments start (moment_at Moments d s) ≡ b → IsAtOffset (unit_seconds rule.freq) offsets seconds s) [
              | true ↦ λ e. ((set.exact s).1 (h.0, e), (of.exact (s % unit_seconds rule.freq)).1 ((chosen_is_offset s h.0 e).1 h.1))
              | false ↦ λ e. absurd (false≢true (sym (chosen_no_candidate rule Moments start (moment_at Moments d s) e) ∙ h.1))
            ] refl),
      ))

  -- without set positions all are chosen
  pub chosen_plain : (seconds : List ℕ) → rule.by_set_pos ≡ [] → IsSetOf nat_lt seconds (IsCandidateSecond rule start d)
      → IsSetOf nat_lt seconds (λ s. (s < 86_400) × IsTrue (is_chosen rule Moments start (moment_at Moments d s)))
  chosen_plain seconds plain set =
      set_same nat_lt (IsCandidateSecond rule start d) (λ s. (s < 86_400) × IsTrue (is_chosen rule Moments start (moment_at Moments d s))) seconds set
      (λ s. (
        (λ h. (h.0, is_chosen-plain rule Moments start (moment_at Moments d s) plain ∙ h.1)),
        (λ h. (h.0, sym (is_chosen-plain rule Moments start (moment_at Moments d s) plain) ∙ h.1)),
      ))

-- ---- the seconds of a unit at which the time parts hold

pub chosen_offsets : (rule : Rule) (start : ℤ) (times chosen : List ℕ) → is_absent rule.by_set_pos ≡ false
    → IsSetOf nat_lt times (λ s. (s < unit_seconds rule.freq) × IsTrue (offset_holds rule start s))
    → IsSetOf nat_lt chosen (IsAtSome times (0 * length times) (1 * length times) rule.by_set_pos (length rule.by_set_pos))
    → IsSetOf nat_lt chosen (IsChosenOffset rule start)
chosen_offsets rule start times chosen stands set at =
    let none : 0 * length times ≡ 0 = omega arith in
    let all : 1 * length times ≡ count_seconds (offset_holds rule start) (unit_seconds rule.freq) =
    omega (arith, count_is_length times (offset_holds rule start) (unit_seconds rule.freq) set) in
    set_same nat_lt _ (IsChosenOffset rule start) chosen (rw (none, all) at at)
    (λ s. (let first : 0 + count_seconds (offset_holds rule start) s ≡ count_seconds (offset_holds rule start) s = omega arith in
    rw first at (at_some_is times (offset_holds rule start) (unit_seconds rule.freq) set rule 0
    (count_seconds (offset_holds rule start) (unit_seconds rule.freq)) stands s)))

-- all seconds of a unit are asked
pub allowed_all : (rule : Rule) (start : ℤ) (xs shown : List ℕ) (m s n : ℕ) → m ≡ minute_of Moments start → s ≡ second_of Moments start
    → n ≡ unit_seconds rule.freq → shown ≡ xs
    → IsSetOf nat_lt xs (λ o. (o < n) × IsTrue (offset_allowed rule.freq rule m s o))
    → IsSetOf nat_lt shown (λ o. (o < unit_seconds rule.freq) × IsTrue (offset_holds rule start o))
allowed_all rule start xs shown m s n em es en e set = rw e (rw (em, es, en) at set)

pub passed_of_day : (test : ℕ → Bool) (xs shown : List ℕ) (n : ℕ) → n ≤ 86_400 → shown ≡ xs → IsSetOf nat_lt xs (λ o. (o < n) × IsTrue (test o))
    → IsSecondsOfDay shown
passed_of_day test xs shown n few e set =
    rw e (record {
      rises = set.rises;
      below_a_day = λ k d l. omega (arith, few, ((set.exact (get_or xs k d)).0 (Contains-get_or xs k d l)).0);
    })

-- ---- the seconds of a day at listed seconds of their units

-- whether a search finds
pub searched_in : (xs : List ℕ) (x : ℕ) (r : Result ℕ ℕ) (b : Bool) → Rises nat_lt xs → IsBinarySearchResult (λ y. nat_cmp y x) xs r → b ≡ is_ok r
    → (b ≡ true → Contains xs x) × (b ≡ false → Contains xs x → ⊥)
searched_in xs x (Ok i) b rises h e =
    let m = searched xs x (Ok i) h (λ j k l n. rising_le xs rises j k l n) in
    (λ f. subst (Contains xs) m.1 (Contains-get_or xs i 0 m.0), λ f. absurd (false≢true (sym f ∙ e)))
searched_in xs x (Err i) b rises h e =
    let m = searched xs x (Err i) h (λ j k l n. rising_le xs rises j k l n) in (
      λ f. absurd (false≢true (sym e ∙ f)),
      λ f c. (let at : get_or xs c.0 0 ≡ x = get_or_default xs c.0 0 x c.1 ∙ c.2 in
          elim (cases_lt c.0 i) [ inl l ↦ omega (arith, m.1 c.0 l, at) | inr g ↦ omega (arith, m.2 c.0 g c.1, at) ]),
    )

-- one of the first i seconds, at a listed second of its unit
abbrev pub KeptTo : List ℕ → List ℕ → ℕ → ℕ → ℕ → Type 0
KeptTo seconds offsets unit i s = ((k : ℕ) × ((k < i) × (get_or seconds k 0 ≡ s))) × Contains offsets (s % unit)

module _ (seconds offsets : List ℕ) (unit : ℕ) where
  pub kept_none : (xs : List ℕ) → xs ≡ [] → IsSetOf nat_lt xs (KeptTo seconds offsets unit 0)
  kept_none xs e = subst (λ ys. IsSetOf nat_lt ys (KeptTo seconds offsets unit 0)) (sym e)
      (set_empty nat_lt (KeptTo seconds offsets unit 0) (λ s h. omega (arith, h.0.1.0)))

  earlier : (i s : ℕ) → KeptTo seconds offsets unit (i + 1) s → KeptTo seconds offsets unit i s ⊎ (get_or seconds i 0 ≡ s)
  earlier i s h = elim (cases_lt h.0.0 i) [
    | inl l ↦ inl ((h.0.0, (l, h.0.1.1)), h.1)
    | inr g ↦ (let e : h.0.0 ≡ i = omega (arith, g, h.0.1.0) in inr (ap (λ k. get_or seconds k 0) (sym e) ∙ h.0.1.1))
  ]

  pub kept_more : (xs ys : List ℕ) (i x : ℕ) → Rises nat_lt seconds → i < length seconds → x ≡ get_or seconds i 0 → Contains offsets (x % unit)
      → ys ≡ xs ++ x ∷ []
      → IsSetOf nat_lt xs (KeptTo seconds offsets unit i) → IsSetOf nat_lt ys (KeptTo seconds offsets unit (i + 1))
  kept_more xs ys i x rises low at has made set =
      subst (λ zs. IsSetOf nat_lt zs (KeptTo seconds offsets unit (i + 1))) (sym made)
      (set_same nat_lt (λ s. KeptTo seconds offsets unit i s ⊎ (x ≡ s)) (KeptTo seconds offsets unit (i + 1)) (xs ++ x ∷ [])
      (set_push nat_lt (KeptTo seconds offsets unit i) xs x set
      (λ s h. (let l : s < x = omega (arith, rising_at seconds rises h.0.0 i h.0.1.0 low, h.0.1.1, at) in grind (arith, nat_tests))))
      (λ s. (
        (λ p. elim p [
          | inl h ↦ ((h.0.0, (omega (arith, h.0.1.0), h.0.1.1)), h.1)
          | inr e ↦
              ((i, (omega arith, sym at ∙ e)), subst (λ y. Contains offsets (y % unit)) e has)
        ]),
        (λ h. elim (earlier i s h) [ inl m ↦ inl m | inr e ↦ inr (at ∙ e) ]),
      )))

  pub kept_same : (xs : List ℕ) (i x : ℕ) → x ≡ get_or seconds i 0 → (Contains offsets (x % unit) → ⊥)
      → IsSetOf nat_lt xs (KeptTo seconds offsets unit i) → IsSetOf nat_lt xs (KeptTo seconds offsets unit (i + 1))
  kept_same xs i x at none set =
      set_same nat_lt (KeptTo seconds offsets unit i) (KeptTo seconds offsets unit (i + 1)) xs set
      (λ s. (
        (λ h. ((h.0.0, (omega (arith, h.0.1.0), h.0.1.1)), h.1)),
        (λ h. elim (earlier i s h) [ inl m ↦ m | inr e ↦ absurd (none (subst (λ y. Contains offsets (y % unit)) (sym (at ∙ e)) h.1)) ]),
      ))

  pub kept_all : (xs : List ℕ) (i : ℕ) → i ≡ length seconds → IsSetOf nat_lt xs (KeptTo seconds offsets unit i)
      → IsSetOf nat_lt xs (IsAtOffset unit offsets seconds)
  kept_all xs i e set =
      set_same nat_lt (KeptTo seconds offsets unit i) (IsAtOffset unit offsets seconds) xs set
      (λ s. (
        (λ h. (subst (Contains seconds) h.0.1.1 (Contains-get_or seconds h.0.0 0 (omega (arith, h.0.1.0, e))), h.1)),
        (λ h. (let c = h.0 in ((c.0, (omega (arith, c.1, e), get_or_default seconds c.0 0 s c.1 ∙ c.2)), h.1))),
      ))

pub kept_of_day : (seconds offsets xs shown : List ℕ) (unit : ℕ) → IsSecondsOfDay seconds → shown ≡ xs
    → IsSetOf nat_lt xs (IsAtOffset unit offsets seconds) → IsSecondsOfDay shown
kept_of_day seconds offsets xs shown unit day e set =
    rw e (record {
      rises = set.rises;
      below_a_day = λ k d l. All-contains (λ s. s < 86_400) seconds (get_or xs k d) day.below_a_day
          ((set.exact (get_or xs k d)).0 (Contains-get_or xs k d l)).0;
    })
