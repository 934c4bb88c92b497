-- Rules whose units are shorter than a day, walked day by day.
use Rattle.std.proofs.Common.{◌≡◌, ℕ, ◌+◌, ◌*◌, ◌/◌, ◌<◌, ◌≤◌, true, false, ◌&&◌, List, ℤ, pos, nat_abs, ◌+ℤ◌, ◌-ℤ◌, ◌*ℤ◌, Contains, refl, sym, ap, ◌∙◌, inl}
use Rattle.std.proofs.Common.{inr, arith}
use Rattle.std.proofs.Common.{subst}
use Rattle.std.proofs.Math.Seq.{take-length}
use Rattle.std.proofs.lemmas.Option.{get_or_from_slice_get, slice_get_within}
use Rattle.std.specs.Prelude.{Bool, slice_get, IsTrue, nat_lt, nat_le, int_le, Some, None, [], length, get_or, take, ◌<ℤ◌, ◌≤ℤ◌}
use Rattle.std.proofs.lemmas.Int.{ints, by_lt_z}
use Rattle.std.proofs.lemmas.Bool.{cases_lt, false≢true, and_parts}
use Rattle.std.proofs.lemmas.Bool.Decides.{nat_tests}
use Rattle.rr_model.specs.Whole.{floor_mod}
use Rattle.rr_model.specs.Moment.{day_part, moment_at}
use Rattle.rr_model.specs.Moment.Units.{unit_number}
use Rattle.rr_model.specs.Rising.Sets.{IsSetOf}
use Rattle.rr_model.specs.Rule.Chosen.{is_chosen}
use Rattle.rr_model.specs.Rule.Candidate.{date_parts_hold, is_candidate, interval_holds}
use Rattle.rr_model.specs.Rule.Filled.{filled_rule}
use Rattle.rr_model.specs.declared.kind.Kind.TheVariants.{Days, Moments}
use Rattle.rr_model.specs.declared.rule.Freq.{Freq}
use Rattle.rr_model.specs.declared.rule.Freq.TheVariants.{Secondly, Minutely, Hourly, Daily, Weekly, Monthly, Yearly}
use Rattle.rr_model.specs.declared.rule.Rule.{Rule}
use Rattle.rr_model.proofs.WholeLemmas.{floor_only}
use Rattle.rr_model.proofs.MomentLemmas.{day_part-moment_at}
use Rattle.rr_model.proofs.RisingSetLemmas.{set_same}
use Rattle.rr_model.specs.Moment.Units.{is_whole_days, unit_seconds}
use Rattle.rr_setpos.proofs.PositionLemmas.{chosen_no_candidate}
use Rattle.rr_expand.proofs.FinerLemmas.{unit_at}
use Rattle.rr_expand.proofs.FitLemmas.{none_before}
use Rattle.rr_model.specs.Sets.Tree.{Tree, chosen_of, stands_at}
use Rattle.rr_lazy.specs.declared.occupied_day.OccupiedDay.{OccupiedDay}
use Rattle.rr_lazy.specs.Next.{HasNone}
use Rattle.rr_lazy.proofs.TreeLemmas.{stands_below}
use Rattle.rr_lazy.proofs.AheadLemmas.{join}
use Rattle.rr_expand.specs.Years.{Filling, IsFirstAllowed, allows_day}
use Rattle.rr_walk.specs.Ruling.{AllowsDay, Ruling}
use Rattle.rr_walk.specs.Walk.{IsFirstSecond, IsFirstUpToIn, IsOnDay, IsOnDayIn}

-- how many units a day has
abbrev per_day : Freq → ℕ
per_day freq = 86_400 / unit_seconds freq

-- the first unit of a day
first_unit_is : (freq : Freq) (w : ℕ) (d : ℤ) → is_whole_days freq ≡ false → unit_number freq w Moments (moment_at Moments d 0) ≡ d *ℤ pos (per_day freq)
first_unit_is Secondly w d e = omega (arith, ints)
first_unit_is Minutely w d e = (floor_only (moment_at Moments d 0) (d *ℤ pos 1_440) 60 0 (omega arith) (omega (arith, ints))).0
first_unit_is Hourly w d e = (floor_only (moment_at Moments d 0) (d *ℤ pos 24) 3_600 0 (omega arith) (omega (arith, ints))).0
first_unit_is Daily w d e = absurd (false≢true (sym e))
first_unit_is Weekly w d e = absurd (false≢true (sym e))
first_unit_is Monthly w d e = absurd (false≢true (sym e))
first_unit_is Yearly w d e = absurd (false≢true (sym e))

-- a second of a later day lies n units after the first of a day, fewer than the days in between have with the day
unit_after : (freq : Freq) (w : ℕ) (day d : ℤ) (j s : ℕ) → is_whole_days freq ≡ false → d ≡ day +ℤ pos j → s < 86_400
    → (unit_number freq w Moments (moment_at Moments d s)
    ≡ unit_number freq w Moments (moment_at Moments day 0) +ℤ pos (j * per_day freq + s / unit_seconds freq)) × (s / unit_seconds freq < per_day freq)
unit_after Secondly w day d j s e f l =
    (omega (arith, ints, unit_at Secondly w d s e, first_unit_is Secondly w d e, first_unit_is Secondly w day e, f), omega (arith, l))
unit_after Minutely w day d j s e f l =
    (omega (arith, ints, unit_at Minutely w d s e, first_unit_is Minutely w d e, first_unit_is Minutely w day e, f), omega (arith, l))
unit_after Hourly w day d j s e f l =
    (omega (arith, ints, unit_at Hourly w d s e, first_unit_is Hourly w d e, first_unit_is Hourly w day e, f), omega (arith, l))
unit_after Daily w day d j s e f l = absurd (false≢true (sym e))
unit_after Weekly w day d j s e f l = absurd (false≢true (sym e))
unit_after Monthly w day d j s e f l = absurd (false≢true (sym e))
unit_after Yearly w day d j s e f l = absurd (false≢true (sym e))

-- fewer days than the units fill
before_whole : (freq : Freq) (k j r : ℕ) → is_whole_days freq ≡ false → j < k / per_day freq → r < per_day freq → j * per_day freq + r < k
before_whole Secondly k j r e l m = omega (arith, l, m)
before_whole Minutely k j r e l m = omega (arith, l, m)
before_whole Hourly k j r e l m = omega (arith, l, m)
before_whole Daily k j r e l m = absurd (false≢true (sym e))
before_whole Weekly k j r e l m = absurd (false≢true (sym e))
before_whole Monthly k j r e l m = absurd (false≢true (sym e))
before_whole Yearly k j r e l m = absurd (false≢true (sym e))

no_candidate : (rule : Rule) (start t : ℤ) → interval_holds rule Moments start t ≡ false → is_candidate rule Moments start t ≡ false
unfolding is_candidate
no_candidate rule start t e = rw e refl

module _ (rule : Rule) (start : ℤ) where
  abbrev tree : Tree
  tree = chosen_of rule Moments start

  stands_is : (d : ℤ) (s : ℕ) → s < 86_400 → stands_at tree d s ≡ (is_chosen rule Moments start (moment_at Moments d s) && int_le start (moment_at Moments d s))
  stands_is d s l = let h : nat_lt s 86_400 ≡ true = grind (arith, nat_tests) in rw h refl

  unfit : (t : ℤ) → interval_holds rule Moments start t ≡ false → is_chosen rule Moments start t ≡ false
  unfit t e = chosen_no_candidate rule Moments start t (no_candidate rule start t e)

  pub seconds_of_day : (d : ℤ) (from : ℕ) (all times : List ℕ) → IsFirstSecond Moments start d from
      → IsSetOf nat_lt all (λ s. (s < 86_400) × IsTrue (is_chosen rule Moments start (moment_at Moments d s)))
      → IsSetOf nat_lt times (λ s. Contains all s × (from ≤ s) × (s < 86_400)) → IsSetOf nat_lt times (λ s. IsTrue (stands_at tree d s))
  seconds_of_day d from all times first set cut =
      set_same nat_lt (λ s. Contains all s × (from ≤ s) × (s < 86_400)) (λ s. IsTrue (stands_at tree d s)) times cut (λ s. (to s, back s))
    where
      at : (s : ℕ) → s < 86_400 → stands_at tree d s ≡ (is_chosen rule Moments start (moment_at Moments d s) && nat_le from s)
      at s l = stands_is d s l ∙ (rw (first s l) refl)

      to : (s : ℕ) → Contains all s × (from ≤ s) × (s < 86_400) → IsTrue (stands_at tree d s)
      to s h = let c = (set.exact s).0 h.0 in at s h.2 ∙ (rw c.1 (let l : from ≤ s = h.1 in grind (arith, nat_tests)))

      back : (s : ℕ) → IsTrue (stands_at tree d s) → Contains all s × (from ≤ s) × (s < 86_400)
      back s h =
          let l = stands_below tree d s h in
          let e = sym (at s l) ∙ h in
          let late : nat_le from s ≡ true = (and_parts (is_chosen rule Moments start (moment_at Moments d s)) (nat_le from s) e).1 in
          ((set.exact s).1 (l, (and_parts _ _ e).0), grind (arith, nat_tests), l)

  -- no day before the one in which the first unit that fits lies
  pub none_unfit : (day : ℤ) (k : ℕ) (q : ℤ) → is_whole_days rule.freq ≡ false → 1 ≤ rule.interval
      → k ≡ floor_mod (unit_number rule.freq rule.week_start Moments start -ℤ unit_number rule.freq rule.week_start Moments
      (moment_at Moments day 0)) rule.interval
      → q ≡ day +ℤ pos (k / per_day rule.freq) → HasNone tree day q
  none_unfit day k q fine some e f d s l h =
      elim (cases_lt s 86_400) [
        | inl m ↦ (
            let j : ℕ = nat_abs (d -ℤ day) in
            let at : d ≡ day +ℤ pos j = omega (arith, ints, l) in
            let u = unit_after rule.freq rule.week_start day d j s fine at m in
            let few : j * per_day rule.freq + s / unit_seconds rule.freq < k =
            before_whole rule.freq k j (s / unit_seconds rule.freq) fine (omega (arith, ints, at, h, f)) u.1 in
            let none : interval_holds rule Moments start (moment_at Moments d s) ≡ false =
            rw u.0 (none_before rule.interval some (unit_number rule.freq rule.week_start Moments (moment_at Moments day 0))
            (unit_number rule.freq rule.week_start Moments start) _ (omega (arith, few, e))) in
            stands_is d s m ∙ (rw (unfit (moment_at Moments d s) none) refl))
        | inr g ↦ (let n : nat_lt s 86_400 ≡ false = grind (arith, nat_tests) in rw n refl)
      ]

-- ---- days that the date parts do not allow

and_false : (a : Bool) → (a && false) ≡ false
and_false true = refl
and_false false = refl

no_date : (rule : Rule) (start d : ℤ) (s : ℕ) → s < 86_400 → date_parts_hold (filled_rule rule Days (day_part Moments start)) d ≡ false
    → is_candidate rule Moments start (moment_at Moments d s) ≡ false
unfolding is_candidate
no_date rule start d s low e =
    let dates : date_parts_hold (filled_rule rule Moments start) (day_part Moments (moment_at Moments d s)) ≡ false =
    ap (date_parts_hold (filled_rule rule Moments start)) (day_part-moment_at d s low) ∙ e in
    rw (dates, and_false (interval_holds rule Moments start (moment_at Moments d s))) refl

-- none of them is occupied
pub none_allowed : (rule : Rule) (start day end : ℤ)
    → ((d : ℤ) → day ≤ℤ d → d <ℤ end → date_parts_hold (filled_rule rule Days (day_part Moments start)) d ≡ false)
    → HasNone (chosen_of rule Moments start) day end
none_allowed rule start day end none d s l h =
    elim (cases_lt s 86_400) [
      | inl m ↦ stands_is rule start d s m
          ∙ (rw (chosen_no_candidate rule Moments start (moment_at Moments d s) (no_date rule start d s m (none d l h))) refl)
      | inr g ↦ (let n : nat_lt s 86_400 ≡ false = grind (arith, nat_tests) in rw n refl)
    ]

-- ---- a walk, day by day

-- past a day that is not occupied
pub none_past : (tree : Tree) (from day : ℤ) → HasNone tree from day → IsOnDay tree day None → HasNone tree from (day +ℤ pos 1)
none_past tree from day before none d s l h =
    by_lt_z {P = stands_at tree d s ≡ false} d day (λ m. before d s l m) (λ g. (let e : d ≡ day = omega (arith, ints, g, h) in rw e (none s)))

-- to a day that is
pub found_first : (sets : List (List ℕ)) (tree : Tree) (from day to : ℤ) (found : OccupiedDay) → from ≤ℤ day → day ≤ℤ to → HasNone tree from day
    → IsOnDayIn sets tree day (Some found) → IsFirstUpToIn sets tree from to (Some found)
found_first sets tree from day to found late low none on = (
  on.0,
  (
    record { late = omega (arith, ints, late, on.1.0); before = λ d s l h. none d s l (omega (arith, ints, h, on.1.0)); some = on.1.1; all = rw on.1.0 on.1.2 },
    omega (arith, ints, low, on.1.0),
  ),
)

-- the day from which on is looked is allowed, if it is the first that is
pub fine_some : (r : Ruling) (f : Filling) → f ≡ record { rule = r.rule; start_day = day_part Moments r.start } → (day end found : ℤ) → found ≡ day
    → IsFirstAllowed f day end (Some found) → AllowsDay r day
fine_some r f is day end found e h = ap (λ g. allows_day g day) (sym is) ∙ (rw e at h.2)

-- from an unoccupied stretch on: the days that the date parts allow
module _ (r : Ruling) (f : Filling) (is : f ≡ record { rule = r.rule; start_day = day_part Moments r.start }) (from day to : ℤ)
    (before : HasNone (chosen_of r.rule Moments r.start) from day) where
  allowed_at : (d : ℤ) → date_parts_hold (filled_rule r.rule Days (day_part Moments r.start)) d ≡ allows_day f d
  allowed_at d = ap (λ g. allows_day g d) (sym is)

  -- none is left
  pub fine_none : IsFirstAllowed f day (to +ℤ pos 1) None → HasNone (chosen_of r.rule Moments r.start) from (to +ℤ pos 1)
  fine_none h =
      join (chosen_of r.rule Moments r.start) from day (to +ℤ pos 1) before
      (none_allowed r.rule r.start day (to +ℤ pos 1) (λ d l m. allowed_at d ∙ h d l m))

  -- the next one is later
  pub fine_more : (found next : ℤ) → IsFirstAllowed f day (to +ℤ pos 1) (Some found) → HasNone (chosen_of r.rule Moments r.start) found next
      → HasNone (chosen_of r.rule Moments r.start) from next
  fine_more found next h after =
      join (chosen_of r.rule Moments r.start) from found next
      (join (chosen_of r.rule Moments r.start) from day found before (none_allowed r.rule r.start day found (λ d l m. allowed_at d ∙ h.3 d l m))) after

-- ---- a day with all that is chosen on it

pub whole_day : (rule : Rule) (start d : ℤ) (first : ℕ) (all : List ℕ) → IsFirstSecond Moments start d first → first ≡ 0
    → IsSetOf nat_lt all (λ s. (s < 86_400) × IsTrue (is_chosen rule Moments start (moment_at Moments d s)))
    → IsSetOf nat_lt all (λ s. IsTrue (stands_at (chosen_of rule Moments start) d s))
whole_day rule start d first all is none set =
    seconds_of_day rule start d first all all is set
    (record { rises = set.rises; exact = λ s. ((λ c. (c, omega (arith, none), ((set.exact s).0 c).0)), (λ h. h.0)) })

pub on_whole : (sets : List (List ℕ)) (tree : Tree) (day d : ℤ) (number count : ℕ) (all : List ℕ) → slice_get sets number ≡ Some all → count ≡ length all
    → 0 < count → d ≡ day → IsSetOf nat_lt all (λ s. IsTrue (stands_at tree day s))
    → IsOnDayIn sets tree day (Some (record { day = d; number = record { index = number }; count = count }))
on_whole sets tree day d number count all at counted some same set =
    let is : get_or sets number [] ≡ all = get_or_from_slice_get sets number all [] at in
    let whole : take count (get_or sets number []) ≡ all = rw (is, counted) (take-length all) in (
      (slice_get_within sets number all at, rw is (omega (arith, counted))),
      (
        same,
        (λ e. omega (arith, some, counted, ap length (sym whole ∙ e))),
        subst (λ xs. IsSetOf nat_lt xs (λ s. IsTrue (stands_at tree day s))) (sym whole) set,
      ),
    )

-- as many units are at least as many days
pub few_days : (freq : Freq) (k m : ℕ) → is_whole_days freq ≡ false → m ≡ 86_400 / unit_seconds freq → k / m ≤ k
few_days Secondly k m e f = rw f (omega arith)
few_days Minutely k m e f = rw f (omega arith)
few_days Hourly k m e f = rw f (omega arith)
few_days Daily k m e f = absurd (false≢true (sym e))
few_days Weekly k m e f = absurd (false≢true (sym e))
few_days Monthly k m e f = absurd (false≢true (sym e))
few_days Yearly k m e f = absurd (false≢true (sym e))
