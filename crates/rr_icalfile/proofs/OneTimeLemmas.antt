-- On a day with no RDATE at another time of day, a series whose rules choose the time of day of its start alone occurs at that time.
use Rattle.std.proofs.Common.{◌≡◌, ℕ, ◌/◌, ◌%◌, ◌==◌, Bool, true, false, not, ◌&&◌, ◌||◌, List, [], ◌∷◌, ℤ, pos, inl, inr, refl}
use Rattle.std.proofs.Common.{sym, subst, ap, ◌∙◌, arith}
use Rattle.std.proofs.lemmas.Int.{ints}
use Rattle.std.specs.Prelude.{Contains, IsTrue}
use Rattle.std.specs.List.{list_all, list_any}
use Rattle.std.specs.Ordering.{int_eq}
use Rattle.rr_model.specs.Moment.{moment_at, second_part, day_part}
use Rattle.rr_model.specs.Moment.Units.{is_whole_days}
use Rattle.rr_model.specs.Rule.Candidate.{allows, by_hour_holds, by_minute_holds, by_second_holds, date_parts_hold}
use Rattle.rr_model.specs.Rule.Candidate.{interval_holds, is_candidate, time_parts_hold}
use Rattle.rr_model.specs.Rule.Chosen.{is_chosen}
use Rattle.rr_model.specs.Rule.Filled.{filled_part, filled_rule, hour_of, minute_of, second_of, wants_hour, wants_minute, wants_second}
use Rattle.rr_model.specs.Rule.Validity.{is_absent}
use Rattle.rr_model.specs.Series.Occurrences.{IsMemberOfSome}
use Rattle.rr_model.specs.declared.kind.Kind.{Kind}
use Rattle.rr_model.specs.declared.kind.Kind.TheVariants.{Moments}
use Rattle.rr_model.specs.declared.rule.Rule.{Rule}
use Rattle.rr_model.proofs.DaysAndTimesLemmas.{and_parts, fills_times, moment_is}
use Rattle.rr_model.proofs.RisingSetLemmas.{Contains-cons_cases, Contains-none}
use Rattle.rr_icalfile.specs.DayLaws.{DayHasOneTime}
use Rattle.rr_icalfile.specs.Days.{is_other_time, keeps_time}

-- ---- tests that hold together

both : (a b : Bool) → (a && b) ≡ true → (a ≡ true) × (b ≡ true)
both true b h = (refl, h)
both false b h = absurd (cc)

-- a part that is filled from the start allows its number alone
filled_alone : (numbers : List ℤ) (wants : Bool) (own n : ℕ) → is_absent numbers ≡ true → wants ≡ true
    → IsTrue (allows (filled_part wants numbers (pos own)) (pos n)) → n ≡ own
filled_alone numbers false own n absent wanted h = absurd (cc)
filled_alone (x ∷ xs) true own n absent wanted h = absurd (cc)
filled_alone [] true own n absent wanted h = by (int_eq (pos own) (pos n)) refl h
  where
    by : (b : Bool) → int_eq (pos own) (pos n) ≡ b → IsTrue (b || false) → n ≡ own
    by true e h = grind (arith, ints)
    by false e h = absurd (cc)

same_second : (s u : ℕ) → s / 3_600 ≡ u / 3_600 → s / 60 % 60 ≡ u / 60 % 60 → s % 60 ≡ u % 60 → s ≡ u
same_second s u hour minute second = omega arith

-- ---- a member of a rule

candidate-time : (rule : Rule) (start t : ℤ) → keeps_time rule ≡ true → IsTrue (is_candidate rule Moments start t)
    → second_part Moments t ≡ second_part Moments start
unfolding is_candidate
candidate-time rule start t keeps h =
    let days = both (is_whole_days rule.freq) _ keeps in
    let hours = both (is_absent rule.by_hour) _ days.1 in
    let more = both (is_absent rule.by_minute) _ hours.1 in
    let wants = fills_times rule.freq days.0 in
    let filled = filled_rule rule Moments start in
    let holds = and_parts (interval_holds rule Moments start t) (date_parts_hold filled (day_part Moments t)) (time_parts_hold filled Moments t) h in
    let parts = and_parts (by_hour_holds filled Moments t) (by_minute_holds filled Moments t) (by_second_holds filled Moments t) holds.2 in
    same_second (second_part Moments t) (second_part Moments start)
    (filled_alone rule.by_hour (wants_hour rule.freq) (hour_of Moments start) (hour_of Moments t) hours.0 wants.0 parts.0)
    (filled_alone rule.by_minute (wants_minute rule.freq) (minute_of Moments start) (minute_of Moments t) more.0 wants.1 parts.1)
    (filled_alone rule.by_second (wants_second rule.freq) (second_of Moments start) (second_of Moments t) more.1 wants.2 parts.2)

chosen-time : (rule : Rule) (start t : ℤ) → keeps_time rule ≡ true → IsTrue (is_chosen rule Moments start t)
    → second_part Moments t ≡ second_part Moments start
unfolding is_chosen
chosen-time rule start t keeps h = candidate-time rule start t keeps (both (is_candidate rule Moments start t) _ h).0

member-time : (rules : List Rule) (start t : ℤ) → list_all keeps_time rules ≡ true → IsMemberOfSome rules Moments start t
    → second_part Moments t ≡ second_part Moments start
member-time [] start t keep member = absurd member
member-time (rule ∷ rules) start t keep member =
    let keeps = both (keeps_time rule) (list_all keeps_time rules) keep in
    elim member [
      | inl one ↦ chosen-time rule start t keeps.0 one.chosen
      | inr more ↦ member-time rules start t keeps.1 more
    ]

-- ---- a date

not_other : (a b : ℤ) (m n : ℕ) → (int_eq a b && not (m == n)) ≡ false → a ≡ b → m ≡ n
not_other a b m n h same = grind (arith, ints)

either : (a b : Bool) → (a || b) ≡ false → (a ≡ false) × (b ≡ false)
either true b h = absurd (cc)
either false b h = (refl, h)

date-time : (start day t : ℤ) (dates : List ℤ) → list_any (is_other_time start day) dates ≡ false → Contains dates t → day_part Moments t ≡ day
    → second_part Moments t ≡ second_part Moments start
date-time start day t [] none there on = absurd (Contains-none t there)
date-time start day t (d ∷ ds) none there on =
    let nones = either (is_other_time start day d) (list_any (is_other_time start day) ds) none in
    elim (Contains-cons_cases d ds t there) [
      | inl same ↦ ap (second_part Moments) (sym same) ∙ not_other (day_part Moments d) day _ _ nones.0 (ap (day_part Moments) same ∙ on)
      | inr more ↦ date-time start day t ds nones.1 more on
    ]

-- ---- an occurrence

pub day_has_one_time : DayHasOneTime
day_has_one_time series day t moments one clear occurs on =
    let keep = both (list_all keeps_time series.rules) (list_all keeps_time series.excluded) one in
    let time : second_part Moments t ≡ second_part Moments series.start =
    elim occurs.stands [
      | inl first ↦ ap (second_part Moments) first.1
      | inr more ↦ elim more [
        | inl member ↦ member-time series.rules series.start t keep.0
            (subst (λ (k : Kind). IsMemberOfSome series.rules k series.start t) moments member)
        | inr added ↦ date-time series.start day t series.plus clear added on
      ]
    ] in
    moment_is Moments t ∙ (λ i. moment_at Moments (on i) (time i))
