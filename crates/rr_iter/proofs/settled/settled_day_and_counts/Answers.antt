use Rattle.std.proofs.Common.{rules, ◌≡◌, List, ℤ, pos, ◌+ℤ◌, ◌≤ℤ◌, w64, to_z, of_z, FitsSigned, to_z-of_z, subst, arith}
use Rattle.std.specs.Prelude.{Err}
use Rattle.std.proofs.lemmas.Int.{ints}
use Rattle.rr_model.specs.Bounds.{first_day_of_all}
use Rattle.rr_model.specs.Answers.{RefusedExactlyWhere}
use Rattle.rr_model.specs.Moment.{day_part}
use Rattle.rr_model.specs.Series.Limits.{CountSomeTooFar, IsCountedTooFar}
use Rattle.rr_model.specs.Series.Settled.{IsSettledDay}
use Rattle.rr_model.specs.declared.kind.Kind.{Kind}
use Rattle.rr_model.specs.declared.refusal.Refusal.TheVariants.{CountedTooFar}
use Rattle.rr_model.specs.declared.rule.Rule.{Rule}
use Rattle.rr_iter.specs.Counts.{AreCountsOf}
use Rattle.rr_iter.specs.Ends.{IsLastOfRules}
use Rattle.rr_iter.specs.declared.settled.LastOfRules.{LastOfRules}
use Rattle.rr_iter.specs.declared.settled.Settled.{Settled}
use Rattle.rr_iter.proofs.SettledLemmas.{dates_near, excluded_are_sound, excluded_too_far, neither_too_far, rule_too_far, rules_are_sound, settled_is}
use Rattle.rr_iter.proofs.settled.settled_day_and_counts.Goals.{After-as_slice}
use Rattle.rr_iter.proofs.settled.settled_day_and_counts.Goals as goal

-- ---- the last day of rules that follow a day

record AreAsked (kind : Kind) (start : ℤ) (rules : List Rule) (day last : ℤ) : Type 0 where
  is_last : IsLastOfRules kind start rules day last
  same : to_z w64 (of_z w64 last) ≡ last
  low : first_day_of_all ≤ℤ last
  late : day_part kind start ≤ℤ last
  high : last ≤ℤ pos 19_710_112

asked : (kind : Kind) (start : ℤ) (rules : List Rule) (day last : ℤ) → first_day_of_all ≤ℤ day → day_part kind start ≤ℤ day
    → IsLastOfRules kind start rules day last → last ≤ℤ pos 19_710_112 → AreAsked kind start rules day last
asked kind start rules day last low late is_last high = record {
  is_last = is_last;
  same = omega (arith, ints, is_last.late, low, high);
  low = omega (arith, ints, is_last.late, low);
  late = omega (arith, ints, is_last.late, late);
  high = high;
}

-- ---- once the start and the dates were looked at

record Dates (c : After-as_slice) : Type 0 where
  start : to_z w64 (of_z w64 c.series-given.result.now.start) ≡ c.series-given.result.now.start
  same : to_z w64 (of_z w64 c.last_of-with_dates.result) ≡ c.last_of-with_dates.result
  low : first_day_of_all ≤ℤ c.last_of-with_dates.result
  late : day_part c.series-given.result.now.kind c.series-given.result.now.start ≤ℤ c.last_of-with_dates.result
  high : c.last_of-with_dates.result ≤ℤ pos 19_710_112
  settled : (rules last : ℤ)
      → IsLastOfRules c.series-given.result.now.kind c.series-given.result.now.start c.series-given.result.now.rules c.last_of-with_dates.result rules
      → IsLastOfRules c.series-given.result.now.kind c.series-given.result.now.start c.series-given.result.now.excluded rules last
      → IsSettledDay c.series-given.result.now (last +ℤ pos 1)
  rules : (last : ℤ)
      → IsLastOfRules c.series-given.result.now.kind (to_z w64 (of_z w64 c.series-given.result.now.start)) c.as_slice.result.now
      (to_z w64 (of_z w64 c.last_of-with_dates.result)) last
      → last ≤ℤ pos 19_710_112
      → AreAsked c.series-given.result.now.kind c.series-given.result.now.start c.series-given.result.now.rules c.last_of-with_dates.result last

dates : (c : After-as_slice) → Dates c
dates c =
    let s = c.series-given.result.now in
    let sound = c.series-given.ensures.sound in
    let start_fits : FitsSigned w64 s.start = search rules in
    let day_fits : FitsSigned w64 c.day_part.result = record { sfits = c.day_part.type_inv } in
    let plus_fits : FitsSigned w64 c.last_of-with_plus.result = record { sfits = c.last_of-with_plus.type_inv } in
    let dates_fits : FitsSigned w64 c.last_of-with_dates.result = record { sfits = c.last_of-with_dates.type_inv } in
    let start = to_z-of_z start_fits in
    let day = rw start at c.day_part.ensures in
    let plus = c.last_of-with_plus.ensures in
    let minus = c.last_of-with_dates.ensures in
    let plus_late = rw (to_z-of_z day_fits) at plus.late in
    let plus_least = rw (to_z-of_z day_fits) at plus.least in
    let minus_late = rw (to_z-of_z plus_fits) at minus.late in
    let minus_least = rw (to_z-of_z plus_fits) at minus.least in
    let near = dates_near s sound c.day_part.result c.last_of-with_plus.result c.last_of-with_dates.result day plus_late plus.past plus_least
    minus_late minus.past minus_least in
    record {
      start = start;
      same = to_z-of_z dates_fits;
      low = near.0;
      late = near.1;
      high = near.2;
      settled = settled_is s sound c.day_part.result c.last_of-with_plus.result c.last_of-with_dates.result day plus_late plus.past plus_least
          minus_late minus.past minus_least;
      rules = λ last l h.
          asked s.kind s.start s.rules c.last_of-with_dates.result last near.0 near.1 (rw (start, to_z-of_z dates_fits, c.as_slice.ensures) at l) h;
    }

pub last_of_rules-requires-clause-sound : goal.last_of_rules-requires-clause-sound
last_of_rules-requires-clause-sound c =
    rw ((dates c).start, c.as_slice.ensures) (rules_are_sound c.series-given.result.now c.series-given.ensures.sound)

pub last_of_rules-requires-clause-low : goal.last_of_rules-requires-clause-low
last_of_rules-requires-clause-low c = let d = dates c in rw d.same d.low

pub last_of_rules-requires-clause-late : goal.last_of_rules-requires-clause-late
last_of_rules-requires-clause-late c = let d = dates c in rw (d.start, d.same) d.late

pub last_of_rules-requires-clause-near : goal.last_of_rules-requires-clause-near
last_of_rules-requires-clause-near c = let d = dates c in rw d.same d.high

pub returns-in-Err-clause-refused : goal.returns-in-Err-clause-refused
returns-in-Err-clause-refused c =
    let s = c.series-given.result.now in
    let start : FitsSigned w64 s.start = search rules in
    let fault = c.in-Err.fault in
    let given = subst (λ t. RefusedExactlyWhere {X = LastOfRules} (CountSomeTooFar s.kind t c.as_slice.result.now) CountedTooFar (Err fault)) (to_z-of_z start)
    c.in-Err.ensures.refused in
    let listed = subst (λ l. RefusedExactlyWhere {X = LastOfRules} (CountSomeTooFar s.kind s.start l) CountedTooFar (Err fault)) c.as_slice.ensures given in
    let refused = rule_too_far LastOfRules Settled s fault listed in
    subst (λ x. RefusedExactlyWhere {X = Settled} (IsCountedTooFar x) CountedTooFar (Err fault)) c.series-given.ensures.value refused

-- ---- once the rules were

pub last_of_rules-requires-2-clause-sound : goal.last_of_rules-requires-2-clause-sound
last_of_rules-requires-2-clause-sound c =
    let s = c.series-given.result.now in
    let start : FitsSigned w64 s.start = search rules in
    rw (to_z-of_z start, c.as_slice-2.ensures) (excluded_are_sound s c.series-given.ensures.sound)

pub last_of_rules-requires-2-clause-low : goal.last_of_rules-requires-2-clause-low
last_of_rules-requires-2-clause-low c =
    let r = (dates (goal.at.last_of_rules-requires-2-clause-low c).After-as_slice).rules c.in-Ok.last.day c.in-Ok.ensures.last c.in-Ok.ensures.near in
    rw r.same r.low

pub last_of_rules-requires-2-clause-late : goal.last_of_rules-requires-2-clause-late
last_of_rules-requires-2-clause-late c =
    let d = dates (goal.at.last_of_rules-requires-2-clause-late c).After-as_slice in
    let r = d.rules c.in-Ok.last.day c.in-Ok.ensures.last c.in-Ok.ensures.near in
    rw (d.start, r.same) r.late

pub last_of_rules-requires-2-clause-near : goal.last_of_rules-requires-2-clause-near
last_of_rules-requires-2-clause-near c =
    let r = (dates (goal.at.last_of_rules-requires-2-clause-near c).After-as_slice).rules c.in-Ok.last.day c.in-Ok.ensures.last c.in-Ok.ensures.near in
    rw r.same r.high

-- ---- once the excluded rules were

-- the next day
next_is : (last : ℤ) → first_day_of_all ≤ℤ last → last ≤ℤ pos 19_710_112 → to_z w64 (of_z w64 last) ≡ last
    → to_z w64 (of_z w64 (to_z w64 (of_z w64 last) +ℤ pos 1)) ≡ last +ℤ pos 1
next_is last low high same = rw same (omega (arith, ints, low, high))

pub returns-in-Ok-last_of_rules-clause-settled : goal.returns-in-Ok-last_of_rules-clause-settled
returns-in-Ok-last_of_rules-clause-settled c =
    let s = c.series-given.result.now in
    let d = dates (goal.at.returns-in-Ok-last_of_rules-clause-settled c).After-as_slice in
    let r = d.rules c.in-Ok.last.day c.in-Ok.ensures.last c.in-Ok.ensures.near in
    let last : ℤ = c.in-Ok-last_of_rules.excluded.day in
    let x = asked s.kind s.start s.excluded c.in-Ok.last.day last r.low r.late
    (rw (d.start, r.same, c.as_slice-2.ensures) at c.in-Ok-last_of_rules.ensures.last) c.in-Ok-last_of_rules.ensures.near in
    let settled = d.settled c.in-Ok.last.day last r.is_last x.is_last in
    rw (next_is last x.low x.high x.same) (subst (λ y. IsSettledDay y (last +ℤ pos 1)) c.series-given.ensures.value settled)

pub returns-in-Ok-last_of_rules-clause-near : goal.returns-in-Ok-last_of_rules-clause-near
returns-in-Ok-last_of_rules-clause-near c =
    let s = c.series-given.result.now in
    let d = dates (goal.at.returns-in-Ok-last_of_rules-clause-near c).After-as_slice in
    let r = d.rules c.in-Ok.last.day c.in-Ok.ensures.last c.in-Ok.ensures.near in
    let last : ℤ = c.in-Ok-last_of_rules.excluded.day in
    let x = asked s.kind s.start s.excluded c.in-Ok.last.day last r.low r.late
    (rw (d.start, r.same, c.as_slice-2.ensures) at c.in-Ok-last_of_rules.ensures.last) c.in-Ok-last_of_rules.ensures.near in
    rw (next_is last x.low x.high x.same) (omega (arith, ints, x.low), omega (arith, ints, x.high))

pub returns-in-Ok-last_of_rules-clause-counts : goal.returns-in-Ok-last_of_rules-clause-counts
returns-in-Ok-last_of_rules-clause-counts c =
    let s = c.series-given.result.now in
    let start : FitsSigned w64 s.start = search rules in
    let a = rw (to_z-of_z start, c.as_slice.ensures) at c.in-Ok.ensures.counts in
    let b = rw (to_z-of_z start, c.as_slice-2.ensures) at c.in-Ok-last_of_rules.ensures.counts in
    subst (λ x. AreCountsOf x (record { rules = c.in-Ok.last.counts; excluded = c.in-Ok-last_of_rules.excluded.counts })) c.series-given.ensures.value
    (record { rules = a; excluded = b })

pub returns-in-Ok-last_of_rules-clause-refused : goal.returns-in-Ok-last_of_rules-clause-refused
returns-in-Ok-last_of_rules-clause-refused c =
    let s = c.series-given.result.now in
    let start : FitsSigned w64 s.start = search rules in
    let a = rw (to_z-of_z start, c.as_slice.ensures) at c.in-Ok.ensures.refused in
    let b = rw (to_z-of_z start, c.as_slice-2.ensures) at c.in-Ok-last_of_rules.ensures.refused in
    subst (λ x. IsCountedTooFar x → ⊥) c.series-given.ensures.value (neither_too_far s a b)

pub returns-in-Err-last_of_rules-clause-refused : goal.returns-in-Err-last_of_rules-clause-refused
returns-in-Err-last_of_rules-clause-refused c =
    let s = c.series-given.result.now in
    let start : FitsSigned w64 s.start = search rules in
    let fault = c.in-Err-last_of_rules.fault in
    let given = subst (λ t. RefusedExactlyWhere {X = LastOfRules} (CountSomeTooFar s.kind t c.as_slice-2.result.now) CountedTooFar (Err fault)) (to_z-of_z start)
    c.in-Err-last_of_rules.ensures.refused in
    let listed = subst (λ l. RefusedExactlyWhere {X = LastOfRules} (CountSomeTooFar s.kind s.start l) CountedTooFar (Err fault)) c.as_slice-2.ensures given in
    let refused = excluded_too_far LastOfRules Settled s fault listed in
    subst (λ x. RefusedExactlyWhere {X = Settled} (IsCountedTooFar x) CountedTooFar (Err fault)) c.series-given.ensures.value refused
