use Rattle.std.proofs.Common.{rules, FitsSigned, ◌≡◌, true, refl, ◌∷◌, [], arith, w64, to_z, of_z, to_z-of_z, sym, ap, ◌∙◌, ℕ, pos, nat_abs, ◌+ℤ◌, ◌-ℤ◌}
use Rattle.std.specs.Prelude.{int_lt}
use Rattle.std.proofs.lemmas.Bool.{eqb-true, false≢true}
use Rattle.std.proofs.lemmas.Int.{ints}
use Rattle.std.proofs.lemmas.Result.{IfOk-weaker}
use Rattle.rr_model.specs.Moment.{day_part}
use Rattle.rr_model.specs.Rising.Sets.{IsSetOf}
use Rattle.rr_model.specs.Rule.DaysAndTimes.{IsCandidateDay, IsCandidateTime}
use Rattle.rr_model.specs.Sets.Tree.{chosen_of}
use Rattle.rr_expand.proofs.CandidateDays.{candidate_days}
use Rattle.rr_walk.specs.Ruling.{IsUnrolled, Ruling, keeps_more}
use Rattle.rr_walk.specs.Walk.{IsDayWith, IsFirstInIn, IsFirstOfIn}
use Rattle.rr_walk.proofs.AloneRankLemmas.{first_with}
use Rattle.rr_walk.proofs.PositionDayLemmas.{entered_unrolled, first_in_unit, held_unrolled, same_is, same_ruling}
use Rattle.rr_walk.proofs.WholeUnitLemmas.{count_is, few_days, first_is, next_is, some_days}
use Rattle.rr_walk.proofs.day_rule.DayRule.first_in.Goals as goal
use Rattle.rr_walk.proofs.day_rule.DayRule.first_in.Goals.{then-not-self-unit+in_ok-list, else-not-self-unit, then-self, else-self}

pub unit_beside-self-inside-requires-clause-near : goal.unit_beside-self-inside-requires-clause-near
unit_beside-self-inside-requires-clause-near c =
    let near = rw (sym c.self.view_is) at c.requires.first in
    rw (to_z-of_z c.ranges.unit) (omega (arith, ints, near.0, near.1))

pub overflow_sub-count : goal.overflow_sub-count
overflow_sub-count c =
    let i = c.self.inside in
    let made = c.unit_beside-self-inside.result in
    let at = c.unit_beside-self-inside.ensures.unit in
    let coarse = c.self.invariant.freq in
    let first = first_is i.rule.freq i.rule.week_start made coarse at in
    let next = next_is i.rule.freq i.rule.week_start made coarse at in
    let some = some_days i.rule.freq i.rule.week_start made coarse at in
    let few = few_days i.rule.freq i.rule.week_start made coarse at in
    omega (arith, ints, first, next, some, few)

pub overflow_cast-count : goal.overflow_cast-count
overflow_cast-count c =
    let i = c.self.inside in
    let made = c.unit_beside-self-inside.result in
    let at = c.unit_beside-self-inside.ensures.unit in
    let coarse = c.self.invariant.freq in
    let first = first_is i.rule.freq i.rule.week_start made coarse at in
    let next = next_is i.rule.freq i.rule.week_start made coarse at in
    let some = some_days i.rule.freq i.rule.week_start made coarse at in
    let few = few_days i.rule.freq i.rule.week_start made coarse at in
    omega (arith, ints, first, next, some, few)

pub list-requires-clause-first : goal.list-requires-clause-first
list-requires-clause-first c =
    let i = c.self.inside in
    let made = c.unit_beside-self-inside.result in
    let at = c.unit_beside-self-inside.ensures.unit in
    let number : made.number ≡ c.args.unit = c.unit_beside-self-inside.ensures.number ∙ to_z-of_z c.ranges.unit in
    let begins = rw number at at.of_first in
    let first = first_is i.rule.freq i.rule.week_start made c.self.invariant.freq at in
    let near = rw (sym c.self.view_is) at c.requires.first in
    (omega (arith, ints, first, begins, near.0), omega (arith, ints, first, begins, near.1))

pub list-requires-clause-last : goal.list-requires-clause-last
list-requires-clause-last c =
    let i = c.self.inside in
    let made = c.unit_beside-self-inside.result in
    let at = c.unit_beside-self-inside.ensures.unit in
    let number : made.number ≡ c.args.unit = c.unit_beside-self-inside.ensures.number ∙ to_z-of_z c.ranges.unit in
    let ends = rw number at at.of_next in
    let first = first_is i.rule.freq i.rule.week_start made c.self.invariant.freq at in
    let count = count_is i.rule.freq i.rule.week_start made c.self.invariant.freq at in
    let near = rw (sym c.self.view_is) at c.requires.next in
    (omega (arith, ints, first, count, ends, near.0), omega (arith, ints, first, count, ends, near.1))

pub invariant_of-self : goal.invariant_of-self
invariant_of-self c =
    let i = c.self.inside in
    let r : Ruling = record { rule = i.rule; kind = i.kind; start = i.start; kept = i.number ∷ [] } in
    entered_unrolled r i.start_day i.start_second i.times i.allowed c.list.new.self i.own_unit i.last i.unit c.unit_beside-self-inside.result i.is_held
    i.days.items c.list.new.days.items c.self.invariant c.list.ensures.same c.unit_beside-self-inside.ensures.unit

-- the unit's days are held
held : (c : goal.After-as_slice) → (let s = c.if-not-self-unit.self-inside in
    let r : Ruling = record { rule = s.rule; kind = s.kind; start = s.start; kept = s.number ∷ [] } in
    IsUnrolled r s.start_day s.start_second s.times s.allowed s.own_unit s.last s.unit s.is_held s.days.items × (s.is_held ≡ true)
    × (s.unit.number ≡ c.args.unit) × (r ≡ c.args.self.now))
held c = elim c.if-not-self-unit.branch [
  | then-not-self-unit+in_ok-list w ↦ (
      let i = c.self.inside in
      let r : Ruling = record { rule = i.rule; kind = i.kind; start = i.start; kept = i.number ∷ [] } in
      let made = w.unit_beside-self-inside.result in
      let at = w.unit_beside-self-inside.ensures.unit in
      let number : made.number ≡ c.args.unit = w.unit_beside-self-inside.ensures.number ∙ to_z-of_z c.ranges.unit in
      let begins = rw number at at.of_first in
      let many : ℕ = nat_abs (to_z w64 (of_z w64 (to_z w64 (of_z w64 made.next) -ℤ to_z w64 (of_z w64 made.first)))) in
      let count : made.first +ℤ pos many ≡ made.next = count_is i.rule.freq i.rule.week_start made c.self.invariant.freq at in
      let ends = rw number at (sym at.of_next ∙ sym count) in
      let first : to_z w64 (of_z w64 made.first) ≡ made.first = first_is i.rule.freq i.rule.week_start made c.self.invariant.freq at in
      let listed = rw c.self.invariant.of_allowed at w.in_ok-list.ensures.listed in
      let fit = rw (sym c.self.view_is) at c.requires.fits in
      let days = candidate_days i.rule (day_part i.kind i.start) c.args.unit (to_z w64 (of_z w64 made.first)) many w.list.new.days.items
      c.self.invariant.freq (first ∙ begins) (ends ∙ ap (λ z. z +ℤ pos many) begins) fit listed in
      rw w.self-inside-is (
        held_unrolled r i.start_day i.start_second i.times i.allowed w.list.new.self i.own_unit i.last i.unit made i.is_held i.days.items w.list.new.days.items
            c.self.invariant w.list.ensures.same at (rw number days),
        refl,
        number,
        c.self.view_is,
      ))
  | else-not-self-unit w ↦ elim c.if-self.branch [
    | then-self v ↦ (
        let fits : FitsSigned w64 c.self.inside.unit.number = search rules in
        let e : c.self.inside.unit.number ≡ c.args.unit =
        sym (to_z-of_z fits) ∙ ap (to_z w64) (eqb-true _ _ (sym v.value-is ∙ w.if-not-self-unit.false)) ∙ to_z-of_z c.ranges.unit in
        rw w.self-inside-is (c.self.invariant, v.if-self.true, e, c.self.view_is))
    | else-self v ↦ absurd (false≢true (sym v.if-self.false ∙ sym v.value-is ∙ w.if-not-self-unit.false))
  ]
]

pub returns-in_err-list-clause-knows : goal.returns-in_err-list-clause-knows
returns-in_err-list-clause-knows c = rw (sym c.self.view_is) at c.requires.knows

pub invariant_of-self-2 : goal.invariant_of-self-2
invariant_of-self-2 c = (held c).0

pub first_alone-requires-clause-days : goal.first_alone-requires-clause-days
first_alone-requires-clause-days c = let h = held c in (c.if-not-self-unit.self-inside.unit.number, rw c.as_slice.ensures.value (h.0.held h.1))

-- none is found at once
pub invariant_of-self-in-None : goal.invariant_of-self-in-None
invariant_of-self-in-None c = (held c.before.before.before.before).0

pub first_of-requires-clause-days : goal.first_of-requires-clause-days
first_of-requires-clause-days c =
    let h = held c.before.before.before.before in
    (c.if-not-self-unit.self-inside.unit.number, rw c.as_slice-in-None.ensures.value (h.0.held h.1))

pub invariant_of-self-in-None-2 : goal.invariant_of-self-in-None-2
invariant_of-self-in-None-2 c = (held c.before.before.before.before.before).0

pub returns-in-None-clause-same : goal.returns-in-None-clause-same
returns-in-None-clause-same c =
    let s = c.if-not-self-unit.self-inside in
    let r : Ruling = record { rule = s.rule; kind = s.kind; start = s.start; kept = s.number ∷ [] } in
    same_is r c.args.self.now (held c.before.before.before.before.before).3

pub returns-in-None-clause-knows : goal.returns-in-None-clause-knows
returns-in-None-clause-knows c =
    let s = c.if-not-self-unit.self-inside in
    let r : Ruling = record { rule = s.rule; kind = s.kind; start = s.start; kept = s.number ∷ [] } in
    let h = held c.before.before.before.before.before in
    keeps_more r 0 (IsCandidateTime s.rule s.kind s.start) c.args.sets.now c.first_of.new.sets c.first_of.ensures.kept (rw (← h.3) at c.requires.knows)

pub returns-in-None-clause-found : goal.returns-in-None-clause-found
returns-in-None-clause-found c =
    let s = c.if-not-self-unit.self-inside in
    let h = held c.before.before.before.before.before in
    let sets = c.first_of.new.sets in
    let days = c.as_slice-in-None.result.now in
    let set : IsSetOf int_lt c.as_slice-in-None.result.now (IsCandidateDay s.rule (day_part s.kind s.start) c.args.unit) =
    rw c.as_slice-in-None.ensures.value (rw h.2 at (h.0.held h.1)) in
    let found = rw (to_z-of_z c.ranges.from) at c.first_of.ensures.found in
    rw (← h.3) (IfOk-weaker c.first_of.result (IsFirstOfIn sets (chosen_of s.rule s.kind s.start) days c.args.from)
    (IsFirstInIn sets (chosen_of s.rule s.kind s.start) s.rule c.args.unit c.args.from)
    (λ f first. first_in_unit s.rule s.kind s.start sets days c.args.unit c.args.from f h.0.freq set first) found)

-- one is
pub invariant_of-self-in-Some : goal.invariant_of-self-in-Some
invariant_of-self-in-Some c = (held c.before.before).0

pub with_times-requires : goal.with_times-requires
with_times-requires c = let h = held c.before.before.before.before in record { knows = rw (← h.3) at c.requires.knows }

pub returns-in-Some-clause-same : goal.returns-in-Some-clause-same
returns-in-Some-clause-same c =
    let s = c.if-not-self-unit.self-inside in
    let r : Ruling = record { rule = s.rule; kind = s.kind; start = s.start; kept = s.number ∷ [] } in
    same_ruling c.with_times.new.self r c.args.self.now c.with_times.ensures.same (same_is r c.args.self.now (held c.before.before.before.before.before).3)

pub returns-in-Some-clause-found : goal.returns-in-Some-clause-found
returns-in-Some-clause-found c =
    let s = c.if-not-self-unit.self-inside in
    let h = held c.before.before.before.before.before in
    let sets = c.with_times.new.sets in
    let days = c.as_slice.result.now in
    let day = c.in-Some.day in
    let tree = chosen_of s.rule s.kind s.start in
    let fits : FitsSigned w64 c.in-Some.day = search rules in
    let set : IsSetOf int_lt c.as_slice.result.now (IsCandidateDay s.rule (day_part s.kind s.start) c.args.unit) =
    rw c.as_slice.ensures.value (rw h.2 at (h.0.held h.1)) in
    let first = rw (to_z-of_z c.ranges.from) at c.in-Some.ensures in
    let found = rw (to_z-of_z fits) at c.with_times.ensures.found in
    rw (← h.3) (IfOk-weaker c.with_times.result (IsDayWith sets (IsCandidateTime s.rule s.kind s.start) day)
    (IsFirstInIn sets tree s.rule c.args.unit c.args.from)
    (λ f e. first_in_unit s.rule s.kind s.start sets days c.args.unit c.args.from f h.0.freq set
    (first_with sets tree days c.args.from (IsCandidateTime s.rule s.kind s.start) day f e (λ times own. first day times refl own))) found)
