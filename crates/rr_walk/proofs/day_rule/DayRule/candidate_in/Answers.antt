use Rattle.std.proofs.Common.{◌≡◌, ◌⊎◌, ℤ, pos, ◌+ℤ◌, ◌≤ℤ◌, [], ◌∷◌, ◌∙◌, FitsSigned, refl, sym, inl, inr, arith, rules, w64, to_z, of_z, to_z-of_z}
use Rattle.std.proofs.lemmas.Int.{clamps, ints}
use Rattle.std.specs.Int.{int_max, int_min}
use Rattle.rr_model.specs.Calendar.{IsDayWithin}
use Rattle.rr_model.specs.Moment.Units.{unit_start}
use Rattle.rr_model.specs.declared.kind.Kind.TheVariants.{Days}
use Rattle.rr_walk.specs.Ruling.{IsUnrolled, IsWholeUnit, Ruling}
use Rattle.rr_walk.proofs.PlainLemmas.{candidate_of_unit}
use Rattle.rr_walk.proofs.PositionDayLemmas.{allowed_unrolled, entered_unrolled}
use Rattle.rr_walk.proofs.WholeUnitLemmas.{first_is, next_is}
use Rattle.rr_walk.proofs.StepLemmas.{earlier_is, later_is}
use Rattle.rr_walk.proofs.day_rule.DayRule.candidate_in.Goals as goal
use Rattle.rr_walk.proofs.day_rule.DayRule.candidate_in.Goals.{After-max, then-self-unit, else-self-unit}

low_is : (begin from low : ℤ) → low ≡ int_max begin from → (begin ≤ℤ low) × (from ≤ℤ low) × ((low ≡ begin) ⊎ (low ≡ from))
low_is begin from low e = (omega (arith, ints, clamps, e), omega (arith, ints, clamps, e), later_is begin from low e)

high_is : (next to high : ℤ) → high ≡ int_min next to → (high ≤ℤ next) × (high ≤ℤ to) × ((high ≡ next) ⊎ (high ≡ to))
high_is next to high e = (omega (arith, ints, clamps, e), omega (arith, ints, clamps, e), earlier_is next to high e)

-- the unit is entered
entered : (c : After-max) → (let s = c.if-self-unit.self-inside in
    let r : Ruling = record { rule = s.rule; kind = s.kind; start = s.start; kept = s.number ∷ [] } in
    IsUnrolled r s.start_day s.start_second s.times s.allowed s.own_unit s.last s.unit s.is_held s.days.items × (s.unit.number ≡ c.args.unit)
    × (r ≡ c.args.self.now))
entered c = elim c.if-self-unit.branch [
  | then-self-unit w ↦ (
      let i = c.self.inside in
      let r : Ruling = record { rule = i.rule; kind = i.kind; start = i.start; kept = i.number ∷ [] } in
      let number : w.whole_unit-self-inside.result.number ≡ c.args.unit = w.whole_unit-self-inside.ensures.number ∙ to_z-of_z c.ranges.unit in
      rw w.self-inside-is (
        entered_unrolled r i.start_day i.start_second i.times i.allowed i.allowed i.own_unit i.last i.unit w.whole_unit-self-inside.result i.is_held
            i.days.items i.days.items c.self.invariant refl w.whole_unit-self-inside.ensures.unit,
        number,
        c.self.view_is,
      ))
  | else-self-unit w ↦ (
      let fits : FitsSigned w64 c.self.inside.unit.number = search rules in
      let e : c.self.inside.unit.number ≡ c.args.unit = omega (arith, ints, w.if-self-unit.false, to_z-of_z fits, to_z-of_z c.ranges.unit) in
      rw w.self-inside-is (c.self.invariant, e, c.self.view_is))
]

module _ (c : goal.After-min) where
  abbrev begin : ℤ
  begin = unit_start c.args.self.now.rule.freq c.args.self.now.rule.week_start Days c.args.unit

  abbrev next : ℤ
  next = unit_start c.args.self.now.rule.freq c.args.self.now.rule.week_start Days (c.args.unit +ℤ pos 1)

  whole : IsWholeUnit c.if-self-unit.self-inside.rule.freq c.if-self-unit.self-inside.rule.week_start c.if-self-unit.self-inside.unit
  whole = (entered c.before.before).0.of_unit

  begin_is : to_z w64 (of_z w64 c.if-self-unit.self-inside.unit.first) ≡ begin
  begin_is =
      let e = entered c.before.before in
      rw (sym e.2, sym e.1) (first_is _ _ c.if-self-unit.self-inside.unit e.0.freq whole ∙ whole.of_first)

  end_is : to_z w64 (of_z w64 c.if-self-unit.self-inside.unit.next) ≡ next
  end_is =
      let e = entered c.before.before in
      rw (sym e.2, sym e.1) (next_is _ _ c.if-self-unit.self-inside.unit e.0.freq whole ∙ whole.of_next)

  pub of_low : (begin ≤ℤ c.max.result) × (c.args.from ≤ℤ c.max.result) × ((c.max.result ≡ begin) ⊎ (c.max.result ≡ c.args.from))
  of_low =
      let f : to_z w64 (of_z w64 c.if-self-unit.self-inside.unit.first) ≡ begin = begin_is in
      low_is begin c.args.from c.max.result (rw (f, to_z-of_z c.ranges.from) at c.max.ensures.value)

  pub of_high : (c.min.result ≤ℤ next) × (c.min.result ≤ℤ (c.args.to +ℤ pos 1)) × ((c.min.result ≡ next) ⊎ (c.min.result ≡ c.args.to +ℤ pos 1))
  of_high =
      let f : to_z w64 (of_z w64 c.if-self-unit.self-inside.unit.next) ≡ next = end_is in
      let t : to_z w64 (of_z w64 (to_z w64 (of_z w64 c.args.to) +ℤ pos 1)) ≡ c.args.to +ℤ pos 1 = omega (arith, ints, c.requires.to.0, c.requires.to.1) in
      high_is next (c.args.to +ℤ pos 1) c.min.result (rw (f, t) at c.min.ensures.value)

  pub low_near : IsDayWithin 0 c.max.result
  low_near = (
    omega (arith, ints, of_low.1, c.requires.from.0),
    elim of_low.2 [
      | inl e ↦ omega (arith, ints, e, c.requires.begun, c.requires.to.1)
      | inr e ↦ omega (arith, ints, e, c.requires.from.1)
    ],
  )

  pub high_near : IsDayWithin 0 c.min.result
  high_near = (
    elim of_high.2 [
      | inl e ↦ omega (arith, ints, e, c.requires.over, c.requires.from.0)
      | inr e ↦ omega (arith, ints, e, c.requires.to.0)
    ],
    omega (arith, ints, of_high.1, c.requires.to.1),
  )

pub whole_unit-self-inside-requires-clause-near : goal.whole_unit-self-inside-requires-clause-near
whole_unit-self-inside-requires-clause-near c =
    let near = rw (sym c.self.view_is) at c.requires.first in
    rw (to_z-of_z c.ranges.unit) near

pub first_from-requires-clause-from : goal.first_from-requires-clause-from
first_from-requires-clause-from c = let n = low_near c in (omega (arith, ints, n.0, n.1), omega (arith, ints, n.0, n.1))

pub first_from-requires-clause-end : goal.first_from-requires-clause-end
first_from-requires-clause-end c = let n = high_near c in (omega (arith, ints, n.0, n.1), omega (arith, ints, n.0, n.1))

pub returns-clause-first : goal.returns-clause-first
returns-clause-first c =
    let b = c.before in
    let e = entered b.before.before in
    let u = rw e.2 at e.0 in
    let low : to_z w64 (of_z w64 c.max.result) ≡ c.max.result = omega (arith, ints, (low_near b).0, (low_near b).1) in
    let high : to_z w64 (of_z w64 c.min.result) ≡ c.min.result = omega (arith, ints, (high_near b).0, (high_near b).1) in
    candidate_of_unit c.args.self.now c.args.from c.args.to c.args.unit (begin b) (next b) c.max.result c.min.result refl refl (of_low b) (of_high b)
    c.first_from.result c.requires.fits (rw (low, high, u.of_allowed) at c.first_from.ensures.first)

pub invariant_of-self : goal.invariant_of-self
invariant_of-self c =
    let s = c.if-self-unit.self-inside in
    let r : Ruling = record { rule = s.rule; kind = s.kind; start = s.start; kept = s.number ∷ [] } in
    allowed_unrolled r s.start_day s.start_second s.times s.allowed c.first_from.new.self s.own_unit s.last s.unit s.is_held s.days.items
    (entered c.before.before.before).0 c.first_from.ensures.same
