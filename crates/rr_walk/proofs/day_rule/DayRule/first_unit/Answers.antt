use Rattle.std.proofs.Common.{◌≡◌, ◌≤◌, [], ◌∷◌, pos, ◌+ℤ◌, ◌-ℤ◌, arith, w64, to_z, of_z, to_z-of_z, sym}
use Rattle.std.proofs.lemmas.Int.{ints, to_z_pos}
use Rattle.rr_model.specs.Whole.{floor_mod}
use Rattle.rr_model.specs.Moment.Units.{unit_number}
use Rattle.rr_model.specs.declared.kind.Kind.TheVariants.{Days}
use Rattle.rr_model.specs.Moment.{day_part}
use Rattle.rr_expand.specs.Expansion.{IsUnitNear}
use Rattle.rr_walk.specs.Ruling.{Ruling}
use Rattle.rr_walk.proofs.PlainLemmas.{passed_first}
use Rattle.rr_walk.proofs.WalkLemmas.{unit_bounds, walked_first}
use Rattle.rr_walk.proofs.WholeUnitLemmas.{day_near, own_near}
use Rattle.rr_walk.proofs.day_rule.DayRule.first_unit.Goals as goal

pub first_fit-requires-clause-first : goal.first_fit-requires-clause-first
first_fit-requires-clause-first c =
    let i = c.self.inside in
    let low : i.rule.week_start ≤ 255 = omega (arith, c.self.invariant.valid.valid.week_start) in
    let is = rw (sym c.self.view_is, to_z-of_z c.ranges.from) at c.unit_at-unit.ensures in
    let u = day_near i.rule.freq i.rule.week_start c.args.from c.unit_at-unit.result c.self.invariant.freq low c.requires is in
    (omega (arith, ints, u.0, u.1), omega (arith, ints, u.0, u.1))

pub first_fit-requires-clause-start : goal.first_fit-requires-clause-start
first_fit-requires-clause-start c =
    let i = c.self.inside in
    let low : i.rule.week_start ≤ 255 = omega (arith, c.self.invariant.valid.valid.week_start) in
    let u = own_near i.rule.freq i.rule.week_start i.kind i.start i.own_unit c.self.invariant.freq low c.self.invariant.valid.in_years
    c.self.invariant.of_own in
    (omega (arith, ints, u.0, u.1), omega (arith, ints, u.0, u.1))

fit_is : (c : goal.After-first_fit) → (c.first_fit.result ≤ 4_294_967_295) × (to_z w64 c.first_fit.result ≡ pos c.first_fit.result)
fit_is c =
    let high = c.self.invariant.valid.valid.interval_high in
    let b : c.first_fit.result ≤ 4_294_967_295 = omega (arith, c.first_fit.ensures.below, high) in
    (b, to_z_pos w64 c.first_fit.result (omega (arith, b)))

-- the unit of the day, and the start's
units_near : (c : goal.After-first_fit) → IsUnitNear c.unit_at-unit.result × IsUnitNear c.self.inside.own_unit
    × (c.unit_at-unit.result ≡ unit_number c.self.inside.rule.freq c.self.inside.rule.week_start Days c.args.from)
units_near c =
    let i = c.self.inside in
    let low : i.rule.week_start ≤ 255 = omega (arith, c.self.invariant.valid.valid.week_start) in
    let is = rw (sym c.self.view_is, to_z-of_z c.ranges.from) at c.unit_at-unit.ensures in (
      day_near i.rule.freq i.rule.week_start c.args.from c.unit_at-unit.result c.self.invariant.freq low c.requires is,
      own_near i.rule.freq i.rule.week_start i.kind i.start i.own_unit c.self.invariant.freq low c.self.invariant.valid.in_years c.self.invariant.of_own,
      is,
    )

pub overflow_add-result : goal.overflow_add-result
overflow_add-result c = let f = fit_is c in let u = (units_near c).0 in omega (arith, ints, f.0, f.1, u.0, u.1)

pub returns-clause-near : goal.returns-clause-near
returns-clause-near c =
    let f = fit_is c in
    let i = c.self.inside in
    let u = units_near c in
    let low : i.rule.week_start ≤ 255 = omega (arith, c.self.invariant.valid.valid.week_start) in
    let b = unit_bounds i.rule.freq i.rule.week_start c.self.invariant.freq c.args.from low (
      omega (arith, ints, c.requires.0),
      omega (arith, ints, c.requires.1),
    ) in
    let from = u.2 in
    omega (arith, ints, f.0, f.1, u.0.0, u.0.1, from, b.0, b.1)

pub returns-clause-walked : goal.returns-clause-walked
returns-clause-walked c =
    let i = c.self.inside in
    let f = fit_is c in
    let u = units_near c in
    let a : to_z w64 (of_z w64 c.unit_at-unit.result) ≡ c.unit_at-unit.result = omega (arith, ints, u.0.0, u.0.1) in
    let b : to_z w64 (of_z w64 i.own_unit) ≡ i.own_unit = omega (arith, ints, u.1.0, u.1.1) in
    let own = c.self.invariant.of_own in
    let from = u.2 in
    let value : c.first_fit.result ≡ floor_mod
    (unit_number i.rule.freq i.rule.week_start Days
    (day_part i.kind i.start) -ℤ unit_number i.rule.freq i.rule.week_start Days c.args.from) i.rule.interval =
    rw (sym own, sym from) (rw (a, b) at c.first_fit.ensures.value) in
    let q : to_z w64 (of_z w64 (to_z w64 (of_z w64 c.unit_at-unit.result) +ℤ to_z w64 c.first_fit.result))
    ≡ unit_number i.rule.freq i.rule.week_start Days c.args.from +ℤ pos c.first_fit.result = omega (arith, ints, f.0, f.1, u.0.0, u.0.1, from) in
    rw (← c.self.view_is)
    (rw q (walked_first i.rule i.kind i.start c.self.invariant.freq c.self.invariant.valid.valid.interval_low c.args.from c.first_fit.result value))

pub returns-clause-passed : goal.returns-clause-passed
returns-clause-passed c =
    let i = c.self.inside in
    let f = fit_is c in
    let u = units_near c in
    let a : to_z w64 (of_z w64 c.unit_at-unit.result) ≡ c.unit_at-unit.result = omega (arith, ints, u.0.0, u.0.1) in
    let b : to_z w64 (of_z w64 i.own_unit) ≡ i.own_unit = omega (arith, ints, u.1.0, u.1.1) in
    let own = c.self.invariant.of_own in
    let from = u.2 in
    let value : c.first_fit.result ≡ floor_mod
    (unit_number i.rule.freq i.rule.week_start Days
    (day_part i.kind i.start) -ℤ unit_number i.rule.freq i.rule.week_start Days c.args.from) i.rule.interval =
    rw (sym own, sym from) (rw (a, b) at c.first_fit.ensures.value) in
    let q : to_z w64 (of_z w64 (to_z w64 (of_z w64 c.unit_at-unit.result) +ℤ to_z w64 c.first_fit.result))
    ≡ unit_number i.rule.freq i.rule.week_start Days c.args.from +ℤ pos c.first_fit.result = omega (arith, ints, f.0, f.1, u.0.0, u.0.1, from) in
    let r : Ruling = record { rule = i.rule; kind = i.kind; start = i.start; kept = i.number ∷ [] } in
    rw (← c.self.view_is)
    (rw q (passed_first r c.self.invariant.freq c.self.invariant.valid.valid.interval_low c.args.from c.first_fit.result value))
