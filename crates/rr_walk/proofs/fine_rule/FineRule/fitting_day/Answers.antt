use Rattle.std.proofs.Common.{◌≡◌, ◌≤◌, ◌<◌, ◌-ℤ◌, ◌/◌, ℕ, pos, ◌+ℤ◌, ap, sym, ◌∙◌, arith, w64, to_z, of_z, to_z-of_z}
use Rattle.std.proofs.lemmas.Int.{ints, to_z_pos}
use Rattle.rr_model.specs.declared.kind.Kind.TheVariants.{Moments}
use Rattle.rr_model.proofs.WholeLemmas.{floor_mod_below}
use Rattle.rr_model.specs.Whole.{floor_mod}
use Rattle.rr_model.specs.Moment.{moment_at}
use Rattle.rr_model.specs.Moment.Units.{unit_number}
use Rattle.rr_walk.proofs.FineLemmas.{none_unfit, few_days}
use Rattle.rr_walk.proofs.fine_rule.FineRule.fitting_day.Goals as goal

-- the day that is answered, and how far away it is
bounds : (c : goal.After-units_of_day)
    → (to_z w64 (of_z w64 (to_z w64 (of_z w64 c.args.day) +ℤ to_z w64 (c.unit_offset.result / c.units_of_day.result)))
    ≡ c.args.day +ℤ pos (c.unit_offset.result / c.units_of_day.result)) × (c.unit_offset.result / c.units_of_day.result ≤ 4_294_967_295)
bounds c =
    let i = c.self.inside in
    let offset = rw (sym c.self.view_is, to_z-of_z c.ranges.day) at c.unit_offset.ensures in
    let below : floor_mod (unit_number i.rule.freq i.rule.week_start Moments i.start -ℤ unit_number i.rule.freq i.rule.week_start Moments
    (moment_at Moments c.args.day 0)) i.rule.interval < i.rule.interval = floor_mod_below _ i.rule.interval c.self.invariant.valid.valid.interval_low in
    let n : ℕ = c.unit_offset.result / c.units_of_day.result in
    let small : n ≤ 4_294_967_295 =
    omega (
      arith,
      few_days i.rule.freq c.unit_offset.result c.units_of_day.result c.self.invariant.freq c.units_of_day.ensures,
      offset,
      below,
      c.self.invariant.valid.valid.interval_high,
    ) in
    (omega (arith, ints, to_z-of_z c.ranges.day, to_z_pos w64 n (omega (arith, small)), small, c.requires.0, c.requires.1), small)

pub returns-clause-none : goal.returns-clause-none
returns-clause-none c =
    let i = c.self.inside in
    let offset = rw (sym c.self.view_is, to_z-of_z c.ranges.day) at c.unit_offset.ensures in
    rw (← c.self.view_is)
    (none_unfit i.rule i.start c.args.day c.unit_offset.result _ c.self.invariant.freq c.self.invariant.valid.valid.interval_low offset ((bounds c).0
    ∙ ap (λ m. c.args.day +ℤ pos (c.unit_offset.result / m)) c.units_of_day.ensures))

pub returns-clause-late : goal.returns-clause-late
returns-clause-late c =
    let b = bounds c in omega (arith, ints, b.0, b.1)

pub returns-clause-near : goal.returns-clause-near
returns-clause-near c =
    let b = bounds c in omega (arith, ints, b.0, b.1)
