use Rattle.std.proofs.Common.{◌≡◌, ◌-◌, ◌%◌, ◌<◌, pos, ◌+ℤ◌, to_z, of_z, w64, to_z-of_z, arith}
use Rattle.std.proofs.lemmas.Int.{ints}
use Rattle.std.proofs.lemmas.Nat.{mod_below}
use Rattle.rr_model.specs.Bounds.{earliest_near}
use Rattle.rr_days.proofs.RowLemmas.{free_before, free_of_cycle}
use Rattle.rr_days.proofs.folded.Folded.free_ahead.Goals as goal

pub returns-then-self-day : goal.returns-then-self-day
returns-then-self-day c =
    let f = c.args.self.now in
    let d = to_z-of_z c.ranges.day in
    let s : to_z w64 (of_z w64 f.settled) ≡ f.settled = omega (arith, ints, f.bounded.settled.0, f.bounded.settled.1) in
    let most = c.days_between.result in
    λ k h. free_before f.kind f.shapes f.before f.cycle f.settled f.period f.empty earliest_near f.before_rises f.cycle_rises c.args.day
    c.free_days-before.result most (rw d at c.free_days-before.ensures) (omega (arith, ints, d, s)) k (omega (arith, h, c.min.ensures))

pub returns : goal.returns
returns c =
    let f = c.args.self.now in
    let d = to_z-of_z c.ranges.day in
    let s : to_z w64 (of_z w64 f.settled) ≡ f.settled = omega (arith, ints, f.bounded.settled.0, f.bounded.settled.1) in
    let past = c.days_between-past.result in
    let index = c.index_in_cycle-index.result in
    let turned : index ≡ past % f.period = c.index_in_cycle-index.ensures in
    let below : index < f.period = omega (arith, turned, mod_below past f.period f.bounded.some) in
    let r : c.day_after.result ≡ f.settled +ℤ pos index = rw s at c.day_after.ensures in
    let back : to_z w64 (of_z w64 c.day_after.result) ≡ c.day_after.result = omega (arith, ints, r, f.bounded.settled.0, f.bounded.settled.1, f.bounded.few, below) in
    λ k h. free_of_cycle f.kind f.shapes f.before f.cycle f.settled f.period f.empty earliest_near f.before_rises f.cycle_rises c.args.day
    past index c.free_days-cycle.result (f.period - index) (rw (back, r) at c.free_days-cycle.ensures) (omega (arith, ints, d, s)) turned
    (omega (arith, below)) below k (omega (arith, h, c.min-2.ensures))
