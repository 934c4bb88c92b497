use Rattle.std.proofs.Common.{◌≡◌, ◌-◌, ◌%◌, ◌<◌, pos, ◌+ℤ◌, to_z, of_z, w64, to_z-of_z, arith}
use Rattle.std.proofs.lemmas.Int.{ints}
use Rattle.std.proofs.lemmas.Nat.{mod_below}
use Rattle.rr_model.specs.Bounds.{earliest_near}
use Rattle.rr_days.proofs.RowLemmas.{row_before, row_of_cycle}
use Rattle.rr_days.proofs.folded.Folded.row_on.Goals as goal

pub returns-then-day-self : goal.returns-then-day-self
returns-then-day-self c =
    let f = c.args.self.now in
    let d = to_z-of_z c.ranges.day in
    let s : to_z w64 (of_z w64 f.settled) ≡ f.settled = omega (arith, ints, f.bounded.settled.0, f.bounded.settled.1) in
    row_before f.kind f.shapes f.before f.cycle f.settled f.period f.empty earliest_near f.before_rises f.cycle_rises c.args.day
    c.row_from.result.now c.first_of_row.result.now c.days_between.result
    c.first_of_row.ensures f.before_within (rw d at c.row_from.ensures.row) (rw d at c.row_from.ensures.none) (omega (arith, ints, d, s))
    (omega (arith, ints, d, s))

pub returns : goal.returns
returns c =
    let f = c.args.self.now in
    let d = to_z-of_z c.ranges.day in
    let s : to_z w64 (of_z w64 f.settled) ≡ f.settled = omega (arith, ints, f.bounded.settled.0, f.bounded.settled.1) in
    let past = c.days_between-2.result in
    let index = c.index_in_cycle-index.result in
    let turned : index ≡ past % f.period = c.index_in_cycle-index.ensures in
    let below : index < f.period = omega (arith, turned, mod_below past f.period f.bounded.some) in
    let r : c.day_after.result ≡ f.settled +ℤ pos index = rw s at c.day_after.ensures in
    let back : to_z w64 (of_z w64 c.day_after.result) ≡ c.day_after.result = omega (arith, ints, r, f.bounded.settled.0, f.bounded.settled.1, f.bounded.few, below) in
    row_of_cycle f.kind f.shapes f.before f.cycle f.settled f.period f.empty earliest_near f.before_rises f.cycle_rises c.args.day
    c.row_from-2.result.now c.first_of_row-2.result.now
    (f.period - index) c.first_of_row-2.ensures past index
    f.cycle_within (rw (back, r) at c.row_from-2.ensures.row) (rw (back, r) at c.row_from-2.ensures.none) f.bounded.some (omega (arith, ints, d, s)) turned
    (omega (arith, below)) below
