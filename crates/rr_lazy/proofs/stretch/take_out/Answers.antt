use Rattle.std.proofs.Common.{rules, ◌≡◌, pos, ◌≤◌, get_or, ◌+ℤ◌, to_z, of_z, w64, to_z-of_z, arith}
use Rattle.rr_model.specs.Moment.{second_part}
use Rattle.rr_lazy.specs.Stretch.{IsFirstFrom}
use Rattle.rr_lazy.proofs.StretchLemmas.{day_after_is, left_begins, left_more, left_all}
use Rattle.rr_lazy.proofs.stretch.take_out.Goals as goal

pub loop-index-init : goal.loop-index-init
loop-index-init c =
    let t = to_z-of_z c.ranges.day in
    let f : IsFirstFrom c.args.kind c.args.dates.now c.args.day c.first_from-first.result = rw t at c.first_from-first.ensures in
    rw t (omega arith, left_begins c.args.kind c.args.dates.now c.args.day c.first_from-first.result f c.args.times.now)

pub loop-index-preserved : goal.loop-index-preserved
loop-index-preserved c =
    let t = to_z-of_z c.ranges.day in
    let f : IsFirstFrom c.args.kind c.args.dates.now c.args.day c.first_from-first.result = rw t at c.first_from-first.ensures in
    let e : to_z w64 (of_z w64 (to_z w64 (of_z w64 c.args.day) +ℤ pos 1)) ≡ c.args.day +ℤ pos 1 = day_after_is c.args.day t c.requires.high in
    let l : IsFirstFrom c.args.kind c.args.dates.now (c.args.day +ℤ pos 1) c.first_from-last.result = rw e at c.first_from-last.ensures in
    let i = rw t at c.loop-index.invariant in
    let x : c.second_part.result ≡ second_part c.args.kind (get_or c.args.dates.now c.loop-index.index (pos 0)) = search rules in
    rw t (
      omega (arith, i.0),
      left_more c.args.kind c.args.dates.now c.args.day c.requires.rises c.first_from-first.result c.first_from-last.result c.loop-index.index f l i.0
          c.loop-index-test.true c.args.times.now c.loop-index.times c.remove.new.self c.second_part.result i.1 x c.remove.ensures,
    )

pub returns : goal.returns
returns c =
    let t = to_z-of_z c.ranges.day in
    let f : IsFirstFrom c.args.kind c.args.dates.now c.args.day c.first_from-first.result = rw t at c.first_from-first.ensures in
    let e : to_z w64 (of_z w64 (to_z w64 (of_z w64 c.args.day) +ℤ pos 1)) ≡ c.args.day +ℤ pos 1 = day_after_is c.args.day t c.requires.high in
    let l : IsFirstFrom c.args.kind c.args.dates.now (c.args.day +ℤ pos 1) c.first_from-last.result = rw e at c.first_from-last.ensures in
    let i = rw t at c.loop-index.invariant in
    let m : c.first_from-last.result ≤ c.loop-index.index = omega (arith, c.loop-index-test.false) in
    left_all c.args.kind c.args.dates.now c.args.day c.requires.rises c.first_from-first.result c.first_from-last.result c.loop-index.index f l i.0 m
    c.args.times.now c.loop-index.times i.1
