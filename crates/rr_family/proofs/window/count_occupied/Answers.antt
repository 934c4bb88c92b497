use Rattle.std.proofs.Common.{◌≡◌, pos, ◌+ℤ◌, arith, sym, ap, ◌∙◌, w64, to_z, of_z}
use Rattle.std.proofs.lemmas.Int.{ints, to_z-of_z}
use Rattle.rr_model.specs.Whole.Count.{count_from}
use Rattle.rr_model.proofs.CountLemmas.{count_from-zero}
use Rattle.rr_family.specs.Lasting.{is_occupied}
use Rattle.rr_family.proofs.WalkLemmas.{counted_free, counted_next, day_after_read}
use Rattle.rr_family.proofs.window.count_occupied.Goals as goal

pub loop-read-init : goal.loop-read-init
loop-read-init g c = (omega arith, omega arith, sym (count_from-zero _ _))

pub returns-in_default : goal.returns-in_default
returns-in_default g c =
    let back = to_z-of_z w64 c.args.first c.ranges.first in
    let less = c.loop-read.invariant.0 in
    let from = day_after_read c.args.first c.day_after.result c.loop-read.read c.args.days c.requires.near c.requires.few less c.day_after.ensures in
    let occupied = is_occupied (g.A.DaySeq.sketch c.args.seq.now) in
    c.loop-read.invariant.2 ∙ ap (λ q. count_from occupied q c.loop-read.read) back
    ∙ sym (counted_free occupied c.args.first c.loop-read.read c.args.days less
    (λ d l h. c.in_default.ensures d (omega (arith, ints, from, l)) (omega (arith, ints, from, h, less))))

pub loop-read-preserved : goal.loop-read-preserved
loop-read-preserved g c =
    let back = to_z-of_z w64 c.args.first c.ranges.first in
    let less = c.loop-read.invariant.0 in
    let from = day_after_read c.args.first c.day_after.result c.loop-read.read c.args.days c.requires.near c.requires.few less c.day_after.ensures in
    let low = c.in-Some.ensures.0 in
    let high = c.in-Some.ensures.1 in
    let same : to_z w64 (of_z w64 c.in-Some.day) ≡ c.in-Some.day = omega (arith, ints, low, high, from, c.requires.near.0, c.requires.near.1, c.requires.few, less) in
    let first = to_z w64 (of_z w64 c.args.first) in
    let next : (to_z w64 (of_z w64 c.args.first) +ℤ pos c.days_through-read.result) ≡ c.in-Some.day +ℤ pos 1 = omega (arith, ints, c.days_through-read.ensures, back, same) in
    let fewer = c.loop-read.invariant.1 in (
      omega (arith, ints, next, back, high, from, less),
      omega (arith, ints, next, back, low, from, fewer),
      counted_next (is_occupied (g.A.DaySeq.sketch c.args.seq.now)) first c.in-Some.day c.loop-read.read c.days_through-read.result c.loop-read.many
          (omega (arith, ints, low, from, back)) next (λ d l h. c.in-Some.ensures.3 d (omega (arith, ints, from, l, back)) h) c.in-Some.ensures.2
          c.loop-read.invariant.2,
    )

pub returns : goal.returns
returns g c =
    let back = to_z-of_z w64 c.args.first c.ranges.first in
    let all : c.loop-read.read ≡ c.args.days = omega (arith, c.loop-read.invariant.0, c.loop-read-test.false) in
    let occupied = is_occupied (g.A.DaySeq.sketch c.args.seq.now) in
    c.loop-read.invariant.2 ∙ ap (λ q. count_from occupied q c.loop-read.read) back ∙ ap (count_from occupied c.args.first) all
