use Rattle.std.proofs.Common.{rules, ◌≡◌, IsTrue, nat_lt, pos, ◌≤◌, get_or, ◌+ℤ◌, to_z, of_z, w64, to_z-of_z, arith}
use Rattle.rr_model.specs.Moment.{second_part}
use Rattle.rr_model.specs.Rising.Sets.{IsSetOf}
use Rattle.rr_times.proofs.SetLemmas.{some_seconds}
use Rattle.rr_lazy.specs.Stretch.{IsFirstFrom}
use Rattle.rr_model.specs.Sets.Tree.{is_among}
use Rattle.std.proofs.lemmas.Result.{IfOk-weaker}
use Rattle.rr_lazy.proofs.StretchLemmas.{day_after_is, seconds_more, seconds_all, below_a_day}
use Rattle.rr_lazy.proofs.stretch.seconds_on.Goals as goal

pub loop-index-preserved : goal.loop-index-preserved
loop-index-preserved c =
    let t = to_z-of_z c.ranges.day in
    let f : IsFirstFrom c.args.kind c.args.dates.now c.args.day c.first_from-first.result = rw t at c.first_from-first.ensures in
    let e : to_z w64 (of_z w64 (to_z w64 (of_z w64 c.args.day) +ℤ pos 1)) ≡ c.args.day +ℤ pos 1 = day_after_is c.args.day t c.requires.high in
    let l : IsFirstFrom c.args.kind c.args.dates.now (c.args.day +ℤ pos 1) c.first_from-last.result = rw e at c.first_from-last.ensures in
    let i = rw t at c.loop-index.invariant in
    let x : c.second_part.result ≡ second_part c.args.kind (get_or c.args.dates.now c.loop-index.index (pos 0)) = search rules in
    rw t (
      omega (arith, i.0),
      seconds_more c.args.kind c.args.dates.now c.args.day c.requires.rises c.first_from-first.result c.first_from-last.result c.loop-index.index f l i.0
          c.loop-index-test.true c.loop-index.seconds.items c.push.new.self.items c.second_part.result i.1 x c.in_ok-push.ensures.items,
    )

set_is : (c : goal.After-deref) → IsSetOf nat_lt c.deref.result.now (λ s. IsTrue (is_among c.args.kind c.args.dates.now c.args.day s))
set_is c =
    let t = to_z-of_z c.ranges.day in
    let f : IsFirstFrom c.args.kind c.args.dates.now c.args.day c.first_from-first.result = rw t at c.first_from-first.ensures in
    let e : to_z w64 (of_z w64 (to_z w64 (of_z w64 c.args.day) +ℤ pos 1)) ≡ c.args.day +ℤ pos 1 = day_after_is c.args.day t c.requires.high in
    let l : IsFirstFrom c.args.kind c.args.dates.now (c.args.day +ℤ pos 1) c.first_from-last.result = rw e at c.first_from-last.ensures in
    let i = rw t at c.loop-index.invariant in
    let m : c.first_from-last.result ≤ c.loop-index.index = omega (arith, c.loop-index-test.false) in
    rw c.deref.ensures.value
    (seconds_all c.args.kind c.args.dates.now c.args.day c.requires.rises c.first_from-first.result c.first_from-last.result c.loop-index.index f l i.0
    m c.loop-index.seconds.items i.1)

pub of-requires : goal.of-requires
of-requires c = some_seconds (λ s. IsTrue (is_among c.args.kind c.args.dates.now c.args.day s)) c.deref.result.now (set_is c)
    (λ s p. below_a_day c.args.kind c.args.dates.now c.args.day s p)

pub returns : goal.returns
returns c = IfOk-weaker c.of.result (λ t. t ≡ c.deref.result.now)
    (λ t. IsSetOf nat_lt t (λ s. IsTrue (is_among c.args.kind c.args.dates.now c.args.day s))) (λ t e. rw e (set_is c.before.before)) c.of.ensures
