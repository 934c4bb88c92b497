use Rattle.std.proofs.Common.{◌≡◌, inl, inr, length, pos, ◌+ℤ◌, w64, to_z, of_z, to_z-of_z, refl, ap, arith}
use Rattle.std.proofs.lemmas.Int.{ints}
use Rattle.rr_skip.specs.Walks.{IsReached}
use Rattle.rr_skip.proofs.MonthLemmas.{month_near}
use Rattle.rr_skip.proofs.WalkLemmas.{reached_none, reached_more, walked_to}
use Rattle.rr_skip.proofs.walk.walk_days.Goals as goal

pub at-turn-requires-clause-month : goal.at-turn-requires-clause-month
at-turn-requires-clause-month c =
    let b = to_z-of_z c.ranges.first in
    let m = month_near c.args.first (omega (arith, ints, c.requires.low)) (omega (arith, ints, c.requires.high)) in
    rw b (omega (arith, ints, m.0), omega (arith, ints, m.1))

pub at-turn-requires-clause-before : goal.at-turn-requires-clause-before
at-turn-requires-clause-before c =
    let b = to_z-of_z c.ranges.first in
    let m = month_near c.args.first (omega (arith, ints, c.requires.low)) (omega (arith, ints, c.requires.high)) in
    rw b (omega (arith, ints, m.0), omega (arith, ints, m.1))

pub loop-index-init : goal.loop-index-init
loop-index-init c = reached_none c.args.schedule.now (to_z w64 (of_z w64 c.args.first)) c.args.most c.at-turn.result _ c.at-turn.ensures.turn
    c.at-turn.ensures.of_day (ap length c.new.ensures.items) refl

pub returns-then-walk-eq0 : goal.returns-then-walk-eq0
returns-then-walk-eq0 c =
    let b = to_z-of_z c.ranges.first in
    let r : IsReached c.args.schedule.now c.args.first c.loop-index.index c.args.most c.loop-index.turn c.loop-index.walk = rw b at c.loop-index.invariant in
    walked_to c.args.schedule.now c.args.first c.args.most c.loop-index.index c.args.end c.loop-index.turn c.loop-index.walk r
    c.loop-index.auto.index-end (inl c.if-walk-eq0.true)

pub advance_to-turn-requires-clause-near : goal.advance_to-turn-requires-clause-near
advance_to-turn-requires-clause-near c =
    let b = to_z-of_z c.ranges.first in
    let d = to_z-of_z {w = w64} {z = c.day_at-day.result} (record { sfits = c.day_at-day.type_inv }) in
    let at : c.day_at-day.result ≡ c.args.first +ℤ pos c.loop-index.index = rw b at c.day_at-day.ensures in
    let m = month_near c.day_at-day.result (omega (arith, ints, at, c.requires.low)) (omega (arith, ints, at, c.requires.high, c.loop-index-test.true)) in
    rw d (omega (arith, ints, m.0), omega (arith, ints, m.1))

pub advance_to-turn-requires-clause-day : goal.advance_to-turn-requires-clause-day
advance_to-turn-requires-clause-day c =
    let d = to_z-of_z {w = w64} {z = c.day_at-day.result} (record { sfits = c.day_at-day.type_inv }) in
    rw (d, c.day_at-day.ensures) c.loop-index.invariant.day

pub loop-index-preserved : goal.loop-index-preserved
loop-index-preserved c =
    let d = to_z-of_z {w = w64} {z = c.day_at-day.result} (record { sfits = c.day_at-day.type_inv }) in
    reached_more c.args.schedule.now (to_z w64 (of_z w64 c.args.first)) c.args.most c.loop-index.index c.loop-index.turn c.advance_to-turn.result
    c.loop-index.walk c.put.new.self c.day_at-day.result c.chooses.result c.day_at-day.ensures c.loop-index.invariant c.advance_to-turn.ensures.turn
    (rw d at c.advance_to-turn.ensures.of_day) (rw d at c.chooses.ensures) c.in_ok-put.ensures

pub returns : goal.returns
returns c =
    let b = to_z-of_z c.ranges.first in
    let r : IsReached c.args.schedule.now c.args.first c.loop-index.index c.args.most c.loop-index.turn c.loop-index.walk = rw b at c.loop-index.invariant in
    walked_to c.args.schedule.now c.args.first c.args.most c.loop-index.index c.args.end c.loop-index.turn c.loop-index.walk r
    c.loop-index.auto.index-end (inr (omega (arith, c.loop-index-test.false, c.loop-index.auto.index-end)))
