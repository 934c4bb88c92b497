use Rattle.std.proofs.Common.{◌≡◌, ◌<◌, ◌∙◌, sym, ap, ℕ, Bool, to_z-of_z, arith}
use Rattle.std.specs.Prelude.{IsTrue}
use Rattle.rr_model.specs.Moment.Units.{unit_seconds}
use Rattle.rr_expand.proofs.SetLemmas.{ok_set, passed_more, passed_same}
use Rattle.rr_walk.specs.SetPositions.{offset_allowed, offset_holds}
use Rattle.rr_walk.proofs.OffsetLemmas.{allowed_all, passed_of_day}
use Rattle.rr_walk.proofs.offsets.allowed_offsets.Goals as goal
use Rattle.rr_walk.proofs.offsets.allowed_offsets.Goals.{then-allows_offset+in_ok-push, else-allows_offset}

pub loop-offset-preserved : goal.loop-offset-preserved
loop-offset-preserved c =
    let rule = c.args.rule.now in
    let own = c.time_of-own.result in
    let test : ℕ → Bool = λ s. offset_allowed rule.freq rule own.minute own.second s in
    let old = c.loop-offset.offsets.items in
    elim c.if-allows_offset.branch [
      | then-allows_offset+in_ok-push w ↦
          (let made = ap (λ v. v.items) w.offsets-is ∙ w.in_ok-push.ensures.items in
          passed_more test old c.if-allows_offset.offsets.items c.loop-offset.offset c.loop-offset.invariant
          (sym c.allows_offset.ensures ∙ w.if-allows_offset.true) made)
      | else-allows_offset w ↦ rw w.offsets-is
          (passed_same test old c.loop-offset.offset c.loop-offset.invariant (sym c.allows_offset.ensures ∙ w.if-allows_offset.false))
    ]

pub of-requires : goal.of-requires
of-requires c =
    let rule = c.args.rule.now in
    let own = c.time_of-own.result in
    passed_of_day (λ s. offset_allowed rule.freq rule own.minute own.second s) c.loop-offset.offsets.items c.as_slice.result.now c.loop-offset.offset
    (omega (arith, c.loop-offset.auto.offset-end, c.seconds_of_unit-offset-end.ensures.few)) c.as_slice.ensures.value c.loop-offset.invariant

pub returns : goal.returns
returns c =
    let rule = c.args.rule.now in
    let own = c.time_of-own in
    let last : c.loop-offset.offset ≡ unit_seconds rule.freq = omega
    (arith, c.loop-offset.auto.offset-end, c.loop-offset-test.false, c.seconds_of_unit-offset-end.ensures.value) in
    ok_set (λ s. (s < unit_seconds rule.freq) × IsTrue (offset_holds rule c.args.start s)) c.as_slice.result.now c.of.result
    (allowed_all rule c.args.start c.loop-offset.offsets.items c.as_slice.result.now own.result.minute own.result.second c.loop-offset.offset
    (rw (to_z-of_z c.ranges.start) at own.ensures.minute)
    (rw (to_z-of_z c.ranges.start) at own.ensures.second) last c.as_slice.ensures.value c.loop-offset.invariant)
    c.of.ensures
