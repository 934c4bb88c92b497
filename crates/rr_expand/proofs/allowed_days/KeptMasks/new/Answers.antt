use Rattle.std.proofs.Common.{◌≡◌, subst, arith}
use Rattle.rr_expand.proofs.KeptMaskLemmas.{AreKeys, no_keys, keys_more, no_masks, no_year}
use Rattle.rr_expand.proofs.allowed_days.KeptMasks.new.Goals as goal

pub loop-init : goal.loop-init
loop-init c = no_keys c.new-kept.result.items c.new-kept.ensures.items

pub loop-preserved : goal.loop-preserved
loop-preserved c = keys_more c.loop.kept.items c.push.new.self.items c.loop.counter c.in_ok-push.ensures.items c.loop.invariant

pub returns : goal.returns
returns c f =
    let all : c.loop.counter ≡ 56 = omega (arith, c.loop.auto.counter-end, c.loop-test.false) in
    no_year f c.loop.kept (no_masks f c.loop.kept.items (subst (λ n. AreKeys n c.loop.kept.items) all c.loop.invariant))
