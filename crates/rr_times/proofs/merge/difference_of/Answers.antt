use Rattle.std.proofs.Common.{refl, inl}
use Rattle.std.proofs.lemmas.Bool.{false≢true}
use Rattle.rr_times.proofs.MergeLemmas.{neither_first, alone_first, alone_second, alone_both, alone_whole}
use Rattle.rr_times.proofs.merge.difference_of.Goals as goal

pub loop-i-preserved-then-comes_first : goal.loop-i-preserved-then-comes_first
loop-i-preserved-then-comes_first c =
    let first = c.if-comes_first.ensures.0 refl in
    rw c.in_ok-push.ensures.items
    (alone_first c.args.a.now c.args.b.now c.requires.a_rises c.requires.b_rises c.loop-i.left.items c.loop-i.i c.loop-i.j c.loop-i.invariant first.0
    first.1)

pub loop-i-preserved-then-comes_first-2 : goal.loop-i-preserved-then-comes_first-2
loop-i-preserved-then-comes_first-2 c =
    let first = c.if-comes_first-2.ensures.0 refl in
    alone_second c.args.a.now c.args.b.now c.requires.a_rises c.requires.b_rises c.loop-i.left.items c.loop-i.i c.loop-i.j c.loop-i.invariant first.0 first.1

pub loop-i-preserved : goal.loop-i-preserved
loop-i-preserved c =
    let here = neither_first _ _ _ _ (λ h. false≢true (c.if-comes_first.ensures.1 h)) (λ h. false≢true (c.if-comes_first-2.ensures.1 h))
    (inl c.loop-i-test.true) in
    alone_both c.args.a.now c.args.b.now c.requires.a_rises c.requires.b_rises c.loop-i.left.items c.loop-i.i c.loop-i.j c.loop-i.invariant here.0 here.1 here.2

pub returns : goal.returns
returns c = alone_whole c.args.a.now c.args.b.now c.requires.a_rises c.requires.b_rises c.loop-i.left.items c.loop-i.i c.loop-i.j c.loop-i.invariant
    c.loop-i-test.false
