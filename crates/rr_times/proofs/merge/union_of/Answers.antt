use Rattle.std.proofs.Common.{refl, inl, inr}
use Rattle.std.proofs.lemmas.Bool.{false≢true}
use Rattle.rr_times.proofs.MergeLemmas.{neither_first, either_first, either_both, either_swaps, either_whole}
use Rattle.rr_times.proofs.merge.union_of.Goals as goal
use Rattle.rr_times.proofs.merge.union_of.Goals.{then-i-a, else-i-a+then-j-b}

pub loop-i-preserved-then-comes_first : goal.loop-i-preserved-then-comes_first
loop-i-preserved-then-comes_first c =
    let first = c.if-comes_first.ensures.0 refl in
    rw c.in_ok-push.ensures.items
    (either_first c.args.a.now c.args.b.now c.requires.a_rises c.requires.b_rises c.loop-i.both.items c.loop-i.i c.loop-i.j c.loop-i.invariant first.0
    first.1)

pub loop-i-preserved-then-comes_first-2 : goal.loop-i-preserved-then-comes_first-2
loop-i-preserved-then-comes_first-2 c =
    let first = c.if-comes_first-2.ensures.0 refl in
    let swapped = either_swaps c.args.a.now c.args.b.now c.loop-i.both.items c.loop-i.i c.loop-i.j c.loop-i.invariant in
    rw c.in_ok-push-2.ensures.items
    (either_swaps c.args.b.now c.args.a.now _ _ _
    (either_first c.args.b.now c.args.a.now c.requires.b_rises c.requires.a_rises c.loop-i.both.items c.loop-i.j c.loop-i.i swapped first.0 first.1))

pub loop-i-preserved : goal.loop-i-preserved
loop-i-preserved c =
    let here = neither_first _ _ _ _ (λ h. false≢true (c.if-comes_first.ensures.1 h)) (λ h. false≢true (c.if-comes_first-2.ensures.1 h))
    (elim c.if-i-a.branch [ then-i-a w ↦ inl w.if-i-a.true | else-i-a+then-j-b w ↦ inr w.if-j-b.true ]) in
    rw c.in_ok-push-3.ensures.items
    (either_both c.args.a.now c.args.b.now c.requires.a_rises c.requires.b_rises c.loop-i.both.items c.loop-i.i c.loop-i.j c.loop-i.invariant here.0 here.1
    here.2)

pub returns : goal.returns
returns c = either_whole c.args.a.now c.args.b.now c.requires.a_rises c.requires.b_rises c.loop-i.both.items c.loop-i.i c.loop-i.j c.loop-i.invariant
    c.if-i-a.false c.if-j-b.false
