use Rattle.std.proofs.Common.{◌∙◌, sym, refl, ℕ, Bool, pos, arith}
use Rattle.rr_model.specs.Rule.Candidate.{allows_signed}
use Rattle.rr_expand.proofs.LeftOutLemmas.{next_first, next_more, next_all}
use Rattle.rr_expand.proofs.left_out.next_listed.Goals as goal

pub loop-next-init : goal.loop-next-init
loop-next-init c = next_first (λ i. allows_signed c.args.numbers.now (pos i) (pos c.args.many)) c.args.k c.args.many _ refl c.requires

pub loop-next-preserved : goal.loop-next-preserved
loop-next-preserved c =
    let listed = rw (c.from.ensures, c.from-in-loop-next.ensures) at c.allows_signed.ensures in
    next_more (λ i. allows_signed c.args.numbers.now (pos i) (pos c.args.many)) c.args.k c.args.many c.loop-next.next (omega (arith, c.loop-next-test.true))
    (sym listed ∙ c.if-allows_signed.false) c.loop-next.invariant

pub returns : goal.returns
returns c =
    next_all (λ i. allows_signed c.args.numbers.now (pos i) (pos c.args.many)) c.args.k c.args.many c.loop-next.next (omega (arith, c.loop-next-test.false))
    c.loop-next.invariant
