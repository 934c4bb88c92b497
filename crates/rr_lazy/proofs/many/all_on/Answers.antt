use Rattle.std.proofs.Common.{◌≡◌, get_or, arith, length, subst, w64, to_z, of_z, to_z-of_z}
use Rattle.std.proofs.lemmas.List.{get_or_default}
use Rattle.rr_lazy.specs.Many.{IsGivenBySome}
use Rattle.rr_lazy.proofs.ManyLemmas.{given_is, given_more, more_given}
use Rattle.rr_lazy.proofs.many.all_on.Goals as goal

pub loop-index-init : goal.loop-index-init
loop-index-init g c = (omega arith, (λ n t e. e), (λ f e. absurd (cc)), (λ k m n d x. absurd (omega (arith, m))))

pub on_day-requires-clause-b : goal.on_day-requires-clause-b
on_day-requires-clause-b g c x e =
    given_more c.args.sets.now c.loop-index.sets x c.loop-index.invariant.1
    (c.requires c.loop-index.index c.index-parts-index.result c.loop-index-test.true x e)

pub loop-index-preserved : goal.loop-index-preserved
loop-index-preserved g c =
    let i = c.loop-index.invariant in
    let xs = c.args.parts.now in
    let index = c.loop-index.index in
    let l = c.loop-index-test.true in
    let x = get_or xs index c.index-parts-index.result in
    let start = c.args.sets.now in
    let day = to_z w64 (of_z w64 c.args.day) in (
      omega (arith, l),
      (λ n t e. c.on_day.ensures.kept n t (i.1 n t e)),
      given_is c.loop-index.sets c.on_day.new.sets c.loop-index.given x.ahead day c.in_ok-given.given c.in_ok-given.ensures.given,
      more_given start c.loop-index.sets c.on_day.new.sets (λ p. p.ahead) xs day index x l
          (get_or_default xs index c.index-parts-index.result x l) i.1
          (λ f e. (c.requires index c.index-parts-index.result l f e).within) c.loop-index.given c.in_ok-given.given i.3 c.in_ok-given.ensures.given,
    )

pub returns : goal.returns
returns g c =
    let i = c.loop-index.invariant in
    let t = to_z-of_z c.ranges.day in
    let e : c.loop-index.index ≡ length c.args.parts.now = omega (arith, i.0, c.loop-index-test.false) in
    record {
      kept = i.1;
      given = subst (λ n. IsGivenBySome c.args.sets.now (λ p. p.ahead) c.args.parts.now n c.args.day c.loop-index.sets c.loop-index.given) e (rw t at i.3);
    }
