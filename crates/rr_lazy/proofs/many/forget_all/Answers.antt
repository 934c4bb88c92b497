use Rattle.std.proofs.Common.{◌<◌, ◌≤◌, length, rules, sym, ap, ◌∙◌, w64, to_z, of_z, to_z-of_z, subst, arith}
use Rattle.std.proofs.lemmas.List.{get_or_default}
use Rattle.std.specs.Option.{ForSome}
use Rattle.rr_lazy.specs.Ahead.{IsLeftAfterDay, day_seen}
use Rattle.rr_lazy.specs.Next.{IsInTable}
use Rattle.rr_lazy.specs.declared.ahead.LazyPart.{LazyPart}
use Rattle.rr_lazy.proofs.ManyLemmas.{all_set, left_more}
use Rattle.rr_lazy.proofs.many.forget_all.Goals as goal

pub loop-index-preserved : goal.loop-index-preserved
loop-index-preserved g c sets =
    let i = c.loop-index.invariant sets in
    let xs = c.loop-index.parts.items in
    let index = c.loop-index.index in
    let day = to_z w64 (of_z w64 c.args.day) in
    let l : index < length xs = search rules in
    let y : LazyPart g.row.A.Denot = record { lazy = c.index_mut.result.now.lazy; ahead = c.forget.new.ahead } in (
      left_more (λ p. day_seen sets p.ahead) (λ p. p.lazy) c.args.parts.now.items xs day index y l i.0
          (λ z. ap (λ p. p.lazy) (c.index_mut.ensures.value ∙ get_or_default xs index c.index_mut.result.now z l))
          (λ z. subst (λ p. IsLeftAfterDay (day_seen sets p.ahead) day (day_seen sets c.forget.new.ahead))
          (c.index_mut.ensures.value ∙ get_or_default xs index c.index_mut.result.now z l) (c.forget.ensures.left sets)),
      (λ all. all_set (λ p. ForSome p.ahead (IsInTable sets)) xs index y (i.1 all)
          (λ x e. i.1 all index c.index_mut.result.now l x (ap (λ p. p.ahead) (sym c.index_mut.ensures.value) ∙ c.forget.ensures.within x e))),
    )

pub returns-clause-left : goal.returns-clause-left
returns-clause-left g c sets =
    let t = to_z-of_z c.ranges.day in
    let i = rw t at (c.loop-index.invariant sets).0 in
    let over : length c.loop-index.parts.items ≤ c.loop-index.index = search rules in
    record {
      many = i.many;
      lazies = i.lazies;
      left = λ k z n m. i.left k z (omega (arith, i.many, over, n)) m;
      rest = λ k z n m. absurd (omega (arith, n, m));
    }

pub returns-clause-within : goal.returns-clause-within
returns-clause-within g c sets = (c.loop-index.invariant sets).1
