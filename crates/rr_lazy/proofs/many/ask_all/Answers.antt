use Rattle.std.proofs.Common.{rules, ◌<◌, length, ◌<ℤ◌, w64, to_z, of_z, to_z-of_z, ap, ◌∙◌}
use Rattle.std.proofs.lemmas.List.{get_or_default}
use Rattle.std.specs.Option.{ForNone}
use Rattle.rr_lazy.specs.Ahead.{IsAheadIn}
use Rattle.rr_lazy.specs.Tables.{all_more}
use Rattle.rr_lazy.proofs.ManyLemmas.{forest_set, all_set, first_set}
use Rattle.rr_lazy.proofs.many.ask_all.Goals as goal

pub returns-in_err-ask-clause-tree : goal.returns-in_err-ask-clause-tree
returns-in_err-ask-clause-tree g c =
    let l : c.loop-index.index < length c.loop-index.parts.items = search rules in
    forest_set (λ p. g.A.Lazy.tree p.lazy) c.loop-index.parts.items c.loop-index.index c.ask.new.part l
    (λ d. c.in_err-ask.ensures.tree
    ∙ ap (λ p. g.A.Lazy.tree p.lazy) (c.index_mut.ensures.value ∙ get_or_default c.loop-index.parts.items c.loop-index.index _ d l))
    ∙ c.loop-index.invariant.0

pub returns-in_err-ask-clause-kept : goal.returns-in_err-ask-clause-kept
returns-in_err-ask-clause-kept g c n t e = c.in_err-ask.ensures.kept n t (c.loop-index.invariant.1 n t e)

pub returns-in_err-ask-clause-known : goal.returns-in_err-ask-clause-known
returns-in_err-ask-clause-known g c =
    let f = to_z-of_z c.ranges.from in
    let sets = c.ask.new.sets in
    all_set (λ p. g.A.Lazy.knows p.lazy sets × IsAheadIn sets (g.A.Lazy.tree p.lazy) (g.A.Lazy.position p.lazy) c.args.from p.ahead) c.loop-index.parts.items
    c.loop-index.index c.ask.new.part
    (all_more g.A.Lazy.knows g.A.Lazy.tree g.A.Lazy.position g.met.A.Lazy.knows_more c.args.from (λ p. p.lazy) (λ p. p.ahead) c.loop-index.parts.items
    c.loop-index.sets sets c.in_err-ask.ensures.kept (rw f at c.loop-index.invariant.2))
    (c.in_err-ask.ensures.knows, rw f at c.in_err-ask.ensures.known)

pub loop-index-preserved : goal.loop-index-preserved
loop-index-preserved g c =
    let xs = c.loop-index.parts.items in
    let sets = c.ask.new.sets in
    let from = to_z w64 (of_z w64 c.args.from) in
    let l : c.loop-index.index < length xs = search rules in (
      forest_set (λ p. g.A.Lazy.tree p.lazy) xs c.loop-index.index c.ask.new.part l
          (λ d. c.in_ok-ask.ensures.tree ∙ ap (λ p. g.A.Lazy.tree p.lazy) (c.index_mut.ensures.value ∙ get_or_default xs c.loop-index.index _ d l))
          ∙ c.loop-index.invariant.0,
      (λ n t e. c.in_ok-ask.ensures.kept n t (c.loop-index.invariant.1 n t e)),
      all_set (λ p. g.A.Lazy.knows p.lazy sets × IsAheadIn sets (g.A.Lazy.tree p.lazy) (g.A.Lazy.position p.lazy) from p.ahead) xs c.loop-index.index
          c.ask.new.part
          (all_more g.A.Lazy.knows g.A.Lazy.tree g.A.Lazy.position g.met.A.Lazy.knows_more from (λ p. p.lazy) (λ p. p.ahead) xs c.loop-index.sets sets
          c.in_ok-ask.ensures.kept c.loop-index.invariant.2)
          (c.in_ok-ask.ensures.knows, c.in_ok-ask.ensures.known),
      first_set (λ p. ForNone p.ahead (to_z w64 (of_z w64 c.args.to) <ℤ g.A.Lazy.position p.lazy)) xs c.loop-index.index c.ask.new.part
          c.loop-index.invariant.3 c.in_ok-ask.ensures.none,
    )
