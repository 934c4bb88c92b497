use Rattle.std.proofs.Common.{to_z-of_z}
use Rattle.std.proofs.lemmas.Result.{on_ok_weaker}
use Rattle.rr_lazy.specs.Tables.{ahead_more}
use Rattle.rr_lazy.proofs.union.Union.fill_both.Goals as goal

pub returns-in_err-fill-clause-knows : goal.returns-in_err-fill-clause-knows
returns-in_err-fill-clause-knows g c =
    let s = c.args.self.now in
    let k = c.requires.knows in
    let old = c.args.sets.now in
    let new = c.fill.new.sets in
    let more = c.fill.ensures.kept in (
      c.fill.ensures.knows,
      g.met.B.Lazy.knows_more s.b.lazy old new more k.1,
      rw c.fill.ensures.tree (c.fill.ensures.known s.position k.2),
      ahead_more old new _ _ _ _ more k.3,
    )

pub returns-clause-knows : goal.returns-clause-knows
returns-clause-knows g c =
    let s = c.args.self.now in
    let k = c.requires.knows in
    let old = c.args.sets.now in
    let one = c.fill.new.sets in
    let two = c.fill-2.new.sets in
    let more = c.fill-2.ensures.kept in (
      g.met.A.Lazy.knows_more c.fill.new.lazy one two more c.fill.ensures.knows,
      c.fill-2.ensures.knows,
      rw c.fill.ensures.tree (ahead_more one two _ _ _ _ more (c.fill.ensures.known s.position k.2)),
      rw c.fill-2.ensures.tree (c.fill-2.ensures.known s.position (ahead_more old one _ _ _ _ c.fill.ensures.kept k.3)),
    )

pub returns-clause-kept : goal.returns-clause-kept
returns-clause-kept g c number times e = c.fill-2.ensures.kept number times (c.fill.ensures.kept number times e)

pub returns-clause-none_a : goal.returns-clause-none_a
returns-clause-none_a g c = on_ok_weaker c.fill-2.result (λ none. rw (to_z-of_z c.ranges.to) at c.in_ok-fill.ensures.none) c.fill-2.ensures.none

pub returns-clause-none_b : goal.returns-clause-none_b
returns-clause-none_b g c = rw (to_z-of_z c.ranges.to) at c.fill-2.ensures.none
