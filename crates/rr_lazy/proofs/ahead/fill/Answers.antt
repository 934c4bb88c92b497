use Rattle.std.proofs.Common.{ap, not, ◌∙◌, w64, to_z, of_z}
use Rattle.rr_lazy.proofs.AheadLemmas.{filled}
use Rattle.rr_lazy.proofs.ahead.fill.Goals as goal

pub returns-in_ok-ahead-clause-known : goal.returns-in_ok-ahead-clause-known
returns-in_ok-ahead-clause-known g c from =
    filled c.args.sets.now c.next.new.sets (g.L.Lazy.tree c.args.lazy.now) (g.L.Lazy.position c.args.lazy.now) (g.L.Lazy.position c.next.new.self) from
    (to_z w64 (of_z w64 c.args.to)) c.args.ahead.now c.in_ok-ahead.field-0 (c.is_none.ensures ∙ ap not c.if-is_none.true) c.in_ok-ahead.ensures.next
