use Rattle.std.proofs.Common.{rules, ◌≡◌, ◌∙◌, ap, not, sym, length}
use Rattle.rr_lazy.proofs.PassedOnLemmas.{none_is, only}
use Rattle.rr_lazy.proofs.many.Many.is_one_at_rest.Goals as goal

pub returns-then-len-eq1 : goal.returns-then-len-eq1
returns-then-len-eq1 g c h =
    let x = c.index.result.now in
    let many : length c.args.self.now.parts.items ≡ 1 = search rules in
    (x, rw (sym c.index.ensures) at (only c.args.self.now.parts.items x many), none_is x.ahead (c.is_none.ensures ∙ ap not h))
