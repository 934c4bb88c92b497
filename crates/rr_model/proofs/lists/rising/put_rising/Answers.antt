use Rattle.std.proofs.Common.{◌∷◌, ◌++◌, [], ap, sym, ◌∙◌}
use Rattle.rr_model.specs.Rising.{below_by, with_value}
use Rattle.rr_model.proofs.RisingLemmas.{put_there, put_new, Rises-with_value}
use Rattle.rr_model.proofs.lists.rising.put_rising.Goals as goal

pub returns-in_ok-insert-clause-ok : goal.returns-in_ok-insert-clause-ok
returns-in_ok-insert-clause-ok g c =
    c.in_ok-insert.ensures.items
    ∙ put_new g.met.T.Ord.total c.args.items.now.items c.deref-else-is_above_last.result.now c.in-Err.index c.args.value
    c.deref-else-is_above_last.ensures.value c.requires
    c.in-Err.ensures.bound c.in-Err.ensures.position

pub returns-in_ok-insert-clause-rises : goal.returns-in_ok-insert-clause-rises
returns-in_ok-insert-clause-rises g c =
    rw (returns-in_ok-insert-clause-ok g c) (Rises-with_value (below_by g.T.Ord.cmp) c.args.items.now.items c.args.value c.requires)

pub returns-in_default-clause-ok : goal.returns-in_default-clause-ok
returns-in_default-clause-ok g c =
    put_there g.met.T.Ord.total c.args.items.now.items c.deref-else-is_above_last.result.now c.in_default.field-0 c.args.value
    c.deref-else-is_above_last.ensures.value c.requires
    c.in_default.ensures.bound c.in_default.ensures.position

pub returns-in_ok-push-clause-ok : goal.returns-in_ok-push-clause-ok
returns-in_ok-push-clause-ok g c =
    c.in_ok-push.ensures.items ∙ ap (λ xs. xs ++ (c.args.value ∷ [])) (sym c.deref.ensures.value)
    ∙ sym (c.is_above_last.ensures c.if-is_above_last.true) ∙ ap (λ xs. with_value (below_by g.T.Ord.cmp) xs c.args.value) c.deref.ensures.value

pub returns-in_ok-push-clause-rises : goal.returns-in_ok-push-clause-rises
returns-in_ok-push-clause-rises g c =
    rw (returns-in_ok-push-clause-ok g c) (Rises-with_value (below_by g.T.Ord.cmp) c.args.items.now.items c.args.value c.requires)
