use Rattle.std.proofs.Common.{◌≡◌, [], take, get_or, IfOk, Some, slice_get, sym, ap, subst, ◌∙◌}
use Rattle.std.proofs.lemmas.Option.{get_or_from_slice_get}
use Rattle.rr_times.proofs.TakeLemmas.{first_seconds}
use Rattle.rr_shapes.proofs.set_table.SetTable.prefix.Goals as goal

pub of-requires : goal.of-requires
of-requires c = rw c.as_slice-seconds.ensures.same (first_seconds c.args.count c.times.result.now c.as_slice-seconds.ensures.of_day)

pub returns-clause-placed : goal.returns-clause-placed
returns-clause-placed c =
    let whole : c.as_slice-seconds.result.now ≡ get_or c.args.self.now c.args.set.index [] =
    c.as_slice-seconds.ensures.same
    ∙ sym (get_or_from_slice_get c.self.inside.sets c.args.set.index c.times.result.now [] c.times.ensures)
    ∙ ap (λ sets. get_or sets c.args.set.index []) c.self.view_is in
    subst (λ times. IfOk c.place.result (λ set. slice_get c.place.new.self set.index ≡ Some times))
    (c.in_ok-first.ensures ∙ ap (take c.args.count) whole) c.place.ensures.placed
