use Rattle.std.proofs.Common.{refl, ◌∙◌}
use Rattle.rr_zone.proofs.UnreadLemmas.{needed}
use Rattle.rr_zone.proofs.unread.needs_zone.Goals as goal

pub returns : goal.returns
returns c =
    c.ne.ensures
    ∙ needed c.args.is_instance c.args.piece c.as_slice.result.now
    (rw (c.as_slice.ensures.value, c.in_ok-push_event.ensures.value, c.new-out.ensures.items, c.in_ok-clock.ensures, c.new.ensures, c.new-none.ensures, c.new-3.ensures.items) refl)
