use Rattle.std.proofs.Common.{length}
use Rattle.rr_trip.proofs.found.found_again.Goals as goal

pub returns-clause-found : goal.returns-clause-found
returns-clause-found g c =
    rw c.if-by_uid.false (record {
      of_a = c.in_ok-of_a.of_a.items;
      of_b = c.in_ok-of_b.of_b.items;
      none = c.in_ok-found.found;
      featured_a = c.in_ok-of_a.ensures;
      featured_b = c.in_ok-of_b.ensures;
      begin = c.in_ok-found.ensures.none;
      found_by = rw (← c.deref.ensures.value, ← c.deref-2.ensures.value) c.in_ok-find_by_all.ensures.found;
    })

pub returns-clause-sound : goal.returns-clause-sound
returns-clause-sound g c = c.in_ok-find_by_all.ensures.sound (length c.args.groups.now) c.in_ok-found.ensures.sound
