use Rattle.std.proofs.Common.{rules}
use Rattle.rr_trip.proofs.KnownLemmas.{item_at, same_bytes}
use Rattle.rr_trip.proofs.known.KnownNames.known_index.Goals as goal

pub returns-then-eq : goal.returns-then-eq
returns-then-eq c = record {
  zone = c.in_ok-zone.zone.now;
  at = rw (← c.deref.ensures.value) (item_at c.deref.result.now c.in_ok-index.field-0.now c.in_ok-zone.zone.now c.in_ok-zone.ensures.lookup.3.0
      (c.in_ok-zone.ensures.lookup.3.1 c.in_ok-zone.zone.now));
  named = same_bytes c.in_ok-zone.zone.now.name c.args.name.now (search rules);
}
