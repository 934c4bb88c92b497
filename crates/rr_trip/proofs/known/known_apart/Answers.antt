use Rattle.std.proofs.Common.{refl, rules}
use Rattle.rr_trip.proofs.KnownLemmas.{item_at, same_bytes}
use Rattle.rr_trip.proofs.known.known_apart.Goals as goal

pub returns-then-eq-2 : goal.returns-then-eq-2
returns-then-eq-2 c = record {
  index = c.in_ok-index.index;
  pair = c.in_ok-known.known.now;
  at = item_at c.args.pairs.now c.in_ok-index.index c.in_ok-known.known.now c.in_ok-known.ensures.lookup.3.0
      (c.in_ok-known.ensures.lookup.3.1 c.in_ok-known.known.now);
  first = same_bytes c.in_ok-known.known.now.a c.args.a.now (search rules);
  second = same_bytes c.in_ok-known.known.now.b c.args.b.now (search rules);
  is = refl;
}
