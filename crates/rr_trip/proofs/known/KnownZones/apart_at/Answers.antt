use Rattle.std.proofs.Common.{rules, refl}
use Rattle.rr_trip.proofs.KnownLemmas.{found_pair, more_pairs}
use Rattle.rr_trip.proofs.known.KnownZones.apart_at.Goals as goal

pub returns-clause-known : goal.returns-clause-known
returns-clause-known c = λ ma mb known.
    let old = c.args.self.now in
    let pair = found_pair ma mb old c.args.a.now c.args.b.now c.args.pair.a c.args.pair.b c.index.result.now c.index-2.result.now
    c.found_apart-found.result known c.requires.named_a c.requires.named_b c.index.ensures c.index-2.ensures c.found_apart-found.ensures in
    more_pairs ma mb old _ (record { a = c.in_ok-of.field-0; b = c.in_ok-of-2.field-0; apart = c.found_apart-found.result }) known refl refl (search rules)
    (rw (c.in_ok-of.ensures, c.in_ok-of-2.ensures) pair)

pub returns-clause-apart : goal.returns-clause-apart
returns-clause-apart c = λ ma mb known.
    found_pair ma mb c.args.self.now c.args.a.now c.args.b.now c.args.pair.a c.args.pair.b c.index.result.now c.index-2.result.now
    c.found_apart-found.result known c.requires.named_a c.requires.named_b c.index.ensures c.index-2.ensures c.found_apart-found.ensures
