use Rattle.std.proofs.Common.{negsuc, sym, arith}
use Rattle.std.proofs.lemmas.Int.{ints}
use Rattle.rr_lazy.specs.Ahead.{IsAheadIn}
use Rattle.rr_lazy.proofs.FirstLemmas.{first_day_is}
use Rattle.rr_lazy.proofs.ManyLemmas.{no_parts, all_of_none}
use Rattle.rr_lazy.proofs.many.Many.new.Goals as goal

pub invariant_of-result : goal.invariant_of-result
invariant_of-result g c = record {
  begun = omega (arith, ints, first_day_is);
  one_kind = no_parts (λ p. g.A.Lazy.tree p.lazy) c.new.result.items c.new.ensures.items;
}

pub returns-clause-unasked : goal.returns-clause-unasked
returns-clause-unasked g c = sym first_day_is

pub returns-clause-knows : goal.returns-clause-knows
returns-clause-knows g c sets =
    all_of_none (λ p. g.A.Lazy.knows p.lazy sets × IsAheadIn sets (g.A.Lazy.tree p.lazy) (g.A.Lazy.position p.lazy) (negsuc 719_161) p.ahead)
    c.new.result.items c.new.ensures.items
