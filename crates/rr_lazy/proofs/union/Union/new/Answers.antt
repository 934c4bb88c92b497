use Rattle.std.proofs.Common.{sym, arith}
use Rattle.std.proofs.lemmas.Int.{ints}
use Rattle.rr_lazy.proofs.FirstLemmas.{first_day_is}
use Rattle.rr_lazy.proofs.AheadLemmas.{unasked_in}
use Rattle.rr_lazy.proofs.union.Union.new.Goals as goal

pub invariant_of-result : goal.invariant_of-result
invariant_of-result g c = record { begun = omega (arith, ints, first_day_is); one_kind = c.requires.one_kind }

pub returns-clause-unasked : goal.returns-clause-unasked
returns-clause-unasked g c = sym first_day_is

pub returns-clause-knows : goal.returns-clause-knows
returns-clause-knows g c sets a b = (
  a,
  b,
  unasked_in sets (g.A.Lazy.tree c.args.a) (g.A.Lazy.position c.args.a) c.requires.a,
  unasked_in sets (g.B.Lazy.tree c.args.b) (g.B.Lazy.position c.args.b) c.requires.b,
)
