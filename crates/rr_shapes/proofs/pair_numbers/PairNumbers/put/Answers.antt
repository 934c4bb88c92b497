use Rattle.std.proofs.Common.{sym, subst, Contains}
use Rattle.rr_shapes.proofs.SlotLemmas.{still_known}
use Rattle.rr_shapes.proofs.UnionLemmas.{same_pair, one_pair, inserted_keeps, inserted_only, inserted_there}
use Rattle.rr_shapes.proofs.pair_numbers.PairNumbers.put.Goals as goal

pub returns-clause-there : goal.returns-clause-there
returns-clause-there c =
    rw c.in-Ok.ensures.entries (inserted_there same_pair one_pair c.args.pair c.args.number c.self.inside.known.entries)

pub returns-clause-nothing_else : goal.returns-clause-nothing_else
returns-clause-nothing_else c known now =
    rw (← c.self.view_is)
    (inserted_only same_pair one_pair c.args.pair c.args.number c.self.inside.known.entries known (subst (λ l. Contains l known) c.in-Ok.ensures.entries now))

pub returns-clause-kept : goal.returns-clause-kept
returns-clause-kept c known was other =
    subst (λ l. Contains l known) (sym c.in-Ok.ensures.entries)
    (inserted_keeps same_pair one_pair c.args.pair c.args.number c.self.inside.known.entries known (subst (λ l. Contains l known) (sym c.self.view_is) was) other)

pub invariant_of-self-2 : goal.invariant_of-self-2
invariant_of-self-2 c =
    let entries = c.self.inside.known.entries in
    still_known entries c.insert.new.self.entries c.self.inside.slots.items c.keep.new.slots.items (c.args.pair, c.args.number) c.self.invariant
    c.keep.ensures (rw c.in-Ok.ensures.entries (inserted_there same_pair one_pair c.args.pair c.args.number entries))
    (λ known was other.
    subst (λ l. Contains l known) (sym c.in-Ok.ensures.entries) (inserted_keeps same_pair one_pair c.args.pair c.args.number entries known was other))
