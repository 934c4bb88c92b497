use Rattle.std.proofs.Common.{◌≡◌, Some, slice_get, sym, subst}
use Rattle.std.proofs.lemmas.List.Elements.{All-contains}
use Rattle.std.proofs.lemmas.Option.{slice_get_within}
use Rattle.rr_shapes.specs.Tables.{Extends, IsDifference, IsTable}
use Rattle.rr_shapes.specs.declared.pair_numbers.Pair.{Pair}
use Rattle.rr_shapes.proofs.TableLemmas.{new_difference, difference_of_old, table_with_difference}
use Rattle.rr_shapes.proofs.set_table.SetTable.difference.Goals.{After-put}
use Rattle.rr_shapes.proofs.set_table.SetTable.difference.Goals as goal

pub returns-in-Some-clause-difference : goal.returns-in-Some-clause-difference
returns-in-Some-clause-difference c =
    rw (← c.self.view_is) (All-contains (IsDifference c.self.inside.sets) c.self.inside.differences _ c.self.invariant.differences
    c.in-Some.ensures.known).difference

-- ---- once the difference is placed and remembered

grows : (c : After-put) → Extends c.self.inside.sets c.self-2.inside.sets
grows c = subst (Extends c.self.inside.sets) (sym c.self-2.view_is) c.place.ensures.kept

placed : (c : After-put) → slice_get c.self-2.inside.sets c.in_ok-set.set.index ≡ Some c.in_ok-left.left
placed c = subst (λ sets. slice_get sets c.in_ok-set.set.index ≡ Some c.in_ok-left.left) (sym c.self-2.view_is) c.in_ok-set.ensures.placed

table : (c : After-put) → IsTable c.self-2.inside.sets c.self-2.inside.unions c.put.new.self
table c =
    let pair : Pair = record { a = c.args.a.index; b = c.args.b.index } in
    table_with_difference c.self-2.inside.sets c.self-2.inside.unions c.self-2.inside.differences c.put.new.self (pair, c.in_ok-set.set.index)
    c.self-2.invariant (new_difference c.self.inside.sets c.self-2.inside.sets pair c.in_ok-set.set.index c.times.result.now c.times-2.result.now
    c.in_ok-left.left (grows c) c.times.ensures c.times-2.ensures (placed c) c.in_ok-left.ensures) c.put.ensures.nothing_else

pub invariant_of-self-in_err-put : goal.invariant_of-self-in_err-put
invariant_of-self-in_err-put c = table (goal.at.invariant_of-self-in_err-put c).After-put

pub invariant_of-self-3 : goal.invariant_of-self-3
invariant_of-self-3 c = table (goal.at.invariant_of-self-3 c).After-put

pub returns-clause-within : goal.returns-clause-within
returns-clause-within c =
    slice_get_within c.self-2.inside.sets c.in_ok-set.set.index c.in_ok-left.left (placed (goal.at.returns-clause-within c).After-put)

pub returns-clause-difference : goal.returns-clause-difference
returns-clause-difference c =
    let put = (goal.at.returns-clause-difference c).After-put in
    rw (← c.self.view_is) (difference_of_old c.self.inside.sets c.self-2.inside.sets (record { a = c.args.a.index; b = c.args.b.index }) c.in_ok-set.set.index
    c.times.result.now c.times-2.result.now c.in_ok-left.left (grows put) c.times.ensures c.times-2.ensures (placed put) c.in_ok-left.ensures)
