use Rattle.std.proofs.Common.{◌≡◌, ◌<◌, Some, length, slice_get, sym, subst}
use Rattle.std.proofs.lemmas.List.Elements.{All-contains}
use Rattle.std.proofs.lemmas.Option.{slice_get_within}
use Rattle.rr_shapes.specs.Tables.{Extends, IsTable, IsUnion}
use Rattle.rr_shapes.specs.declared.pair_numbers.Pair.{Pair}
use Rattle.rr_shapes.proofs.TableLemmas.{own_union, new_union, union_of_old, table_with_union}
use Rattle.rr_shapes.proofs.set_table.SetTable.union.Goals.{After-put}
use Rattle.rr_shapes.proofs.set_table.SetTable.union.Goals as goal

pub returns-then-a-b-clause-union : goal.returns-then-a-b-clause-union
returns-then-a-b-clause-union c =
    let within : c.args.a.index < length c.self.inside.sets = subst (λ sets. c.args.a.index < length sets) (sym c.self.view_is) c.requires.a in
    rw (← c.if-a-b.true, ← c.self.view_is) (own_union c.self.inside.sets c.args.a.index c.self.invariant.of_day within)

pub returns-in-Some-clause-union : goal.returns-in-Some-clause-union
returns-in-Some-clause-union c =
    rw (← c.self.view_is) (All-contains (IsUnion c.self.inside.sets) c.self.inside.unions _ c.self.invariant.unions c.in-Some.ensures.known).union

-- ---- once the union is placed and remembered

grows : (c : After-put) → Extends c.self.inside.sets c.self-2.inside.sets
grows c = subst (Extends c.self.inside.sets) (sym c.self-2.view_is) c.place.ensures.kept

placed : (c : After-put) → slice_get c.self-2.inside.sets c.in_ok-set.set.index ≡ Some c.in_ok-both.both
placed c = subst (λ sets. slice_get sets c.in_ok-set.set.index ≡ Some c.in_ok-both.both) (sym c.self-2.view_is) c.in_ok-set.ensures.placed

table : (c : After-put) → IsTable c.self-2.inside.sets c.put.new.self c.self-2.inside.differences
table c =
    let pair : Pair = record { a = c.args.a.index; b = c.args.b.index } in
    table_with_union c.self-2.inside.sets c.self-2.inside.unions c.put.new.self c.self-2.inside.differences (pair, c.in_ok-set.set.index)
    c.self-2.invariant (new_union c.self.inside.sets c.self-2.inside.sets pair c.in_ok-set.set.index c.times.result.now c.times-2.result.now
    c.in_ok-both.both (grows c) c.times.ensures c.times-2.ensures (placed c) c.in_ok-both.ensures) c.put.ensures.nothing_else

pub invariant_of-self-in_err-put : goal.invariant_of-self-in_err-put
invariant_of-self-in_err-put c = table (goal.at.invariant_of-self-in_err-put c).After-put

pub invariant_of-self-3 : goal.invariant_of-self-3
invariant_of-self-3 c = table (goal.at.invariant_of-self-3 c).After-put

pub returns-clause-within : goal.returns-clause-within
returns-clause-within c =
    slice_get_within c.self-2.inside.sets c.in_ok-set.set.index c.in_ok-both.both (placed (goal.at.returns-clause-within c).After-put)

pub returns-clause-union : goal.returns-clause-union
returns-clause-union c =
    let put = (goal.at.returns-clause-union c).After-put in
    rw (← c.self.view_is) (union_of_old c.self.inside.sets c.self-2.inside.sets (record { a = c.args.a.index; b = c.args.b.index }) c.in_ok-set.set.index
    c.times.result.now c.times-2.result.now c.in_ok-both.both (grows put) c.times.ensures c.times-2.ensures (placed put) c.in_ok-both.ensures)
