use Rattle.std.proofs.Common.{[], length, get_or, take, sym, ap, ◌∙◌, rules, w64, to_z-of_z, FitsSigned}
use Rattle.std.proofs.lemmas.Option.{get_or_from_slice_get, slice_get_within}
use Rattle.rr_shapes.proofs.TableLemmas.{same_set}
use Rattle.rr_lazy.proofs.AheadLemmas.{given_joined}
use Rattle.rr_lazy.proofs.ahead.union_of.Goals as goal

pub prefix-requires-2 : goal.prefix-requires-2
prefix-requires-2 c = (same_set c.args.sets.now c.prefix.new.self c.args.b.number.index c.prefix.ensures.kept c.requires.b.within.0).0

pub union-requires-clause-a : goal.union-requires-clause-a
union-requires-clause-a c = slice_get_within c.prefix-2.new.self c.in_ok-of_a.of_a.index _ (c.prefix-2.ensures.kept _ _ c.in_ok-of_a.ensures.placed)

pub union-requires-clause-b : goal.union-requires-clause-b
union-requires-clause-b c = slice_get_within c.prefix-2.new.self c.in_ok-of_b.of_b.index _ c.in_ok-of_b.ensures.placed

pub returns-clause-given : goal.returns-clause-given
returns-clause-given c =
    let old = c.args.sets.now in
    let one = c.prefix.new.self in
    let two = c.prefix-2.new.self in
    let a = c.args.a in
    let b = c.args.b in
    let number = c.in_ok-number.number.index in
    let fits : FitsSigned w64 a.day = search rules in
    let of_a = get_or_from_slice_get two c.in_ok-of_a.of_a.index _ [] (c.prefix-2.ensures.kept _ _ c.in_ok-of_a.ensures.placed) in
    let of_b = get_or_from_slice_get two c.in_ok-of_b.of_b.index _ [] c.in_ok-of_b.ensures.placed in
    let b_kept = (same_set old one b.number.index c.prefix.ensures.kept c.requires.b.within.0).1 in
    let same = c.as_slice.ensures.same ∙ sym (get_or_from_slice_get c.union.new.self number _ [] c.times.ensures) in
    rw (to_z-of_z fits) (given_joined old c.union.new.self a b (get_or two c.in_ok-of_a.of_a.index []) (get_or two c.in_ok-of_b.of_b.index [])
    number _ c.requires.day of_a
    (of_b ∙ ap (take b.count) b_kept) c.in_ok-number.ensures.within c.in_ok-number.ensures.union (ap length same))
