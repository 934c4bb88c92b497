use Rattle.std.proofs.Common.{◌≡◌, [], length, get_or, take, sym, ap, subst, ◌∙◌, rules, w64, to_z, of_z, to_z-of_z, FitsSigned, Some}
use Rattle.std.proofs.lemmas.Option.{get_or_from_slice_get, slice_get_within}
use Rattle.std.proofs.lemmas.List.{nil_from_length}
use Rattle.rr_lazy.specs.Except.{IsLacking}
use Rattle.rr_shapes.proofs.TableLemmas.{same_set}
use Rattle.rr_lazy.proofs.ExceptLemmas.{lacking_none, lacking_some}
use Rattle.rr_lazy.proofs.except.seconds_lacking.Goals as goal

pub prefix-requires-2 : goal.prefix-requires-2
prefix-requires-2 c = (same_set c.args.sets.now c.prefix.new.self c.args.b.number.index c.prefix.ensures.kept c.requires.b.within.0).0

pub difference-requires-clause-a : goal.difference-requires-clause-a
difference-requires-clause-a c = slice_get_within c.prefix-2.new.self c.in_ok-of_a.of_a.index _ (c.prefix-2.ensures.kept _ _ c.in_ok-of_a.ensures.placed)

pub difference-requires-clause-b : goal.difference-requires-clause-b
difference-requires-clause-b c = slice_get_within c.prefix-2.new.self c.in_ok-of_b.of_b.index _ c.in_ok-of_b.ensures.placed

pub returns-then-count-eq0-clause-left : goal.returns-then-count-eq0-clause-left
returns-then-count-eq0-clause-left c =
    let old = c.args.sets.now in
    let one = c.prefix.new.self in
    let two = c.prefix-2.new.self in
    let a = c.args.a in
    let b = c.args.b in
    let number = c.in_ok-number.number.index in
    let of_a = get_or_from_slice_get two c.in_ok-of_a.of_a.index _ [] (c.prefix-2.ensures.kept _ _ c.in_ok-of_a.ensures.placed) in
    let of_b = get_or_from_slice_get two c.in_ok-of_b.of_b.index _ [] c.in_ok-of_b.ensures.placed in
    let b_kept = (same_set old one b.number.index c.prefix.ensures.kept c.requires.b.within.0).1 in
    let same = c.as_slice-count.ensures.same ∙ sym (get_or_from_slice_get c.difference.new.self number _ [] c.times.ensures) in
    lacking_none old c.difference.new.self a b (get_or two c.in_ok-of_a.of_a.index []) (get_or two c.in_ok-of_b.of_b.index []) number _ of_a
    (of_b ∙ ap (take b.count) b_kept) c.in_ok-number.ensures.difference (ap length same)
    (sym same ∙ nil_from_length c.as_slice-count.result.now c.if-count-eq0.true)

pub returns-clause-left : goal.returns-clause-left
returns-clause-left c =
    let old = c.args.sets.now in
    let one = c.prefix.new.self in
    let two = c.prefix-2.new.self in
    let a = c.args.a in
    let b = c.args.b in
    let number = c.in_ok-number.number.index in
    let fits : FitsSigned w64 a.day = search rules in
    let of_a = get_or_from_slice_get two c.in_ok-of_a.of_a.index _ [] (c.prefix-2.ensures.kept _ _ c.in_ok-of_a.ensures.placed) in
    let of_b = get_or_from_slice_get two c.in_ok-of_b.of_b.index _ [] c.in_ok-of_b.ensures.placed in
    let b_kept = (same_set old one b.number.index c.prefix.ensures.kept c.requires.b.within.0).1 in
    let same = c.as_slice-count.ensures.same ∙ sym (get_or_from_slice_get c.difference.new.self number _ [] c.times.ensures) in
    rw (to_z-of_z fits) (lacking_some old c.difference.new.self a b (get_or two c.in_ok-of_a.of_a.index []) (get_or two c.in_ok-of_b.of_b.index []) number _ of_a
    (of_b ∙ ap (take b.count) b_kept) c.in_ok-number.ensures.difference (ap length same) c.in_ok-number.ensures.within
    (λ e. c.if-count-eq0.false (ap length (same ∙ e))))
