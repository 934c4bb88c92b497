use Rattle.std.proofs.Common.{◌≡◌, ◌+◌, List, ℕ, length, nat_abs, ◌-ℤ◌, to_z-of_z, subst, sym, ap, ◌∙◌, arith}
use Rattle.std.proofs.lemmas.Int.{ints}
use Rattle.rr_days.specs.Sketched.{IsWholeFold, sketch_of}
use Rattle.rr_days.proofs.RowLemmas.{slice_parts}
use Rattle.rr_days.proofs.folded.sequence_of_numbers.Goals as goal

pub sequence_in_parts-folded-requires-clause-whole : goal.sequence_in_parts-folded-requires-clause-whole
sequence_in_parts-folded-requires-clause-whole c =
    let a = c.args in
    let f = to_z-of_z c.ranges.first in
    let s = to_z-of_z c.ranges.settled in
    let days = c.days_between-days.result in
    let at : days ≡ nat_abs (a.settled -ℤ a.first) = omega (arith, ints, c.days_between-days.ensures, f, s) in
    let long : length a.numbers.items ≡ days + a.period = omega (arith, c.requires.whole.whole, at) in
    let same = slice_parts a.numbers.items c.first_of_row.result.now c.rest_of_row.result.now c.push_all.new.self c.push_all-2.new.self days a.period
    (rw c.new-before.ensures at c.in_ok-push_all.ensures) (rw c.as_slice.ensures.value at c.first_of_row.ensures)
    (rw c.new-cycle.ensures at c.in_ok-push_all-2.ensures) (rw c.as_slice-2.ensures.value at c.rest_of_row.ensures) long in
    rw (f, s) (subst (λ (l : List ℕ). IsWholeFold a.kind a.shapes l a.first a.settled a.period) (sym same.0) c.requires.whole)

pub returns : goal.returns
returns c =
    let a = c.args in
    let f = to_z-of_z c.ranges.first in
    let s = to_z-of_z c.ranges.settled in
    let days = c.days_between-days.result in
    let at : days ≡ nat_abs (a.settled -ℤ a.first) = omega (arith, ints, c.days_between-days.ensures, f, s) in
    let long : length a.numbers.items ≡ days + a.period = omega (arith, c.requires.whole.whole, at) in
    let same = slice_parts a.numbers.items c.first_of_row.result.now c.rest_of_row.result.now c.push_all.new.self c.push_all-2.new.self days a.period
    (rw c.new-before.ensures at c.in_ok-push_all.ensures) (rw c.as_slice.ensures.value at c.first_of_row.ensures)
    (rw c.new-cycle.ensures at c.in_ok-push_all-2.ensures) (rw c.as_slice-2.ensures.value at c.rest_of_row.ensures) long in
    (rw (f, s) at c.sequence_in_parts-folded.ensures) ∙ ap (λ (l : List ℕ). sketch_of a.kind a.shapes l a.first a.settled a.period) same.0
