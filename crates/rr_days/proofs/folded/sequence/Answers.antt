use Rattle.std.proofs.Common.{◌≡◌, ◌+◌, ◌++◌, List, ℕ, drop, length, nat_abs, ◌-ℤ◌, to_z-of_z, subst, sym, ap, ◌∙◌, arith}
use Rattle.std.proofs.lemmas.Int.{ints}
use Rattle.rr_days.specs.Sketched.{IsWholeFold, sketch_of}
use Rattle.rr_days.proofs.RowLemmas.{before_long, before_rest}
use Rattle.rr_days.proofs.folded.sequence.Goals as goal

pub sequence_of_rest-folded-requires-clause-whole : goal.sequence_of_rest-folded-requires-clause-whole
sequence_of_rest-folded-requires-clause-whole c =
    let a = c.args in
    let f = to_z-of_z c.ranges.first in
    let s = to_z-of_z c.ranges.settled in
    let days = c.days_between-days.result in
    let same : c.push_from.new.self ++ drop days a.numbers ≡ a.numbers =
    before_rest a.numbers c.push_from.new.self days (rw c.new-before.ensures at c.in_ok-push_from.ensures) in
    rw (f, s) (subst (λ (l : List ℕ). IsWholeFold a.kind a.shapes l a.first a.settled a.period) (sym same) c.requires.whole)

pub sequence_of_rest-folded-requires-clause-parts : goal.sequence_of_rest-folded-requires-clause-parts
sequence_of_rest-folded-requires-clause-parts c =
    let a = c.args in
    let f = to_z-of_z c.ranges.first in
    let s = to_z-of_z c.ranges.settled in
    let days = c.days_between-days.result in
    let at : days ≡ nat_abs (a.settled -ℤ a.first) = omega (arith, ints, c.days_between-days.ensures, f, s) in
    let long : length a.numbers ≡ days + a.period = omega (arith, c.requires.whole.whole, at) in
    rw (f, s) (before_long a.numbers c.push_from.new.self days (rw c.new-before.ensures at c.in_ok-push_from.ensures) (omega (arith, long)) ∙ at)

pub returns : goal.returns
returns c =
    let a = c.args in
    let f = to_z-of_z c.ranges.first in
    let s = to_z-of_z c.ranges.settled in
    let days = c.days_between-days.result in
    let same : c.push_from.new.self ++ drop days a.numbers ≡ a.numbers =
    before_rest a.numbers c.push_from.new.self days (rw c.new-before.ensures at c.in_ok-push_from.ensures) in
    (rw (f, s) at c.sequence_of_rest-folded.ensures) ∙ ap (λ (l : List ℕ). sketch_of a.kind a.shapes l a.first a.settled a.period) same
