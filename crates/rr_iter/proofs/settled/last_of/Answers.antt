use Rattle.std.proofs.Common.{◌≡◌, ◌-◌, length, sym, pos, ◌+ℤ◌, ◌<ℤ◌, w64, to_z, of_z, to_z-of_z, FitsSigned, rules, arith}
use Rattle.std.proofs.lemmas.Int.{ints}
use Rattle.std.specs.Prelude.{Some}
use Rattle.std.specs.List.{slice_get}
use Rattle.rr_model.specs.Moment.{day_part}
use Rattle.rr_iter.proofs.SettledLemmas.{last_past}
use Rattle.rr_iter.proofs.settled.last_of.Goals as goal

pub returns-in-Some-clause-past : goal.returns-in-Some-clause-past
returns-in-Some-clause-past c =
    let fits : FitsSigned w64 c.max.result = record { sfits = c.max.type_inv } in
    let m = to_z-of_z fits in
    let rises = rw c.as_slice.ensures.value at c.as_slice.ensures.rises in
    let at : slice_get c.args.dates.now (length c.args.dates.now - 1) ≡ Some c.in-Some.date.now =
    sym (rw c.as_slice.ensures.value at c.in-Some.ensures.value) in
    let date : FitsSigned w64 c.in-Some.date.now = search rules in
    let e = rw (to_z-of_z date) at c.day_part.ensures in
    let day : FitsSigned w64 c.day_part.result = record { sfits = c.day_part.type_inv } in
    let o = rw (to_z-of_z day) at c.max.ensures.other_bound in
    let bound : day_part c.args.kind c.in-Some.date.now <ℤ (to_z w64 (of_z w64 c.max.result) +ℤ pos 1) = omega (arith, ints, m, o, e) in
    last_past c.args.kind c.args.dates.now c.in-Some.date.now _ rises at bound
