use Rattle.std.proofs.Common.{rules, ◌≡◌, ◌∙◌, pos, ◌≤ℤ◌, ap, FitsSigned, w64, to_z-of_z, arith}
use Rattle.std.proofs.lemmas.Int.{ints}
use Rattle.rr_model.specs.Moment.{day_part}
use Rattle.rr_next.proofs.next.stop_of.Goals as goal

pub overflow_add-result : goal.overflow_add-result
overflow_add-result c =
    let fits : FitsSigned w64 c.in-Some.end = search rules in
    let near : day_part c.args.kind c.in-Some.end ≤ℤ pos 2_400_000_000_000 = rw c.in-Some.is at c.requires in
    let day : c.day_part.result ≡ day_part c.args.kind c.in-Some.end = c.day_part.ensures ∙ ap (day_part c.args.kind) (to_z-of_z fits) in
    omega (arith, ints, day, near)
