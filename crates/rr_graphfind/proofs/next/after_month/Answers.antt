use Rattle.std.proofs.Common.{refl, subst, arith}
use Rattle.rr_model.specs.Graph.Uses.{uses_month}
use Rattle.rr_model.specs.Graph.Validity.{LiesIfUsed}
use Rattle.rr_graphfind.specs.Order.{least_pattern}
use Rattle.rr_graphfind.proofs.OrderLemmas.{last_number, next_number}
use Rattle.rr_graphfind.proofs.MemberLemmas.{least_valid, pattern_with, rest_of_type, same_use, valid_with}
use Rattle.rr_graphfind.proofs.next.after_month.Goals as goal

pub returns-in-Some : goal.returns-in-Some
returns-in-Some c =
    let p = c.args.pattern in
    let v = c.requires in
    let next = c.in-Some.ensures in
    let lies = subst (λ used. LiesIfUsed used 1 12 0 c.in-Some.month) c.uses_month.ensures next.0 in
    let least = least_pattern p.form p.interval in
    let good = least_valid p.form p.interval v.interval_low v.interval_high in
    rw c.least_pattern.ensures
    (next_number 4 p (omega arith) (pattern_with p p.first_day p.day_of_month c.in-Some.month least.days least.index)
    (valid_with p v p.first_day p.day_of_month c.in-Some.month least.days least.index
    v.first_day v.day_of_month lies good.days good.index) (refl, (refl, (refl, (refl, tt)))) next.1
    (λ other valid same. (rest_of_type p.form p.interval other valid same.1.0).1.1.1))

pub returns-in-None : goal.returns-in-None
returns-in-None c =
    let p = c.args.pattern in
    last_number 4 p
    (λ other valid same. c.in-None.ensures other.month
    (same_use uses_month (λ used. LiesIfUsed used 1 12 0 other.month) other.form p.form c.uses_month.result same.1.0
    c.uses_month.ensures valid.month))
    c.after_day_of_month.result c.after_day_of_month.ensures
