use Rattle.std.proofs.Common.{refl, subst, arith}
use Rattle.rr_model.specs.Graph.Uses.{uses_first_day}
use Rattle.rr_model.specs.Graph.Validity.{LiesIfUsed}
use Rattle.rr_graphfind.specs.Order.{least_pattern}
use Rattle.rr_graphfind.proofs.OrderLemmas.{last_number, next_number}
use Rattle.rr_graphfind.proofs.MemberLemmas.{least_valid, pattern_with, rest_of_type, same_use, valid_with}
use Rattle.rr_graphfind.proofs.next.after_first_day.Goals as goal

pub returns-in-Some : goal.returns-in-Some
returns-in-Some c =
    let p = c.args.pattern in
    let v = c.requires in
    let next = c.in-Some.ensures in
    let lies = subst (λ used. LiesIfUsed used 0 6 6 c.in-Some.first_day) c.uses_first_day.ensures next.0 in
    let least = least_pattern p.form p.interval in
    let good = least_valid p.form p.interval v.interval_low v.interval_high in
    rw c.least_pattern.ensures
    (next_number 2 p (omega arith) (pattern_with p c.in-Some.first_day least.day_of_month least.month least.days least.index)
    (valid_with p v c.in-Some.first_day least.day_of_month least.month least.days least.index
    lies good.day_of_month good.month good.days good.index) (refl, (refl, tt)) next.1
    (λ other valid same. (rest_of_type p.form p.interval other valid same.1.0).1))

pub returns-in-None : goal.returns-in-None
returns-in-None c =
    let p = c.args.pattern in
    last_number 2 p
    (λ other valid same. c.in-None.ensures other.first_day
    (same_use uses_first_day (λ used. LiesIfUsed used 0 6 6 other.first_day) other.form p.form c.uses_first_day.result same.1.0
    c.uses_first_day.ensures valid.first_day))
    c.after_form.result c.after_form.ensures
