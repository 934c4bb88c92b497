use Rattle.std.proofs.Common.{◌≤◌, refl, sym, subst, arith}
use Rattle.std.specs.Prelude.{Some}
use Rattle.rr_model.specs.Graph.Uses.{most_interval}
use Rattle.rr_graphfind.specs.Order.{IsFirstThat, IsLater, least_pattern}
use Rattle.rr_graphfind.proofs.OrderLemmas.{last_number, next_number}
use Rattle.rr_graphfind.proofs.MemberLemmas.{least_valid, rest_of_type}
use Rattle.rr_graphfind.proofs.next.after_form.Goals as goal

pub returns-in-Some : goal.returns-in-Some
returns-in-Some c =
    let p = c.args.pattern in
    let form = c.in-Some.form in
    let next = c.in-Some.ensures in
    subst (λ found. IsFirstThat (IsLater 2 p) (Some found)) (sym c.least_pattern.ensures)
    (next_number 1 p (omega arith) (least_pattern form p.interval) (least_valid form p.interval c.requires.interval_low next.0) (refl, tt) next.1
    (λ other valid same. rest_of_type form p.interval other valid same.1.0))

pub returns-in-None : goal.returns-in-None
returns-in-None c =
    let p = c.args.pattern in
    last_number 1 p (λ other valid same. c.in-None.ensures other.form (subst (λ n. n ≤ most_interval other.form) same.0 valid.interval_high))
    c.after_interval.result c.after_interval.ensures
