use Rattle.std.proofs.Common.{refl, sym, ap, subst, arith, w8, to_z, of_z}
use Rattle.rr_model.specs.Graph.Uses.{uses_days, uses_index}
use Rattle.rr_model.specs.Graph.Validity.{IsIndex, LiesIfUsed}
use Rattle.rr_family.specs.GraphProfile.{index_place}
use Rattle.rr_graphfind.proofs.OrderLemmas.{last_number, next_number}
use Rattle.rr_graphfind.proofs.MemberLemmas.{index_as_read, pattern_with, same_use, valid_with}
use Rattle.rr_graphfind.proofs.next.after_days.Goals as goal

pub returns-in-Some : goal.returns-in-Some
returns-in-Some c =
    let p = c.args.pattern in
    let v = c.requires in
    let next = c.in-Some.ensures in
    let lies = subst (λ used. LiesIfUsed used 1 127 0 c.in-Some.days) c.uses_days.ensures next.0 in
    let read = index_as_read (uses_index p.form) p.index v.index in
    let index = to_z w8 (of_z w8 p.index) in
    let is_index = subst (λ z. IsIndex (uses_index p.form) z) (sym read) v.index in
    next_number 6 p (omega arith) (pattern_with p p.first_day p.day_of_month p.month c.in-Some.days index)
    (valid_with p v p.first_day p.day_of_month p.month c.in-Some.days index v.first_day v.day_of_month v.month lies is_index)
    (refl, (refl, (refl, (refl, (refl, (ap index_place read, tt)))))) next.1
    (λ other valid same. tt)

pub returns-in-None : goal.returns-in-None
returns-in-None c =
    let p = c.args.pattern in
    last_number 6 p
    (λ other valid same. c.in-None.ensures other.days
    (same_use uses_days (λ used. LiesIfUsed used 1 127 0 other.days) other.form p.form c.uses_days.result same.1.0 c.uses_days.ensures valid.days))
    c.after_index.result c.after_index.ensures
