use Rattle.std.proofs.Common.{◌≡◌, ◌+◌, ◌≤◌, refl, sym, ap, subst, ◌∙◌, arith, w8, to_z, of_z}
use Rattle.rr_model.specs.Graph.Uses.{uses_index}
use Rattle.rr_model.specs.Graph.Validity.{IsIndex}
use Rattle.rr_family.specs.GraphProfile.{index_place}
use Rattle.rr_graphfind.specs.Order.{least_pattern}
use Rattle.rr_graphfind.proofs.OrderLemmas.{last_number, next_number}
use Rattle.rr_graphfind.proofs.MemberLemmas.{index_as_read, least_valid, pattern_with, rest_of_type, same_use, valid_with}
use Rattle.rr_graphfind.proofs.next.after_index.Goals as goal

pub index_after-requires : goal.index_after-requires
index_after-requires c =
    let p = c.args.pattern in
    let v = c.requires in
    let read = index_as_read (uses_index p.form) p.index v.index in
    subst (λ used. IsIndex used (to_z w8 (of_z w8 p.index))) (sym c.uses_index.ensures)
    (subst (λ z. IsIndex (uses_index p.form) z) (sym read) v.index)

pub returns-in-Some : goal.returns-in-Some
returns-in-Some c =
    let p = c.args.pattern in
    let v = c.requires in
    let next = c.in-Some.ensures in
    let lies = subst (λ used. IsIndex used c.in-Some.index) c.uses_index.ensures next.0 in
    let read = index_as_read (uses_index p.form) c.in-Some.index lies in
    let index = to_z w8 (of_z w8 c.in-Some.index) in
    let is_index = subst (λ z. IsIndex (uses_index p.form) z) (sym read) lies in
    let least = least_pattern p.form p.interval in
    let good = least_valid p.form p.interval v.interval_low v.interval_high in
    let at : index_place index ≡ index_place p.index + 1 =
    ap index_place read ∙ next.1 ∙ ap (λ z. index_place z + 1) (index_as_read (uses_index p.form) p.index v.index) in
    rw c.least_pattern.ensures
    (next_number 5 p (omega arith) (pattern_with p p.first_day p.day_of_month p.month least.days index)
    (valid_with p v p.first_day p.day_of_month p.month least.days index v.first_day v.day_of_month v.month good.days is_index)
    (refl, (refl, (refl, (refl, (refl, tt))))) at
    (λ other valid same. (rest_of_type p.form p.interval other valid same.1.0).1.1.1.1))

pub returns-in-None : goal.returns-in-None
returns-in-None c =
    let p = c.args.pattern in
    let read = index_as_read (uses_index p.form) p.index c.requires.index in
    last_number 5 p
    (λ other valid same. subst (λ z. index_place other.index ≤ index_place z) read (c.in-None.ensures other.index
    (same_use uses_index (λ used. IsIndex used other.index) other.form p.form c.uses_index.result same.1.0 c.uses_index.ensures valid.index)))
    c.after_month.result c.after_month.ensures
