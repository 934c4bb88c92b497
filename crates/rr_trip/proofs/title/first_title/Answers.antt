use Rattle.std.proofs.Common.{◌<◌, ◌∙◌, Some, ap, length, sym, arith, rules, tests}
use Rattle.rr_trip.proofs.TitleLemmas.{first_of_a, first_of_b, first_of_none}
use Rattle.rr_trip.proofs.title.first_title.Goals as goal

pub returns-in-empty-empty : goal.returns-in-empty-empty
returns-in-empty-empty g c =
    let none : length c.args.of_a.now < 1 = search (rules, tests, arith) in
    let nothing : length c.args.of_b.now < 1 = search (rules, tests, arith) in
    sym (first_of_none (g.A.EventFile.titles c.args.a.now) (g.B.EventFile.titles c.args.b.now) c.args.of_a.now c.args.of_b.now none nothing)

pub returns-in_ok-title-in-empty-len1-up : goal.returns-in_ok-title-in-empty-len1-up
returns-in_ok-title-in-empty-len1-up g c =
    let none : length c.args.of_a.now < 1 = search (rules, tests, arith) in
    let some : 0 < length c.args.of_b.now = search (rules, tests, arith) in
    ap Some c.in_ok-title-in-empty-len1-up.ensures
    ∙ sym (first_of_b (g.A.EventFile.titles c.args.a.now) (g.B.EventFile.titles c.args.b.now) c.args.of_a.now c.args.of_b.now none some)

pub returns-in_ok-title-in-len1-up-default : goal.returns-in_ok-title-in-len1-up-default
returns-in_ok-title-in-len1-up-default g c =
    let some : 0 < length c.args.of_a.now = omega (arith, c.in-len1-up-default.len_at_least) in
    ap Some c.in_ok-title-in-len1-up-default.ensures
    ∙ sym (first_of_a (g.A.EventFile.titles c.args.a.now) (g.B.EventFile.titles c.args.b.now) c.args.of_a.now c.args.of_b.now some)
