use Rattle.std.proofs.Common.{◌≡◌, ◌∙◌, FitsSigned, w64, to_z, of_z, to_z-of_z, ap, arith}
use Rattle.std.proofs.lemmas.Int.{ints}
use Rattle.std.proofs.lemmas.Result.{IfOk-weaker}
use Rattle.rr_next.specs.Window.{number_from}
use Rattle.rr_next.proofs.TakenLemmas.{first_from_on}
use Rattle.rr_next.proofs.WindowLemmas.{number_near}
use Rattle.rr_next.proofs.first.first_from.Goals as goal

pub first_numbers-requires-clause-early : goal.first_numbers-requires-clause-early
first_numbers-requires-clause-early g c =
    let s = g.A.DaySeq.sketch c.args.seq.now in
    let fits : FitsSigned w64 c.number_from.result = record { sfits = c.number_from.type_inv } in
    let e : to_z w64 (of_z w64 c.number_from.result) ≡ number_from s.kind c.args.from.kind c.args.from.at =
    to_z-of_z fits ∙ c.number_from.ensures ∙ ap (λ q. number_from q c.args.from.kind c.args.from.at) c.kind.ensures in
    let near = number_near s.kind c.args.from.kind c.args.from.at c.requires.years in
    rw e (omega (arith, ints, near.0))

pub first_numbers-requires-clause-late : goal.first_numbers-requires-clause-late
first_numbers-requires-clause-late g c =
    let s = g.A.DaySeq.sketch c.args.seq.now in
    let fits : FitsSigned w64 c.number_from.result = record { sfits = c.number_from.type_inv } in
    let e : to_z w64 (of_z w64 c.number_from.result) ≡ number_from s.kind c.args.from.kind c.args.from.at =
    to_z-of_z fits ∙ c.number_from.ensures ∙ ap (λ q. number_from q c.args.from.kind c.args.from.at) c.kind.ensures in
    let near = number_near s.kind c.args.from.kind c.args.from.at c.requires.years in
    rw e (omega (arith, ints, near.1))

pub returns-clause-near : goal.returns-clause-near
returns-clause-near g c = c.first_numbers.ensures.near

pub returns-clause-first : goal.returns-clause-first
returns-clause-first g c =
    let s = g.A.DaySeq.sketch c.args.seq.now in
    let fits : FitsSigned w64 c.number_from.result = record { sfits = c.number_from.type_inv } in
    let e : to_z w64 (of_z w64 c.number_from.result) ≡ number_from s.kind c.args.from.kind c.args.from.at =
    to_z-of_z fits ∙ c.number_from.ensures ∙ ap (λ q. number_from q c.args.from.kind c.args.from.at) c.kind.ensures in
    IfOk-weaker c.first_numbers.result _ _
    (λ ts h. first_from_on s c.args.from.kind c.args.from.at (to_z w64 (of_z w64 c.number_from.result)) c.args.count ts.items e h) c.first_numbers.ensures.first
