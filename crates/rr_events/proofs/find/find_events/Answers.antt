use Rattle.std.proofs.Common.{sym, refl, ◌∙◌}
use Rattle.std.proofs.lemmas.Result.{err_from_is_err_and}
use Rattle.rr_events.proofs.FindLemmas.{all-found, at-start, begun-longer, fault-found, one_more, passed-over, still-open}
use Rattle.rr_events.proofs.LineLemmas.{cut-of, no-cut}
use Rattle.rr_events.proofs.find.find_events.Goals as goal

pub loop-finder-init : goal.loop-finder-init
loop-finder-init c = at-start c.args.text.now _ _ _ c.new-finder.ensures.names c.new-finder.ensures.begun c.new-finder.ensures.found

pub step-requires : goal.step-requires
step-requires c =
    let cut = cut-of c.loop-finder.number c.loop-finder.rest.now _ c.in-Some.cut c.in-Some.is c.in_ok-cut.ensures in
    begun-longer c.args.text.now _ c.loop-finder.finder.begun c.loop-finder.rest.now c.in-Some.cut.after.now c.loop-finder.number c.in-Some.cut.next
    c.in-Some.cut.line c.loop-finder.invariant.open_one cut

pub returns-in_err-step-clause-found : goal.returns-in_err-step-clause-found
returns-in_err-step-clause-found c =
    let cut = cut-of c.loop-finder.number c.loop-finder.rest.now _ c.in-Some.cut c.in-Some.is c.in_ok-cut.ensures in
    let p = err_from_is_err_and c.from_residual-in_err-step.result c.from_residual-in_err-step.ensures.1 in
    rw (p.1, p.2)
    (fault-found c.args.text.now c.loop-finder.rest.now c.in-Some.cut.after.now c.loop-finder.number c.in-Some.cut.next c.in-Some.cut.line
    (record { text = c.loop-finder.rest; first = c.loop-finder.number }) c.loop-finder.finder c.step.new.self c.in_err-step.field-0.0 cut
    c.loop-finder.invariant c.in_err-step.ensures)

pub loop-finder-preserved : goal.loop-finder-preserved
loop-finder-preserved c =
    let cut = cut-of c.loop-finder.number c.loop-finder.rest.now _ c.in-Some.cut c.in-Some.is c.in_ok-cut.ensures in
    let left = c.after_empty_lines-left in
    passed-over c.args.text.now _ _ _ c.in-Some.cut.next c.in-Some.cut.after.now left.result.text.now left.result.number left.ensures.empty
    (one_more c.args.text.now c.loop-finder.rest.now c.in-Some.cut.after.now c.loop-finder.number c.in-Some.cut.next c.in-Some.cut.line _ _ _ refl refl cut
    c.in_ok-step.ensures c.loop-finder.invariant)

pub returns-then-is_empty-clause-found : goal.returns-then-is_empty-clause-found
returns-then-is_empty-clause-found c =
    all-found c.args.text.now c.loop-finder.rest.now _ _ c.loop-finder.finder.found.items c.loop-finder.number c.loop-finder.invariant
    (no-cut c.loop-finder.number c.loop-finder.rest.now _ c.in_default.is c.in_ok-cut.ensures) (sym c.is_empty.ensures ∙ c.if-is_empty.true)

pub overflow_sub-result : goal.overflow_sub-result
overflow_sub-result c = c.loop-finder.invariant.started

pub returns-clause-found : goal.returns-clause-found
returns-clause-found c =
    still-open c.args.text.now c.loop-finder.rest.now _ _ c.loop-finder.finder.found.items c.loop-finder.number c.loop-finder.invariant
    (no-cut c.loop-finder.number c.loop-finder.rest.now _ c.in_default.is c.in_ok-cut.ensures) (sym c.is_empty.ensures ∙ c.if-is_empty.false)
