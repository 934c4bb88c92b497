use Rattle.std.proofs.Common.{◌≡◌, ◌∙◌, ◌==◌, ◌&&◌, ◌+◌, not, true, false, length, drop, get_or, Some, sym, arith, length-drop}
use Rattle.rr_ical.proofs.ColonLemmas.{at_first_behind, no_colon}
use Rattle.rr_ical.proofs.value.count_to_colon.Goals as goal

pub returns-then-ends_parameters-clause-value : goal.returns-then-ends_parameters-clause-value
returns-then-ends_parameters-clause-value c =
    let text = c.args.text.now in
    let l = c.loop-index in
    let index = c.in-Some.index in
    let ends : ((get_or text (l.count + index) 0 == 58) && not l.is_quoted) ≡ true = sym c.ends_parameters.ensures ∙ c.if-ends_parameters.true in
    let found = rw ends at (at_first_behind l.is_quoted text l.count index (rw c.rest_from.ensures at c.in-Some.ensures)) in
    sym found ∙ l.invariant.same

pub loop-index-preserved : goal.loop-index-preserved
loop-index-preserved c =
    let text = c.args.text.now in
    let l = c.loop-index in
    let index = c.in-Some.index in
    let goes_on : ((get_or text (l.count + index) 0 == 58) && not l.is_quoted) ≡ false = sym c.ends_parameters.ensures ∙ c.if-ends_parameters.false in
    let passed = rw goes_on at (at_first_behind l.is_quoted text l.count index (rw c.rest_from.ensures at c.in-Some.ensures)) in
    let high = (rw c.rest_from.ensures at c.in-Some.ensures).0.high in
    record {
      within = omega (arith, high, length-drop l.count text, l.invariant.within);
      same = rw (c.is_quoted_after-is_quoted.ensures, c.rest_from-in-Some.ensures) (sym passed ∙ l.invariant.same);
    }

pub returns-clause-value : goal.returns-clause-value
returns-clause-value c =
    let l = c.loop-index in
    sym (no_colon l.is_quoted (drop l.count c.args.text.now) (rw c.rest_from.ensures at c.in_default.ensures)) ∙ l.invariant.same
