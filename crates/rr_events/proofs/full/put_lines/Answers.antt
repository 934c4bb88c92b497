use Rattle.std.proofs.Common.{List, ◌++◌, ap, sym, arith}
use Rattle.rr_model.specs.declared.line.Line.{Line}
use Rattle.rr_events.proofs.EmptyLemmas.{all_put, empty-none, one_put}
use Rattle.rr_events.proofs.LineLemmas.{cut-of, no-cut}
use Rattle.rr_events.proofs.full.put_lines.Goals as goal

pub loop-cut-init : goal.loop-cut-init
loop-cut-init c =
    let left = c.after_empty_lines-rest in
    record {
      same =
          ap (λ (ls : List Line). c.args.lines.now ++ ls)
          (sym (empty-none c.args.number c.args.text.now left.result.text.now left.result.number left.ensures.empty));
      few = left.ensures.few;
    }

pub loop-cut-preserved : goal.loop-cut-preserved
loop-cut-preserved c =
    let cut = cut-of c.loop-cut.rest.number c.loop-cut.rest.text.now _ c.in-Some.cut c.in-Some.is c.in_ok-cut.ensures in
    let left = c.after_empty_lines-rest-in-Some in
    record {
      same =
          one_put c.loop-cut.lines c.put_line.new.lines _ c.loop-cut.rest.number c.loop-cut.rest.text.now c.in-Some.cut.line c.in-Some.cut.after.now
          c.in-Some.cut.next left.result.text.now left.result.number cut left.ensures.empty c.in_ok-put_line.ensures c.loop-cut.invariant.same;
      few = omega (arith, left.ensures.few, cut.one.few, c.loop-cut.invariant.few);
    }

pub returns : goal.returns
returns c =
    all_put c.loop-cut.lines _ c.loop-cut.rest.number c.loop-cut.rest.text.now
    (no-cut c.loop-cut.rest.number c.loop-cut.rest.text.now _ c.in_default.is c.in_ok-cut.ensures) c.loop-cut.invariant.same
