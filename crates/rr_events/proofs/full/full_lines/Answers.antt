use Rattle.std.proofs.Common.{List, [], ◌∷◌, ◌++◌, ap, sym, ◌∙◌}
use Rattle.std.specs.List.{filter}
use Rattle.rr_model.specs.declared.line.Line.{Line}
use Rattle.rr_events.specs.Cutting.{has_text, lines_at}
use Rattle.rr_events.proofs.EmptyLemmas.{first_full, none_full}
use Rattle.rr_events.proofs.LineLemmas.{cut-of, no-cut}
use Rattle.rr_events.proofs.full.full_lines.Goals as goal

pub returns-in_default : goal.returns-in_default
returns-in_default c =
    c.new-lines.ensures
    ∙ sym (none_full c.args.piece.first c.args.piece.text.now
    (no-cut c.args.piece.first c.args.piece.text.now _ c.in_default.is c.in_ok-cut.ensures))

pub returns : goal.returns
returns c =
    let cut = cut-of c.args.piece.first c.args.piece.text.now _ c.in-Some.cut c.in-Some.is c.in_ok-cut.ensures in
    c.in_ok-put_lines.ensures
    ∙ ap (λ (ls : List Line). ls ++ filter has_text (lines_at c.in-Some.cut.next c.in-Some.cut.after.now))
    (c.in_ok-put.ensures.ok ∙ ap (λ (ls : List Line). ls ++ c.in-Some.cut.line ∷ []) c.new-lines.ensures)
    ∙ sym (first_full c.args.piece.first c.args.piece.text.now c.in-Some.cut.line c.in-Some.cut.after.now c.in-Some.cut.next cut)
